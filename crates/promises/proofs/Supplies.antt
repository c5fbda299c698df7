-- P10 to P13, from bytes and through the verdict. Assumes nothing.
use Rattle.std.specs.Prelude.{Ok}
use mathlib.Core.Bool.{Bool, not, ◌||◌}
use mathlib.Core.List.{List, [], ◌∷◌, ◌++◌}
use mathlib.Core.Path.{◌≡◌, refl}
use Prim.Native.Nat.{ℕ, ◌%◌}
use lib.Dec.{eqb}
use lib.ListN.{length}
use Rattle.below.specs.Below.{first_from, first_below, any_below, sum_below, largest_below}
use Rattle.below.specs.Lists.{keep, list_below, pick_below, join_below, join_over, sum_over}
use Rattle.block.specs.Bytes.{number_at, bytes_of, put}
use Rattle.block.specs.Sums.{sealed}
use Rattle.day.specs.Days.{open_mark}
use Rattle.doses.specs.Doses.{position_of, doses_of_period, doses_on}
use Rattle.layout.specs.Layout.{Written, filled, head_bytes, period_start, period_block, body_of, laid_out}
use Rattle.pause.specs.Pauses.{is_paused, are_out, packed_in, pauses_in}
use Rattle.pause.specs.declared.Pause.{Pause}
use Rattle.plan.specs.Fields.{dose_of, dose_bytes}
use Rattle.plan.specs.Periods.{block_at, more_of, doses_of, dose_in, has_unmarked, has_marked, class_of}
use Rattle.need.specs.Need.{choice_of, due_on, need_on, stop_day_by, has_stop_by}
use Rattle.supply.specs.Covered.{covered}
use Rattle.supply.specs.Supply.{lasting_of, asked_by, own_by, judged_of}
use Rattle.supply.specs.declared.Lasting.{Lasting}
use Rattle.verdict.specs.Verdict.{verdict_of}
use Rattle.promises.specs.Cases.{Holds, Case.supplied, one_daily, two_daily}
use Rattle.promises.specs.Plans.{head, unmarked, daily, plan, revision}
use Rattle.promises.proofs.Verdicts.{one_accepted, two_accepted}

abbrev pauses13 : List Pause
pauses13 = record { first = 8078; last = 8080 } ∷ []

abbrev bytes13 : List ℕ
bytes13 = bytes_of 4 8078 ++ bytes_of 4 8080

-- 21 of packed pauses: "another length is 21"
abbrev packed_out : List ℕ → Bool
packed_out s = not (eqb (length s % 8) 0) || are_out (pauses_in s)

-- behind the verdict, by either choice
record Computed (ws : List Written) (pack : ℕ) (ps : List Pause) (s : List ℕ) (x : Lasting) : Type 0 where
  low : judged_of (plan ws) 8077 pack 1 (are_out ps) ps ≡ Ok x
  upper : judged_of (plan ws) 8077 pack 2 (are_out ps) ps ≡ Ok x
  packed_low : judged_of (plan ws) 8077 pack 1 (packed_out s) (pauses_in s) ≡ Ok x
  packed_upper : judged_of (plan ws) 8077 pack 2 (packed_out s) (pauses_in s) ≡ Ok x

record All : Type 0 where
  p10 : Computed one_daily 50000 [] [] (record { days = 29; last = 8105; rest = 47100; reason = 2 })
  p11 : Computed two_daily 500 [] [] (record { days = 2; last = 8078; rest = 100; reason = 1 })
  p12 : Computed two_daily 199 [] [] (record { days = 0; last = open_mark; rest = 199; reason = 1 })
  p13 : Computed two_daily 500 pauses13 bytes13 (record { days = 5; last = 8081; rest = 100; reason = 1 })

all : All
unfolding head unmarked daily revision one_daily two_daily filled head_bytes period_start dose_bytes period_block body_of laid_out number_at bytes_of put sealed list_below join_over first_from first_below any_below sum_below largest_below dose_of block_at more_of doses_of dose_in has_unmarked has_marked class_of pick_below join_below sum_over position_of doses_of_period doses_on keep is_paused packed_in are_out judged_of asked_by own_by lasting_of need_on due_on choice_of stop_day_by has_stop_by covered
all =
    record {
      p10 = record { low = refl; upper = refl; packed_low = refl; packed_upper = refl };
      p11 = record { low = refl; upper = refl; packed_low = refl; packed_upper = refl };
      p12 = record { low = refl; upper = refl; packed_low = refl; packed_upper = refl };
      p13 = record { low = refl; upper = refl; packed_low = refl; packed_upper = refl };
    }

module _ {ws : List Written} {pack n : ℕ} {ps : List Pause} {s : List ℕ} {x : Lasting} (e : verdict_of (plan ws) ≡ Ok n) (c : Computed ws pack ps s x) where
  through : Holds (supplied ws 8077 pack ps s x)
  through = (rw e c.low, rw e c.upper, rw e c.packed_low, rw e c.packed_upper)

pub P10 : Holds (supplied one_daily 8077 50000 [] [] (record { days = 29; last = 8105; rest = 47100; reason = 2 }))
P10 = through one_accepted all.p10

pub P11 : Holds (supplied two_daily 8077 500 [] [] (record { days = 2; last = 8078; rest = 100; reason = 1 }))
P11 = through two_accepted all.p11

pub P12 : Holds (supplied two_daily 8077 199 [] [] (record { days = 0; last = open_mark; rest = 199; reason = 1 }))
P12 = through two_accepted all.p12

pub P13 : Holds (supplied two_daily 8077 500 pauses13 bytes13 (record { days = 5; last = 8081; rest = 100; reason = 1 }))
P13 = through two_accepted all.p13
