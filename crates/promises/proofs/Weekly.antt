-- The steps of the witnesses, from bytes and through the verdict. Assumes nothing.
use Rattle.std.specs.Prelude.{Ok}
use Prim.Native.Nat.{ℕ, ◌*◌, ◌<◌}
use mathlib.Core.Bool.{true, false}
use mathlib.Core.List.{[]}
use mathlib.Core.Logic.{⊎_elim}
use mathlib.Core.Path.{◌≡◌, refl}
use native.Mathlib.Omega.{arith}
use Rattle.below.proofs.Tests.{true_not_false, same_or_not}
use Rattle.below.specs.Below.{first_from, first_below, any_below, all_below, sum_below, largest_below}
use Rattle.below.specs.Lists.{keep, list_below, pick_below, join_below, join_over, sum_over}
use Rattle.block.specs.Bytes.{number_at, bytes_of, put}
use Rattle.block.specs.Sums.{sealed}
use Rattle.doses.specs.Doses.{position_of, doses_of_period, doses_on}
use Rattle.layout.specs.Layout.{filled, head_bytes, period_start, period_block, body_of, laid_out}
use Rattle.need.specs.Need.{choice_of, due_on, need_on, stop_day_by, has_stop_by, stop_day}
use Rattle.pause.specs.Pauses.{is_paused, packed_in, pauses_in, are_out}
use Rattle.plan.specs.Fields.{interval_of, first_of, dose_of, dose_bytes}
use Rattle.plan.specs.Periods.{blocks_of, block_at, is_period, more_of, doses_of, dose_in, has_unmarked, has_marked, class_of}
use Rattle.supply.specs.Steps.{Counted, is_chosen, has_other, iterated_on, is_taken, block_from, days_from, after, counted_by}
use Rattle.supply.specs.Supply.{asked_by, own_by}
use Rattle.promises.specs.Plans.{head, unmarked, plan, revision}
use Rattle.promises.specs.Rounds.{in_steps, packed_in_steps, InOnePeriod}
use Rattle.promises.specs.Witnesses.{weekly}
use Rattle.promises.proofs.Verdicts.{weekly_accepted}

abbrev counted_in_two : Counted
counted_in_two = record { answer = Ok (record { days = 29; last = 8105; rest = 49500; reason = 2 }); count = 2 }

abbrev counted_in_seven : Counted
counted_in_seven = record { answer = Ok (record { days = 27; last = 8104; rest = 50; reason = 1 }); count = 7 }

-- the plan, and what is counted behind the verdict
record All : Type 0 where
  blocks : blocks_of (plan weekly) ≡ 2
  head_none : is_period (plan weekly) 0 ≡ false
  period : is_period (plan weekly) 1 ≡ true
  first : first_of (block_at (plan weekly) 1) ≡ 8000
  interval : interval_of (block_at (plan weekly) 1) ≡ 7
  step : days_from 2 (plan weekly) [] (stop_day 2 (plan weekly)) 8077 50000 ≡ 28
  two : counted_by (plan weekly) 8077 50000 2 (are_out []) [] ≡ counted_in_two
  packed_two : counted_by (plan weekly) 8077 50000 2 (are_out (pauses_in [])) (pauses_in []) ≡ counted_in_two
  seven : counted_by (plan weekly) 8078 350 2 (are_out []) [] ≡ counted_in_seven

all : All
unfolding head unmarked revision weekly filled head_bytes period_start dose_bytes period_block body_of laid_out number_at bytes_of put sealed list_below join_over first_from first_below any_below all_below sum_below largest_below dose_of block_at more_of doses_of dose_in has_unmarked has_marked class_of pick_below join_below sum_over position_of doses_of_period doses_on keep is_paused packed_in are_out asked_by own_by need_on due_on choice_of stop_day_by has_stop_by is_chosen has_other iterated_on is_taken block_from days_from after counted_by
all =
    record {
      blocks = refl;
      head_none = refl;
      period = refl;
      first = refl;
      interval = refl;
      step = refl;
      two = refl;
      packed_two = refl;
      seven = refl;
    }

-- its one period is iterated
only_one : (c : ℕ) → c < blocks_of (plan weekly) → is_period (plan weekly) c ≡ true → c ≡ 1
only_one c l t =
    ⊎_elim
    (λ (e : c ≡ 0). absurd (true_not_false (rw e at t) all.head_none))
    (λ (n : (c ≡ 0 → ⊥)). omega (arith, all.blocks, l, n))
    (same_or_not c 0)

pub in_one_period : InOnePeriod (plan weekly) 8077 [] 1
in_one_period =
    record {
      plan = record { block = omega (arith, all.blocks); period = all.period; iterated = omega (arith, all.interval); only = only_one };
      unpaused = refl;
      begun = omega (arith, all.first);
    }

pub seven_days : interval_of (block_at (plan weekly) 1) ≡ 7
seven_days = all.interval

pub four_rounds : days_from 2 (plan weekly) [] (stop_day 2 (plan weekly)) 8077 50000 ≡ 4 * 7
four_rounds = all.step

-- through the verdict
pub two_steps : in_steps (plan weekly) 8077 50000 2 [] ≡ counted_in_two
two_steps = rw weekly_accepted all.two

pub packed_two_steps : packed_in_steps (plan weekly) 8077 50000 2 [] ≡ counted_in_two
packed_two_steps = rw weekly_accepted all.packed_two

pub seven_steps : in_steps (plan weekly) 8078 350 2 [] ≡ counted_in_seven
seven_steps = rw weekly_accepted all.seven
