-- The sets of dates of the witnesses, from bytes and through the verdict. Assumes nothing.
use Rattle.std.specs.Prelude.{Ok}
use Prim.Native.Nat.{ℕ}
use mathlib.Core.Bool.{false}
use mathlib.Core.List.{List, []}
use mathlib.Core.Path.{◌≡◌, refl}
use Rattle.below.proofs.Search.{any_not}
use Rattle.below.specs.Below.{first_from, first_below, any_below, sum_below, largest_below}
use Rattle.below.specs.Lists.{keep, list_below, pick_below, join_below, join_over, sum_over}
use Rattle.block.specs.Bytes.{number_at, bytes_of, put}
use Rattle.block.specs.Sums.{sealed}
use Rattle.day.specs.Days.{open_mark}
use Rattle.doses.specs.Doses.{position_of, doses_of_period, doses_on}
use Rattle.layout.specs.Layout.{Written, filled, head_bytes, period_start, period_block, body_of, laid_out}
use Rattle.need.specs.Need.{choice_of, due_on, need_on, stops_at, stop_day_by, has_stop_by, has_stop}
use Rattle.pause.specs.Pauses.{is_paused, packed_in, pauses_in, are_out}
use Rattle.plan.specs.Fields.{dose_of, dose_bytes}
use Rattle.plan.specs.Periods.{block_at, more_of, doses_of, dose_in, has_unmarked, has_marked, class_of}
use Rattle.supply.specs.Covered.{covered}
use Rattle.supply.specs.Dates.{has_interval, is_ranging, is_needed, date_by, set_of, set_by, dates_of, packed_dates_of}
use Rattle.supply.specs.Supply.{lasting_of, asked_by, own_by, judged_of, supply_of}
use Rattle.supply.specs.declared.Dates.{Dates}
use Rattle.verdict.specs.Verdict.{verdict_of}
use Rattle.promises.specs.Cases.{one_daily}
use Rattle.promises.specs.Plans.{head, unmarked, marked, ranging, daily, plan, revision}
use Rattle.promises.specs.Sets.{NeedOnly}
use Rattle.promises.specs.Witnesses.{both_kinds, only_need}
use Rattle.promises.proofs.Verdicts.{one_accepted, kinds_accepted, needs_accepted}

abbrev dates_of_four : Dates
dates_of_four = record { end = open_mark; minimum = 8088; maximum = 8082; third = 8078; fourth = 8080 }

abbrev date_of_end : Dates
date_of_end = record { end = 8105; minimum = open_mark; maximum = open_mark; third = open_mark; fourth = open_mark }

abbrev dates_of_need : Dates
dates_of_need = record { end = open_mark; minimum = open_mark; maximum = open_mark; third = 8080; fourth = 8080 }

-- behind the verdict, with a list of pauses and with packed ones
record Computed (ws : List Written) (pack : ℕ) (x : Dates) : Type 0 where
  set : set_by (Ok 0) (asked_by 8077 pack (are_out []) 0) (set_of (is_ranging 8077 (plan ws)) (is_needed 8077 (plan ws)) (date_by (λ c. judged_of (plan ws) 8077 pack c (are_out []) []))) ≡ Ok x
  packed_set :
      set_by (Ok 0) (asked_by 8077 pack (are_out (pauses_in [])) 0) (set_of (is_ranging 8077 (plan ws)) (is_needed 8077 (plan ws)) (date_by (λ c. judged_of (plan ws) 8077 pack c (are_out (pauses_in [])) (pauses_in []))))
      ≡ Ok x

record All : Type 0 where
  kinds : Computed both_kinds 1200 dates_of_four
  end : Computed one_daily 50000 date_of_end
  needs : Computed only_need 1200 dates_of_need
  both : judged_of (plan both_kinds) 8077 1200 3 (are_out []) [] ≡ Ok (record { days = 2; last = 8078; rest = 200; reason = 1 })
  needed : judged_of (plan both_kinds) 8077 1200 4 (are_out []) [] ≡ Ok (record { days = 4; last = 8080; rest = 0; reason = 1 })
  none_fixed : has_stop 1 (plan only_need) ≡ false

all : All
unfolding head unmarked marked ranging daily revision one_daily both_kinds only_need filled head_bytes period_start dose_bytes period_block body_of laid_out number_at bytes_of put sealed list_below join_over first_from first_below any_below sum_below largest_below dose_of block_at more_of doses_of dose_in has_unmarked has_marked class_of pick_below join_below sum_over position_of doses_of_period doses_on keep is_paused packed_in are_out judged_of asked_by own_by lasting_of need_on due_on choice_of stop_day_by has_stop_by covered has_interval is_ranging is_needed set_of
all =
    record {
      kinds = record { set = refl; packed_set = refl };
      end = record { set = refl; packed_set = refl };
      needs = record { set = refl; packed_set = refl };
      both = refl;
      needed = refl;
      none_fixed = refl;
    }

-- through it
module _ {ws : List Written} {pack n : ℕ} {x : Dates} (e : verdict_of (plan ws) ≡ Ok n) (c : Computed ws pack x) where
  through : dates_of (plan ws) 8077 pack [] ≡ Ok x
  through = rw e c.set

  packed_through : packed_dates_of (plan ws) 8077 pack [] ≡ Ok x
  packed_through = rw e c.packed_set

pub four_dates : dates_of (plan both_kinds) 8077 1200 [] ≡ Ok dates_of_four
four_dates = through kinds_accepted all.kinds

pub end_date : dates_of (plan one_daily) 8077 50000 [] ≡ Ok date_of_end
end_date = through one_accepted all.end

pub need_dates : dates_of (plan only_need) 8077 1200 [] ≡ Ok dates_of_need
need_dates = through needs_accepted all.needs

pub packed_four_dates : packed_dates_of (plan both_kinds) 8077 1200 [] ≡ Ok dates_of_four
packed_four_dates = packed_through kinds_accepted all.kinds

pub packed_end_date : packed_dates_of (plan one_daily) 8077 50000 [] ≡ Ok date_of_end
packed_end_date = packed_through one_accepted all.end

pub packed_need_dates : packed_dates_of (plan only_need) 8077 1200 [] ≡ Ok dates_of_need
packed_need_dates = packed_through needs_accepted all.needs

pub by_both : supply_of (plan both_kinds) 8077 1200 3 [] ≡ Ok (record { days = 2; last = 8078; rest = 200; reason = 1 })
by_both = rw kinds_accepted all.both

pub by_needed : supply_of (plan both_kinds) 8077 1200 4 [] ≡ Ok (record { days = 4; last = 8080; rest = 0; reason = 1 })
by_needed = rw kinds_accepted all.needed

-- the need-only plan has no fixed or mixed period
pub only_need_lem : NeedOnly (plan only_need)
unfolding has_stop_by choice_of
only_need_lem b l t = rw t at (any_not (stops_at 1 (class_of (plan only_need)) (plan only_need)) all.none_fixed b l)
