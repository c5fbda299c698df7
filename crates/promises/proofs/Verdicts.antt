-- The verdicts on the plans of the cases and of the witnesses, from their bytes. Assumes nothing.
use Rattle.std.specs.Prelude.{Err, Ok}
use Prim.Native.Nat.{ℕ, ◌<◌}
use mathlib.Core.Bool.{Bool, true, false}
use mathlib.Core.List.{List, [], ◌∷◌}
use mathlib.Core.Path.{◌≡◌, refl, sym, ◌∙◌}
use native.Mathlib.Omega.{arith}
use lib.Dec.{leb, ltb}
use lib.ListN.{length}
use borrow.Author.Tests.{ltb-true}
use Rattle.below.specs.Below.{first_from, first_below, any_below, count_below, sum_below, largest_below}
use Rattle.below.specs.Lists.{list_below, join_over, Every, Every.none, Every.more}
use Rattle.block.proofs.Numbers.{AreBytes}
use Rattle.block.specs.Bytes.{number_at, bytes_of, put}
use Rattle.block.specs.Sums.{sealed}
use Rattle.day.specs.Days.{open_mark}
use Rattle.form.proofs.Formed.{Formed}
use Rattle.layout.specs.Layout.{Written, filled, head_bytes, period_start, period_block, body_of, laid_out}
use Rattle.period.specs.Doses.{dose_breaks, too_much}
use Rattle.period.specs.Period.{ahead_of, limit_of, period_breaks}
use Rattle.plan.specs.Fields.{dose_of, dose_bytes}
use Rattle.plan.specs.Periods.{blocks_of, block_at, more_of, doses_of, dose_in, has_unmarked, has_marked, class_of}
use Rattle.refusal.specs.Refusals.{rule_at}
use Rattle.verdict.specs.Coverage.{hole, holes, bare, shares_with, shares, meets_at, meets, hole_at, is_member}
use Rattle.verdict.specs.Code.Groups.{hole_after}
use Rattle.verdict.specs.Verdict.{plan_limit, breaks, verdict_of}
use Rattle.verdict.specs.declared.Group.TheVariants.{All}
use Rattle.promises.specs.Cases.{one_daily, two_daily, signed_plan}
use Rattle.promises.specs.Plans.{head, unmarked, marked, ranging, daily, fixed, need, mixed, empty, plan, revision}
use Rattle.promises.specs.Witnesses.{both_kinds, only_need, weekly}
use Rattle.promises.proofs.Judging.{clear_from5, any_after, holes_after, together_after, is_broken_lem, is_hole, is_accepted_lem}
use Rattle.promises.proofs.Laid.{PeriodRight, unmarked_right, marked_right, ranging_right, iterated_right, daily_right, fixed_right, need_right, mixed_right, empty_right, laid_formed, laid_are_bytes}

-- what is computed of a plan: it is short, no rule from 5 to 16 is broken, and whether the day after some period is a hole
record Computed (n : ℕ) (ws : List Written) (hole : Bool) : Type 0 where
  few : leb (length (body_of ws)) 31 ≡ true
  some : ltb 0 (blocks_of (revision n ws)) ≡ true
  clear : clear_from5 12 (revision n ws) ≡ 12
  after : any_after (revision n ws) ≡ hole

abbrev ws6 : List Written
ws6 = fixed 6547 6550 ∷ fixed 6557 6560 ∷ []

abbrev ws7 : List Written
ws7 = fixed 6547 6550 ∷ empty 6551 6556 ∷ fixed 6557 6560 ∷ []

abbrev ws8 : List Written
ws8 = fixed 6547 6550 ∷ need 6551 6554 ∷ fixed 6555 6558 ∷ []

abbrev ws9 : List Written
ws9 = fixed 6547 6550 ∷ mixed 6548 6551 ∷ []

record Everything : Type 0 where
  p6 : Computed 1 ws6 true
  p7 : Computed 1 ws7 false
  p8 : Computed 1 ws8 true
  p8_together : any_below (blocks_of (plan ws8)) (hole_after All (plan ws8)) ≡ false
  p9_few : leb (length (body_of ws9)) 31 ≡ true
  p9_some : ltb 2 (blocks_of (plan ws9)) ≡ true
  p9_clear : clear_from5 11 (plan ws9) ≡ 11
  p9_block : first_below (blocks_of (plan ws9)) (breaks (plan ws9) 16) ≡ 2
  one : Computed 1 one_daily false
  two : Computed 1 two_daily false
  four : Computed 4 (fixed 8000 open_mark ∷ []) false
  five : Computed 5 (fixed 8000 open_mark ∷ []) false
  both : Computed 1 (mixed 6547 6550 ∷ []) false
  kinds : Computed 1 both_kinds false
  needs : Computed 1 only_need false
  weeks : Computed 1 weekly false

all : Everything
unfolding head unmarked marked ranging daily fixed need mixed empty revision one_daily two_daily both_kinds only_need weekly filled head_bytes period_start dose_bytes period_block body_of laid_out number_at bytes_of put sealed list_below join_over first_from first_below any_below count_below sum_below largest_below dose_breaks too_much ahead_of limit_of period_breaks dose_of block_at more_of doses_of dose_in has_unmarked has_marked class_of bare shares_with shares breaks meets_at meets hole_at is_member hole_after clear_from5 any_after
all =
    record {
      p6 = record { few = refl; some = refl; clear = refl; after = refl };
      p7 = record { few = refl; some = refl; clear = refl; after = refl };
      p8 = record { few = refl; some = refl; clear = refl; after = refl };
      p8_together = refl;
      p9_few = refl;
      p9_some = refl;
      p9_clear = refl;
      p9_block = refl;
      one = record { few = refl; some = refl; clear = refl; after = refl };
      two = record { few = refl; some = refl; clear = refl; after = refl };
      four = record { few = refl; some = refl; clear = refl; after = refl };
      five = record { few = refl; some = refl; clear = refl; after = refl };
      both = record { few = refl; some = refl; clear = refl; after = refl };
      kinds = record { few = refl; some = refl; clear = refl; after = refl };
      needs = record { few = refl; some = refl; clear = refl; after = refl };
      weeks = record { few = refl; some = refl; clear = refl; after = refl };
    }

-- the verdict by it
module _ {n : ℕ} {ws : List Written} {t : Bool} (l : n < 4294967296) (h : Every PeriodRight ws) (c : Computed n ws t) where
  of_accepted : t ≡ false → verdict_of (revision n ws) ≡ Ok (length (revision n ws))
  of_accepted e = is_accepted_lem (laid_formed n l ws h c.few) c.clear (c.after ∙ e)

  of_hole : t ≡ true → verdict_of (revision n ws) ≡ Err (rule_at 17 0)
  of_hole e = is_hole (laid_formed n l ws h c.few) c.clear (ltb-true _ _ c.some) (c.after ∙ e)

pub P6 : verdict_of (plan (fixed 6547 6550 ∷ fixed 6557 6560 ∷ [])) ≡ Err (rule_at 17 0)
P6 =
    of_hole (omega arith)
    (more (fixed_right 6547 6550 (omega arith) (omega arith) refl)
    (more (fixed_right 6557 6560 (omega arith) (omega arith) refl) none))
    all.p6 refl

pub P7 : verdict_of (plan ws7) ≡ Ok (length (plan ws7))
P7 =
    of_accepted (omega arith)
    (more (fixed_right 6547 6550 (omega arith) (omega arith) refl)
    (more (empty_right 6551 6556 (omega arith) (omega arith) refl)
    (more (fixed_right 6557 6560 (omega arith) (omega arith) refl) none)))
    all.p7 refl

p8_right : Every PeriodRight ws8
p8_right =
    more (fixed_right 6547 6550 (omega arith) (omega arith) refl)
    (more (need_right 6551 6554 (omega arith) (omega arith) refl)
    (more (fixed_right 6555 6558 (omega arith) (omega arith) refl) none))

pub P8 : verdict_of (plan ws8) ≡ Err (rule_at 17 0)
P8 = of_hole (omega arith) p8_right all.p8 refl

-- it has a hole, and none over all periods together
p8_formed : Formed plan_limit (plan ws8)
p8_formed = laid_formed 1 (omega arith) ws8 p8_right all.p8.few

pub P8-holes : holes (plan ws8) ≡ true
P8-holes = holes_after p8_formed ∙ all.p8.after

pub P8-together : hole All All (plan ws8) ≡ false
P8-together = sym (together_after p8_formed) ∙ all.p8_together

pub P9 : verdict_of (plan ws9) ≡ Err (rule_at 16 2)
P9 =
    is_broken_lem
    (laid_formed 1 (omega arith) ws9
    (more (fixed_right 6547 6550 (omega arith) (omega arith) refl)
    (more (mixed_right 6548 6551 (omega arith) (omega arith) refl) none))
    all.p9_few)
    11 (omega arith) all.p9_clear all.p9_block (ltb-true _ _ all.p9_some)

pub one_accepted : verdict_of (plan one_daily) ≡ Ok (length (plan one_daily))
one_accepted = of_accepted (omega arith) one_daily_lem all.one refl
  where
    one_daily_lem : Every PeriodRight one_daily
    one_daily_lem = unfold one_daily in more (daily_right 8000 8105 (omega arith) (omega arith) refl (more (unmarked_right 100 (omega arith)) none)) none

pub two_accepted : verdict_of (plan two_daily) ≡ Ok (length (plan two_daily))
two_accepted = of_accepted (omega arith) two_daily_lem all.two refl
  where
    two_daily_lem : Every PeriodRight two_daily
    two_daily_lem = unfold two_daily in more (daily_right 8000 open_mark (omega arith) (omega arith) refl (more (unmarked_right 200 (omega arith)) none)) none

-- the plans of the sets of dates
pub kinds_accepted : verdict_of (plan both_kinds) ≡ Ok (length (plan both_kinds))
kinds_accepted = of_accepted (omega arith) both_kinds_lem all.kinds refl
  where
    both_kinds_lem : Every PeriodRight both_kinds
    both_kinds_lem =
        unfold both_kinds in
        more (daily_right 8000 open_mark (omega arith) (omega arith) refl (more (ranging_right 100 200 (omega arith) (omega arith)) none))
        (more (daily_right 8000 open_mark (omega arith) (omega arith) refl (more (marked_right 300 (omega arith)) none)) none)

pub needs_accepted : verdict_of (plan only_need) ≡ Ok (length (plan only_need))
needs_accepted = of_accepted (omega arith) only_need_lem all.needs refl
  where
    only_need_lem : Every PeriodRight only_need
    only_need_lem = unfold only_need in more (daily_right 8000 open_mark (omega arith) (omega arith) refl (more (marked_right 300 (omega arith)) none)) none

-- the plan of the steps
pub weekly_accepted : verdict_of (plan weekly) ≡ Ok (length (plan weekly))
weekly_accepted = of_accepted (omega arith) weekly_right all.weeks refl
  where
    weekly_right : Every PeriodRight weekly
    weekly_right = unfold weekly in more (iterated_right 8000 8105 (omega arith) (omega arith) refl 7 (omega arith) (more (unmarked_right 100 (omega arith)) none)) none

-- the plan that is signed, in both revisions
signed_right : Every PeriodRight (fixed 8000 open_mark ∷ [])
signed_right = more (fixed_right 8000 open_mark (omega arith) (omega arith) refl) none

pub four_accepted : verdict_of (signed_plan 4) ≡ Ok (length (signed_plan 4))
unfolding signed_plan
four_accepted = of_accepted (omega arith) signed_right all.four refl

pub five_accepted : verdict_of (signed_plan 5) ≡ Ok (length (signed_plan 5))
unfolding signed_plan
five_accepted = of_accepted (omega arith) signed_right all.five refl

pub four_bytes : AreBytes (signed_plan 4)
unfolding signed_plan
four_bytes = laid_are_bytes 4 (omega arith) (fixed 8000 open_mark ∷ []) signed_right all.four.few

pub five_bytes : AreBytes (signed_plan 5)
unfolding signed_plan
five_bytes = laid_are_bytes 5 (omega arith) (fixed 8000 open_mark ∷ []) signed_right all.five.few

-- a plan with doses of both marks
both_right : Every PeriodRight (mixed 6547 6550 ∷ [])
both_right = more (mixed_right 6547 6550 (omega arith) (omega arith) refl) none

pub both_accepted : verdict_of (plan (mixed 6547 6550 ∷ [])) ≡ Ok (length (plan (mixed 6547 6550 ∷ [])))
both_accepted = of_accepted (omega arith) both_right all.both refl

pub both_bytes : AreBytes (plan (mixed 6547 6550 ∷ []))
both_bytes = laid_are_bytes 1 (omega arith) (mixed 6547 6550 ∷ []) both_right all.both.few
