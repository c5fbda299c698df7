-- Source 001's mixed plan, from its bytes. Assumes nothing.
use Prim.Native.Nat.{ℕ, ◌+◌, ◌≤◌, ◌<◌}
use mathlib.Core.Bool.{true, false}
use mathlib.Core.List.{List, [], ◌∷◌, map}
use mathlib.Core.Path.{◌≡◌, refl, ap}
use native.Mathlib.Omega.{arith}
use lib.Dec.{leb}
use lib.ListN.{length}
use borrow.Author.Tests.{ne_eqb, le-ltb, le-leb}
use Rattle.refusal.specs.Refusals.{refusal_in}
use Rattle.below.specs.Below.{first_from, first_below, any_below, count_below, sum_below, largest_below}
use Rattle.below.specs.Lists.{list_below, join_below, join_over, keep, Every, Every.none, Every.more}
use Rattle.block.proofs.Numbers.{AreBytes}
use Rattle.block.specs.Bytes.{number_at, bytes_of, put}
use Rattle.block.specs.Sums.{sealed}
use Rattle.day.specs.Calendar.{is_leap, months, before, year_start, number_of}
use Rattle.day.specs.Days.{is_no_span}
use Rattle.form.proofs.Formed.{Formed}
use Rattle.layout.proofs.Every.{every_map, every_append}
use Rattle.layout.specs.Code.Fits.{HeadFits, HeadRanged}
use Rattle.layout.specs.Layout.{filled, head_bytes, period_start, period_block, body_of, laid_out}
use Rattle.layout.specs.Reading.{header_at, doses_at}
use Rattle.period.specs.Doses.{dose_breaks, too_much}
use Rattle.period.specs.Period.{ahead_of, limit_of, period_breaks}
use Rattle.plan.specs.Fields.{dose_of, dose_bytes}
use Rattle.plan.specs.Periods.{block_at, more_of, doses_of, dose_in, has_unmarked, has_marked, class_of}
use Rattle.plan.specs.declared.Dose.{Dose}
use Rattle.split.specs.Parts.{next_dosed, shared_in, behind, brought_by, part_of}
use Rattle.verdict.specs.Coverage.{bare, shares_with, shares, meets_at, meets, hole_at, is_member}
use Rattle.verdict.specs.Code.Groups.{hole_after}
use Rattle.verdict.specs.Verdict.{plan_limit, breaks}
use Rattle.promises.specs.Demand2.{IsAccepted}
use Rattle.promises.specs.Example.{december, dose, four, two, period, mixed_head, mixed_periods, mixed_plan, line_of, line, Example}
use Rattle.promises.proofs.Demand2.{demand2}
use Rattle.promises.proofs.Judging.{clear_from5, any_after, is_accepted_lem}
use Rattle.promises.proofs.Laid.{DoseRight, PeriodRight, plan_formed, plan_are_bytes}

record Computed : Type 0 where
  few : leb (length (body_of mixed_periods)) 31 ≡ true
  clear : clear_from5 12 mixed_plan ≡ 12
  after : any_after mixed_plan ≡ false
  fixed : map line_of (part_of false mixed_plan) ≡ line 4 7 8 ∷ line 8 11 0 ∷ line 12 15 4 ∷ []
  need : map line_of (part_of true mixed_plan) ≡ line 4 7 8 ∷ line 8 11 0 ∷ line 12 15 8 ∷ []

computed : Computed
unfolding mixed_head mixed_periods mixed_plan is_leap months before year_start number_of filled head_bytes period_start dose_bytes period_block body_of laid_out number_at bytes_of put sealed list_below join_below join_over keep first_from first_below any_below count_below sum_below largest_below dose_breaks too_much ahead_of limit_of period_breaks dose_of block_at more_of doses_of dose_in has_unmarked has_marked class_of bare shares_with shares breaks meets_at meets hole_at is_member hole_after clear_from5 any_after header_at doses_at next_dosed shared_in behind brought_by part_of
computed = record { few = refl; clear = refl; after = refl; fixed = refl; need = refl }

-- its doses, periods and head have the right form
module _ (d kind mark x : ℕ) (l : d < 65536) (k : kind ≤ 4) (m : mark ≤ 1) (h : x ≤ 9999999999) where
  dose_right : DoseRight (dose d kind mark x)
  dose_right =
      record {
        fits = record { day = l; kind = omega arith; mark = omega arith; minute = omega arith; low = omega arith; high = omega arith };
        ranged = rw (le-ltb 5 kind (omega arith), le-ltb 1 mark m, ne_eqb kind 5 (λ e. omega arith), le-ltb 9999999999 x h);
      }

module _ (d : ℕ) (l : d < 65536) where
  four_right : (x : ℕ) → x ≤ 9999999999 → Every DoseRight (four d x)
  four_right x h =
      more (dose_right d 1 0 x l (omega arith) (omega arith) h)
      (more (dose_right d 2 1 100 l (omega arith) (omega arith) (omega arith))
      (more (dose_right d 3 0 x l (omega arith) (omega arith) h)
      (more (dose_right d 4 1 100 l (omega arith) (omega arith) (omega arith)) none)))

  two_right : Every DoseRight (two d)
  two_right =
      more (dose_right d 2 1 100 l (omega arith) (omega arith) (omega arith))
      (more (dose_right d 4 1 100 l (omega arith) (omega arith) (omega arith)) none)

-- the days of December 2017
days : (d : ℕ) → 1 ≤ d → december d ≡ 6543 + d
unfolding is_leap months before year_start number_of sum_below
days d l = omega arith

period_right : (first last : ℕ) → 1 ≤ first → first ≤ last → last ≤ 31 → {ds : List Dose} → Every DoseRight ds → PeriodRight (period first last ds)
period_right first last a b c rs =
    let f = days first a in
    let l = days last (omega arith) in
    let span : is_no_span (december first) (december last) ≡ false =
    rw (f, l, le-leb (6543 + first) 73048 (omega arith), le-leb (6543 + last) 73048 (omega arith), ne_eqb (6543 + last) 4294967295 (λ e. omega arith), le-ltb (6543 + last) (6543 + first) (omega arith)) in
    record {
      fits = record {
        header = record { interval = omega arith; first = omega arith; end = omega arith };
        doses = every_map (λ d (r : DoseRight d). r.fits) rs;
      };
      ranged = record { days = span; doses = every_map (λ d (r : DoseRight d). r.ranged) rs };
    }

mixed_right : Every PeriodRight mixed_periods
unfolding mixed_periods
mixed_right =
    more
    (period_right 4 7 (omega arith) (omega arith) (omega arith)
    (every_append (four_right 1 (omega arith) 300 (omega arith))
    (every_append (four_right 2 (omega arith) 300 (omega arith))
    (every_append (four_right 3 (omega arith) 100 (omega arith)) (four_right 4 (omega arith) 100 (omega arith))))))
    (more (period_right 8 11 (omega arith) (omega arith) (omega arith) none)
    (more
    (period_right 12 15 (omega arith) (omega arith) (omega arith)
    (every_append (four_right 1 (omega arith) 100 (omega arith))
    (every_append (four_right 2 (omega arith) 100 (omega arith)) (every_append (two_right 3 (omega arith)) (two_right 4 (omega arith))))))
    none))

head_fits : HeadFits mixed_head
unfolding mixed_head
head_fits =
    record {
      unit = omega arith;
      start = omega (arith, days 1 (omega arith));
      end = omega arith;
      number = omega arith;
      revision = omega arith;
      vka = omega arith;
    }

head_ranged : HeadRanged mixed_head
unfolding mixed_head
head_ranged =
    let e = days 1 (omega arith) in
    record { days = rw e refl; vka = omega arith }

mixed_formed : Formed plan_limit mixed_plan
unfolding mixed_plan
mixed_formed = plan_formed mixed_head head_fits head_ranged mixed_periods mixed_right computed.few

mixed_bytes : AreBytes mixed_plan
unfolding mixed_plan
mixed_bytes = plan_are_bytes mixed_head head_fits head_ranged mixed_periods mixed_right computed.few

mixed_accepted : IsAccepted mixed_plan
mixed_accepted = ap refusal_in (is_accepted_lem mixed_formed computed.clear computed.after)

pub example : Example
example =
    record {
      verdict = mixed_accepted;
      fixed = rw (demand2.lists mixed_plan false mixed_bytes mixed_accepted).periods computed.fixed;
      need = rw (demand2.lists mixed_plan true mixed_bytes mixed_accepted).periods computed.need;
    }
