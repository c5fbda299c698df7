-- Low amounts need no more than upper amounts on any day of an accepted plan, so that by them a pack lasts as long or longer. Assumes nothing.
use Rattle.std.specs.Prelude.{Err}
use Prim.Native.Nat.{ℕ, ◌+◌, ◌-◌, ◌≤◌, ◌<◌, min}
use mathlib.Core.Bool.{Bool, true, false, cond}
use mathlib.Core.List.{List, []}
use mathlib.Core.Logic.{⊎_elim}
use mathlib.Core.Path.{◌≡◌, refl, sym, ◌∙◌}
use native.Mathlib.Omega.{arith}
use lib.Dec.{eqb, ltb}
use borrow.Author.Tests.{ltb-true, eqb-false, ne_eqb, not-false}
use Rattle.below.proofs.Lists.{sum_pick, sum_join}
use Rattle.below.proofs.Search.{any_not}
use Rattle.below.proofs.Tests.{bool_cases, and_both}
use Rattle.below.proofs.Total.{sum_below_lem}
use Rattle.below.specs.Lists.{sum_over}
use Rattle.day.specs.Days.{open_mark}
use Rattle.doses.specs.Doses.{covers, position_of, applies, doses_of_period, doses_on}
use Rattle.need.proofs.Agreeing.{has_stop_same, stop_day_same}
use Rattle.need.proofs.Chosen.{due_chosen}
use Rattle.need.specs.Need.{unmarked, choice_of, chosen, due_on, need_on, stop_day, has_stop}
use Rattle.pause.specs.Pauses.{is_paused}
use Rattle.pause.specs.declared.Pause.{Pause}
use Rattle.period.specs.Doses.{bad_range, dose_breaks}
use Rattle.period.specs.Period.{limit_of, period_breaks}
use Rattle.plan.specs.Fields.{header_of, upper_of}
use Rattle.plan.specs.Periods.{blocks_of, block_at, is_period, doses_of, dose_in}
use Rattle.plan.specs.declared.Dose.{Dose}
use Rattle.refusal.specs.Refusals.{alone}
use Rattle.verdict.proofs.Exactly.{NoRuleBroken}
use Rattle.verdict.proofs.Lowest.{row_period}
use Rattle.supply.specs.Covered.{summed, covered}
use Rattle.supply.specs.Supply.{lasting_of, lasting_in, own_by, refused_by, judged_of}
use Rattle.supply.specs.declared.Lasting.{Lasting}
use Rattle.supply.proofs.Accepted.{covers_period}
use Rattle.supply.proofs.Covering.{supplied}

-- what one test chooses is at most what it chooses of larger ones
cond_le : (t : Bool) {a b c d : ℕ} → a ≤ b → c ≤ d → cond t a c ≤ cond t b d
cond_le true l h = l
cond_le false l h = h

-- rule 13: the low amount is at most the upper one
low_upper : (x : Dose) → bad_range x ≡ false → x.low ≤ upper_of x
low_upper x e =
    ⊎_elim
    (λ (t : eqb x.high 0 ≡ true). rw t (omega arith))
    (λ (t : eqb x.high 0 ≡ false).
    let q = and_both (ltb x.low x.high) _ (not-false _ (rw t at e)) in
    rw t (omega (arith, ltb-true x.low x.high q.0)))
    (bool_cases (eqb x.high 0))

-- so by low amounts a dose counts no more
chosen_low : (x : Dose) → bad_range x ≡ false → chosen 1 x ≤ chosen 2 x
unfolding choice_of
chosen_low x e = cond_le (unmarked x) (low_upper x e) (omega arith)

module _ (p : List ℕ) (ok : NoRuleBroken p) where
  -- rule 13 at one dose of a period
  good_range : (b j : ℕ) → b < blocks_of p → is_period p b ≡ true → j < doses_of p b → bad_range (dose_in p b j) ≡ false
  unfolding period_breaks dose_breaks
  good_range b j l e q =
      let row = sym (row_period p {k = 13} (omega arith) (omega arith) b) ∙ ok.none 13 b (omega arith) l in
      any_not (dose_breaks (limit_of (block_at p b)) 13 (dose_in p b)) (rw e at row) j q

  -- the doses of a period that has the day need no more by low amounts
  period_low : (d b : ℕ) → b < blocks_of p → covers p d b ≡ true → sum_over (chosen 1) (doses_of_period p d b) ≤ sum_over (chosen 2) (doses_of_period p d b)
  unfolding doses_of_period
  period_low d b l t =
      let has : ℕ → Bool = λ j. applies (position_of (header_of (block_at p b)) d) (dose_in p b j) in
      rw (sum_pick (chosen 1) (doses_of p b) has (dose_in p b), sum_pick (chosen 2) (doses_of p b) has (dose_in p b))
      (sum_below_lem _ _ (doses_of p b) (λ j h. cond_le (has j) (chosen_low (dose_in p b j) (good_range b j l (covers_period p d b t) h)) (omega arith)))

  -- nor do those of any block
  block_low : (d b : ℕ) → b < blocks_of p →
      sum_over (chosen 1) (cond (covers p d b) (doses_of_period p d b) []) ≤ sum_over (chosen 2) (cond (covers p d b) (doses_of_period p d b) [])
  unfolding sum_over
  block_low d b l =
      ⊎_elim (λ (t : covers p d b ≡ true). rw t (period_low d b l t)) (λ (t : covers p d b ≡ false). rw t (omega arith)) (bool_cases (covers p d b))

  -- so the day needs no more
  due_low : (d : ℕ) → due_on 1 p d ≤ due_on 2 p d
  unfolding doses_on
  due_low d =
      rw (due_chosen 1 p d, due_chosen 2 p d, sum_join (chosen 1) (min (blocks_of p) 64) _, sum_join (chosen 2) (min (blocks_of p) 64) _)
      (sum_below_lem _ _ (min (blocks_of p) 64) (λ b l. block_low d b (omega arith)))

  -- nor does it with pauses
  need_low : (ps : List Pause) (d : ℕ) → need_on 1 p ps d ≤ need_on 2 p ps d
  unfolding need_on
  need_low ps d = cond_le (is_paused ps d) (omega arith) (due_low d)

-- where there are days, as many or more end no earlier
last_le : (start m n : ℕ) → m ≤ n → (cond (eqb m 0) open_mark (start + m - 1) ≡ open_mark → ⊥) →
    cond (eqb m 0) open_mark (start + m - 1) ≤ cond (eqb n 0) open_mark (start + n - 1)
last_le start m n l h =
    ⊎_elim
    (λ (t : eqb m 0 ≡ true). absurd (h (rw t)))
    (λ (t : eqb m 0 ≡ false).
    let q = eqb-false m 0 t in
    rw (t, ne_eqb n 0 (λ e. q (omega arith))) (omega arith))
    (bool_cases (eqb m 0))

-- a pack lasts as long or longer where each day needs no more
module _ (f g : ℕ → ℕ) (start : ℕ) (less : (d : ℕ) → f d ≤ g d) where
  -- n days need no more
  summed_low : (n : ℕ) → summed f start n ≤ summed g start n
  summed_low n = sum_below_lem _ _ n (λ i l. less (start + i))

  -- so as many days or more are covered
  covered_low : (k pack : ℕ) → covered g start k pack ≤ covered f start k pack
  covered_low k pack =
      let s = supplied g start k pack in
      (supplied f start k pack).greatest (covered g start k pack) s.within (omega (arith, s.sum, summed_low (covered g start k pack)))

  -- and the answer has them, with a last day that is not earlier where there is one
  days_low : (stop pack : ℕ) → (lasting_of g start stop pack).days ≤ (lasting_of f start stop pack).days
  unfolding lasting_of
  days_low stop pack = covered_low (stop + 1 - start) pack

  last_low : (stop pack : ℕ) → ((lasting_of g start stop pack).last ≡ open_mark → ⊥) → (lasting_of g start stop pack).last ≤ (lasting_of f start stop pack).last
  unfolding lasting_of
  last_low stop pack = last_le start _ _ (covered_low (stop + 1 - start) pack)

module _ (p : List ℕ) (start pack : ℕ) (out : Bool) (ps : List Pause) where
  -- choices 1 and 2 stop on the same day, if at all
  one_has_stop : has_stop 1 p ≡ has_stop 2 p
  unfolding choice_of
  one_has_stop = has_stop_same 1 2 p (λ b l t. refl)

  one_stop_day : stop_day 1 p ≡ stop_day 2 p
  unfolding choice_of
  one_stop_day = stop_day_same 1 2 p (λ b l t. refl)

  -- so both are refused alike, or both last up to that day
  judged_both : (P : Lasting → Lasting → Type 0) → P (lasting_in (Err (alone 0))) (lasting_in (Err (alone 0))) →
      ((stop : ℕ) → P (lasting_of (need_on 2 p ps) start stop pack) (lasting_of (need_on 1 p ps) start stop pack)) →
      P (lasting_in (judged_of p start pack 2 out ps)) (lasting_in (judged_of p start pack 1 out ps))
  unfolding judged_of own_by
  judged_both P refused lasts =
      let number = refused_by start pack 2 out (has_stop 2 p) (stop_day 2 p) in
      ⊎_elim
      (λ (t : eqb number 0 ≡ true). rw (one_has_stop, one_stop_day, t) (lasts (stop_day 2 p)))
      (λ (t : eqb number 0 ≡ false). rw (one_has_stop, one_stop_day, t) refused)
      (bool_cases (eqb number 0))

-- by low amounts a pack covers as many days or more
pub low_lasts : (p : List ℕ) → NoRuleBroken p → (start pack : ℕ) (out : Bool) (ps : List Pause) →
    (lasting_in (judged_of p start pack 2 out ps)).days ≤ (lasting_in (judged_of p start pack 1 out ps)).days
low_lasts p ok start pack out ps =
    judged_both p start pack out ps (λ x y. x.days ≤ y.days) (omega arith)
    (λ stop. days_low (need_on 1 p ps) (need_on 2 p ps) start (need_low p ok ps) stop pack)

-- and where it covers any by upper amounts, its last day by low amounts is not earlier
pub low_later : (p : List ℕ) → NoRuleBroken p → (start pack : ℕ) (out : Bool) (ps : List Pause) →
    ((lasting_in (judged_of p start pack 2 out ps)).last ≡ open_mark → ⊥) →
    (lasting_in (judged_of p start pack 2 out ps)).last ≤ (lasting_in (judged_of p start pack 1 out ps)).last
low_later p ok start pack out ps =
    judged_both p start pack out ps (λ x y. (x.last ≡ open_mark → ⊥) → x.last ≤ y.last) (λ h. absurd (h refl))
    (λ stop. last_low (need_on 1 p ps) (need_on 2 p ps) start (need_low p ok ps) stop pack)
