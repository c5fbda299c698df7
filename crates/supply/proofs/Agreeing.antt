-- Choices that give one answer: 1 and 2 where there is one end date, 3 and 4 where no period is fixed or mixed. Assumes nothing.
use Prim.Native.Nat.{ℕ, ◌+◌, ◌≤◌, ◌<◌}
use mathlib.Core.Bool.{Bool, true, false, cond, not, ◌&&◌}
use mathlib.Core.List.{List}
use mathlib.Core.Logic.{⊎_elim}
use mathlib.Core.Path.{◌≡◌, refl}
use native.Mathlib.Omega.{arith}
use lib.Dec.{eqb, leb}
use borrow.Author.Tests.{leb-true, le-leb}
use Rattle.below.proofs.Search.{first_same, any_not}
use Rattle.below.proofs.Tests.{bool_cases, true_not_false, and_both}
use Rattle.below.proofs.Total.{sum_same}
use Rattle.need.proofs.Agreeing.{due_same, has_stop_same, stop_day_same, all_marked, same_need, same_has_stop, same_stop_day}
use Rattle.need.specs.Need.{fixed_or_mixed, is_choice, choice_of, chosen, due_on, need_on, stop_day, has_stop}
use Rattle.pause.specs.declared.Pause.{Pause}
use Rattle.plan.specs.Fields.{first_of, last_of, is_marked}
use Rattle.plan.specs.Periods.{blocks_of, block_at, is_period, doses_of, dose_in, class_of}
use Rattle.plan.specs.declared.Dose.{Dose}
use Rattle.supply.specs.Covered.{summed, covered}
use Rattle.supply.specs.Dates.{is_interval, ends_from, has_interval, is_ranging}
use Rattle.supply.specs.Supply.{lasting_of, own_by, judged_of}

-- a pack lasts the same where each day from the start on needs the same
module _ (f g : ℕ → ℕ) (start : ℕ) (same : (d : ℕ) → start ≤ d → f d ≡ g d) where
  summed_same : (n : ℕ) → summed f start n ≡ summed g start n
  summed_same n = sum_same _ _ n (λ i l. same (start + i) (omega arith))

  covered_same : (k pack : ℕ) → covered f start k pack ≡ covered g start k pack
  unfolding covered
  covered_same k pack = first_same _ _ k (λ n l. rw (summed_same (n + 1)))

  lasting_same : (stop pack : ℕ) → lasting_of f start stop pack ≡ lasting_of g start stop pack
  unfolding lasting_of
  lasting_same stop pack = rw (covered_same _ pack, summed_same _)

-- choices that stop on the same day and need the same from the start on give one answer
module _ (m n : ℕ) (p : List ℕ) (start pack : ℕ) (out : Bool) (ps : List Pause) where
  need_same : (d : ℕ) → due_on m p d ≡ due_on n p d → need_on m p ps d ≡ need_on n p ps d
  unfolding need_on
  need_same d e = rw e

  pub judged_same : is_choice m ≡ is_choice n → has_stop m p ≡ has_stop n p → stop_day m p ≡ stop_day n p →
      ((d : ℕ) → start ≤ d → due_on m p d ≡ due_on n p d) → judged_of p start pack m out ps ≡ judged_of p start pack n out ps
  unfolding judged_of own_by
  judged_same known any day due =
      rw (known, any, day, lasting_same (need_on m p ps) (need_on n p ps) start (λ d l. need_same d (due d l)) (stop_day n p) pack)

-- a dose that is no unmarked interval dose counts the same by low and by upper amounts
one_amount : (x : Dose) → is_interval x ≡ false → chosen 1 x ≡ chosen 2 x
unfolding choice_of
one_amount x = by_tests (is_marked x) (eqb x.high 0) x.low x.high
  where
    by_tests : (m z : Bool) (low high : ℕ) → (not m && not z) ≡ false → cond (not m) low 0 ≡ cond (not m) (cond z low high) 0
    by_tests true z low high e = refl
    by_tests false true low high e = refl
    by_tests false false low high e = absurd (true_not_false refl e)

-- where there is one end date
module _ (p : List ℕ) (start : ℕ) (e : is_ranging start p ≡ false) where
  -- no period that ends on or after the start has an unmarked interval dose
  no_interval : (b j : ℕ) → b < blocks_of p → is_period p b ≡ true → start ≤ last_of (block_at p b) → j < doses_of p b → is_interval (dose_in p b j) ≡ false
  unfolding is_ranging has_interval
  no_interval b j l t s h =
      ⊎_elim
      (λ (c : fixed_or_mixed (class_of p b) ≡ true).
      let none = rw (t, c, le-leb _ _ s) at (any_not (λ (b : ℕ). ends_from fixed_or_mixed start p b && has_interval p b) e b l) in
      any_not (λ (j : ℕ). is_interval (dose_in p b j)) none j h)
      (λ (c : fixed_or_mixed (class_of p b) ≡ false). rw (all_marked p b c j h))
      (bool_cases (fixed_or_mixed (class_of p b)))

  -- low and upper amounts need the same on every day from the start on
  pub same_due : (d : ℕ) → start ≤ d → due_on 1 p d ≡ due_on 2 p d
  same_due d s =
      due_same 1 2 p d
      (λ b j l t h.
      let c = and_both (is_period p b) _ t in
      let q : d ≤ last_of (block_at p b) = leb-true _ _ (and_both (leb (first_of (block_at p b)) d) _ c.1).1 in
      one_amount (dose_in p b j) (no_interval b j l c.0 (omega arith) h))

-- and so they give one answer
pub one_end : (p : List ℕ) (start pack : ℕ) (out : Bool) (ps : List Pause) → is_ranging start p ≡ false → judged_of p start pack 1 out ps ≡ judged_of p start pack 2 out ps
unfolding choice_of
one_end p start pack out ps e =
    judged_same 1 2 p start pack out ps refl (has_stop_same 1 2 p (λ b l t. refl)) (stop_day_same 1 2 p (λ b l t. refl)) (same_due p start e)

-- where no period is fixed or mixed, marked doses and all doses give one answer
pub need_only : (p : List ℕ) (start pack : ℕ) (out : Bool) (ps : List Pause) → has_stop 1 p ≡ false → judged_of p start pack 3 out ps ≡ judged_of p start pack 4 out ps
need_only p start pack out ps e = judged_same 3 4 p start pack out ps refl (same_has_stop p e) (same_stop_day p e) (λ d l. same_need p e d)
