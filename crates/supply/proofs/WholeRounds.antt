-- What an iterated period needs in whole rounds, and on days that it has alone: each of its doses once a round. Assumes nothing.
use Prim.Native.Nat.{ℕ, zero, suc, ◌+◌, ◌-◌, ◌*◌, ◌≤◌, ◌<◌}
use mathlib.Core.Bool.{Bool, true, false, cond, not, ◌&&◌, ◌||◌}
use mathlib.Core.List.{List}
use mathlib.Core.Logic.{⊎_elim}
use mathlib.Core.Path.{◌≡◌, refl, sym, ap, ◌∙◌}
use native.Mathlib.Nat.{zero-mul, suc-mul, mod-eq_of_lt, add-mul-mod_self_right}
use native.Mathlib.Omega.{arith}
use lib.Dec.{eqb}
use borrow.Author.Tests.{eqb-true, eq-eqb, ne_eqb, not-true}
use Rattle.below.proofs.Search.{any_zero, any_none, any_not, any_hit, any_same}
use Rattle.below.proofs.Tests.{bool_cases, bool_iff, and_both, or_either, or_true, same_or_not}
use Rattle.below.proofs.Total.{sum_more, sum_le, sum_same, sum_both}
use Rattle.below.specs.Below.{any_below, sum_below}
use Rattle.doses.specs.Doses.{covers, position_of, applies}
use Rattle.need.proofs.Rows.{counts_fixed, stops_fixed, counts_four, stops_four, counts_other, stops_other}
use Rattle.need.specs.Need.{choice_of, chosen, due_on, need_on, fixed_or_mixed, with_doses, need_or_mixed}
use Rattle.pause.specs.Pauses.{is_paused}
use Rattle.pause.specs.declared.Pause.{Pause}
use Rattle.plan.specs.Fields.{interval_of, first_of, header_of, is_marked}
use Rattle.plan.specs.Periods.{blocks_of, block_at, doses_of, dose_in, has_unmarked, has_marked, class_by, class_of}
use Rattle.plan.specs.declared.Dose.{Dose}
use Rattle.supply.specs.Covered.{summed}
use Rattle.supply.specs.Steps.{is_chosen, has_other, is_alone, is_inside}
use Rattle.supply.specs.Code.Standing.{InRound, Small, need_at, need_of, round_need}
use Rattle.supply.proofs.Accepted.{covers_begun}
use Rattle.supply.proofs.Covering.{summed_zero, summed_more, summed_plus}
use Rattle.supply.proofs.Range.{sum_flat, sum_none, plan_sum}

-- a sum with one term alone
sum_only : (f : ℕ → ℕ) (n b : ℕ) → b < n → ((k : ℕ) → k < n → (k ≡ b → ⊥) → f k ≡ 0) → sum_below n f ≡ f b
sum_only f n b l h =
    let e : b + 1 + (n - b - 1) ≡ n = omega arith in
    let s = rw e at (sum_flat f (b + 1) (n - b - 1) (λ k a c. h k (omega arith) (λ q. omega arith))) in
    s ∙ omega (arith, sum_more f b, sum_none f b (λ k a. h k (omega arith) (λ q. omega arith)))

-- sums of sums, the other way round
sum_swap : (f : ℕ → ℕ → ℕ) (m n : ℕ) → sum_below m (λ i. sum_below n (f i)) ≡ sum_below n (λ j. sum_below m (λ i. f i j))
unfolding sum_below
sum_swap f zero n = sym (sum_none _ n (λ j l. refl))
sum_swap f (suc m) n = rw (sum_swap f m n) (sym (sum_both (λ j. sum_below m (λ i. f i j)) (f m) n))

-- where f repeats itself k days further on, from day a on any k days in a row have one sum
module _ (f : ℕ → ℕ) (k a : ℕ) (again : (d : ℕ) → a ≤ d → f (d + k) ≡ f d) where
  -- one day later
  window_next : (d : ℕ) → a ≤ d → summed f (d + 1) k ≡ summed f d k
  window_next d l =
      let e : 1 + k ≡ k + 1 = omega arith in
      let z : d + 0 ≡ d = omega arith in
      let one : summed f d 1 ≡ f d = rw z at (summed_more f d 0) ∙ omega (arith, summed_zero f d) in
      omega (arith, rw e at (summed_plus f d 1 k), summed_more f d k, again d l)

  -- and so on
  window : (n : ℕ) → summed f (a + n) k ≡ summed f a k
  window zero = let e : a + 0 ≡ a = omega arith in rw e
  window (suc n) = let e : a + suc n ≡ a + n + 1 = omega arith in rw e (window_next (a + n) (omega arith) ∙ window n)

-- where any k days in a row from day d on have the sum c, m times as many have m times that
summed_times : (f : ℕ → ℕ) (k c d : ℕ) → ((e : ℕ) → d ≤ e → summed f e k ≡ c) → (m : ℕ) → summed f d (m * k) ≡ m * c
summed_times f k c d h zero = rw (zero-mul k, zero-mul c) (summed_zero f d)
summed_times f k c d h (suc m) =
    rw (suc-mul m k, suc-mul m c)
    (omega (arith, summed_plus f d (m * k) k, summed_times f k c d h m, h (d + m * k) (omega arith)))

-- where there is an index at all, one has q or one has not
any_either : (q : ℕ → Bool) (n : ℕ) → any_below n (λ j. true) ≡ (any_below n (λ j. not (q j)) || any_below n q)
any_either q zero = rw (any_zero (λ (j : ℕ). true), any_zero (λ (j : ℕ). not (q j)), any_zero q)
any_either q (suc n) =
    rw (any_hit (λ (j : ℕ). true) {n = suc n} {i = 0} (omega arith) refl)
    (⊎_elim
    (λ (t : q 0 ≡ true). rw (any_hit q {n = suc n} {i = 0} (omega arith) t, or_true))
    (λ (t : q 0 ≡ false). rw (any_hit (λ (j : ℕ). not (q j)) {n = suc n} {i = 0} (omega arith) (rw t)))
    (bool_cases (q 0)))

-- a period is fixed or mixed if it has unmarked doses
fixed_class : (u m : Bool) → fixed_or_mixed (class_by u m) ≡ u
fixed_class true true = refl
fixed_class true false = refl
fixed_class false true = refl
fixed_class false false = refl

-- need or mixed if it has marked ones
need_class : (u m : Bool) → need_or_mixed (class_by u m) ≡ m
need_class true true = refl
need_class true false = refl
need_class false true = refl
need_class false false = refl

-- and not empty if it has either
dosed_class : (u m : Bool) → with_doses (class_by u m) ≡ (u || m)
dosed_class true true = refl
dosed_class true false = refl
dosed_class false true = refl
dosed_class false false = refl

-- a choice stops by the periods that have doses of it
module _ (choice : ℕ) (p : List ℕ) (b : ℕ) where
  -- choices 1 and 2
  chosen_fixed : (eqb choice 1 || eqb choice 2) ≡ true → (choice_of choice).stops (class_of p b) ≡ is_chosen choice p b
  unfolding class_of has_unmarked is_chosen
  chosen_fixed h =
      stops_fixed choice h (class_of p b) ∙ fixed_class (has_unmarked p b) (has_marked p b) ∙
      sym (any_same _ _ (doses_of p b) (λ j l. counts_fixed choice h (dose_in p b j)))

  -- choice 4
  chosen_four : eqb choice 4 ≡ true → (choice_of choice).stops (class_of p b) ≡ is_chosen choice p b
  unfolding class_of has_marked is_chosen
  chosen_four f =
      stops_four choice (class_of p b) f ∙ need_class (has_unmarked p b) (has_marked p b) ∙
      sym (any_same _ _ (doses_of p b) (λ j l. counts_four choice (dose_in p b j) f))

  -- choice 3, and what is no choice
  chosen_other : (eqb choice 1 || eqb choice 2) ≡ false → eqb choice 4 ≡ false → (choice_of choice).stops (class_of p b) ≡ is_chosen choice p b
  unfolding class_of has_unmarked has_marked is_chosen
  chosen_other h f =
      stops_other choice h f (class_of p b) ∙
      ⊎_elim
      (λ (t : eqb choice 3 ≡ true). rw t (dosed_class (has_unmarked p b) (has_marked p b) ∙ sym (any_either (λ j. is_marked (dose_in p b j)) (doses_of p b))))
      (λ (t : eqb choice 3 ≡ false). rw t (sym (any_none (λ (j : ℕ). false) (λ k l. refl))))
      (bool_cases (eqb choice 3)) ∙
      sym (any_same _ _ (doses_of p b) (λ j l. counts_other choice h f (dose_in p b j)))

  -- all of them
  pub chosen_class : (choice_of choice).stops (class_of p b) ≡ is_chosen choice p b
  chosen_class =
      ⊎_elim chosen_fixed
      (λ (h : (eqb choice 1 || eqb choice 2) ≡ false). ⊎_elim chosen_four (chosen_other h) (bool_cases (eqb choice 4)))
      (bool_cases (eqb choice 1 || eqb choice 2))

-- whole rounds later the position is the same
pub position_rounds : (r : List ℕ) (d m : ℕ) → 0 < interval_of r → first_of r ≤ d → position_of (header_of r) (d + m * interval_of r) ≡ position_of (header_of r) d
unfolding position_of
position_rounds r d m i l =
    let e : d + m * interval_of r - first_of r ≡ d - first_of r + m * interval_of r = omega arith in
    rw (ne_eqb (interval_of r) 0 (λ z. omega arith), e, add-mul-mod_self_right (d - first_of r) m (interval_of r))

module _ (choice : ℕ) (p : List ℕ) (b : ℕ) where
  -- and so is what is needed
  pub need_rounds : (d m : ℕ) → 0 < interval_of (block_at p b) → first_of (block_at p b) ≤ d → need_of choice p b (d + m * interval_of (block_at p b)) ≡ need_of choice p b d
  need_rounds d m i l = ap (need_at choice p b) (position_rounds (block_at p b) d m i l)

  -- what a round needs is small
  pub round_small : Small choice p b → round_need choice p b ≤ 12799999998720
  unfolding round_need
  round_small h = omega (arith, h.few, sum_le (λ j. chosen choice (dose_in p b j)) 9999999999 (doses_of p b) h.each)

-- a period that has no dose of the choice needs nothing
module _ (choice : ℕ) (p : List ℕ) (c : ℕ) (none : is_chosen choice p c ≡ false) where
  -- none of its doses counts
  counts_none : (j : ℕ) → j < doses_of p c → chosen choice (dose_in p c j) ≡ 0
  unfolding is_chosen
  counts_none j l = rw (any_not (λ (j : ℕ). (choice_of choice).counts (dose_in p c j)) none j l)

  -- in no round
  pub idle_round : round_need choice p c ≡ 0
  unfolding round_need
  idle_round = sum_none _ (doses_of p c) counts_none

  -- and on no day
  pub idle_need : (d : ℕ) → need_of choice p c d ≡ 0
  unfolding need_at
  idle_need d =
      let x = position_of (header_of (block_at p c)) d in
      sum_none _ (doses_of p c)
      (λ j l.
      let z = counts_none j l in
      ⊎_elim (λ (t : applies x (dose_in p c j) ≡ true). rw t z) (λ (t : applies x (dose_in p c j) ≡ false). rw t) (bool_cases (applies x (dose_in p c j))))

-- a day that a period has alone needs what that period needs
module _ (choice : ℕ) (p : List ℕ) (b d : ℕ) (few : blocks_of p ≤ 32) (alone : is_alone choice p b d ≡ true) where
  -- no other period adds to it
  other_none : (c : ℕ) → c < blocks_of p → (c ≡ b → ⊥) → cond (covers p d c) (need_of choice p c d) 0 ≡ 0
  unfolding has_other
  other_none c l n =
      let h = not-true _ (and_both (covers p d b) _ alone).1 in
      let q = rw (ne_eqb c b n) at (any_not (λ (c : ℕ). not (eqb c b) && (covers p d c && is_chosen choice p c)) h c l) in
      ⊎_elim
      (λ (t : covers p d c ≡ true). rw t (idle_need choice p c (rw t at q) d))
      (λ (t : covers p d c ≡ false). rw t)
      (bool_cases (covers p d c))

  -- so it is that one alone
  pub alone_need : b < blocks_of p → due_on choice p d ≡ need_of choice p b d
  alone_need l =
      let t = (and_both (covers p d b) _ alone).0 in
      plan_sum choice p d (omega arith) ∙ sum_only _ (blocks_of p) b l other_none ∙ rw t

-- a day inside a period needs what that period needs
module _ (choice : ℕ) (p : List ℕ) (ps : List Pause) (b d : ℕ) (in_it : is_inside choice p ps b d ≡ true) where
  -- the period has it alone
  inside_alone : is_alone choice p b d ≡ true
  inside_alone = (and_both (not (is_paused ps d)) (is_alone choice p b d) in_it).1

  -- the period has begun
  pub inside_begun : first_of (block_at p b) ≤ d
  inside_begun = covers_begun p d b (and_both (covers p d b) _ inside_alone).0

  -- there is no pause
  pub inside_need : blocks_of p ≤ 32 → b < blocks_of p → need_on choice p ps d ≡ need_of choice p b d
  unfolding need_on
  inside_need few l =
      let free : is_paused ps d ≡ false = not-true (is_paused ps d) (and_both (not (is_paused ps d)) (is_alone choice p b d) in_it).0 in
      rw free (alone_need choice p b d few inside_alone l)

-- a dose applies at one position: at i + 1 if its day number is that, or 0 at the first
applies_once : (i : ℕ) (x : Dose) → applies (i + 1) x ≡ eqb i (x.day - 1)
applies_once i x =
    bool_iff (applies (i + 1) x) (eqb i (x.day - 1))
    (λ h.
    eq-eqb i (x.day - 1)
    (⊎_elim
    (λ (t : eqb x.day (i + 1) ≡ true). omega (arith, eqb-true x.day (i + 1) t))
    (λ (t : (eqb x.day 0 && eqb (i + 1) 1) ≡ true).
    let a = and_both (eqb x.day 0) (eqb (i + 1) 1) t in
    omega (arith, eqb-true x.day 0 a.0, eqb-true (i + 1) 1 a.1))
    (or_either _ _ h)))
    (λ h.
    let e = eqb-true i (x.day - 1) h in
    ⊎_elim
    (λ (t : x.day ≡ i + 1). rw (eq-eqb _ _ t))
    (λ (t : (x.day ≡ i + 1 → ⊥)). rw (eq-eqb x.day 0 (omega (arith, t)), eq-eqb (i + 1) 1 (omega (arith, t)), or_true))
    (same_or_not x.day (i + 1)))

-- the positions of the first round are 1, 2, .., in order
position_first : (r : List ℕ) (i : ℕ) → i < interval_of r → position_of (header_of r) (first_of r + i) ≡ i + 1
unfolding position_of
position_first r i l =
    let e : first_of r + i - first_of r ≡ i = omega arith in
    rw (ne_eqb (interval_of r) 0 (λ z. omega arith), e, mod-eq_of_lt l)

-- an iterated period, no day number of which passes the interval
module _ (choice : ℕ) (p : List ℕ) (b : ℕ) (some : 0 < interval_of (block_at p b)) (within : InRound p b) where
  -- what dose j adds at position i + 1
  abbrev term : ℕ → ℕ → ℕ
  term i j = cond (applies (i + 1) (dose_in p b j)) (chosen choice (dose_in p b j)) 0

  -- in one round a dose counts once
  dose_once : (j : ℕ) → j < doses_of p b → sum_below (interval_of (block_at p b)) (λ i. term i j) ≡ chosen choice (dose_in p b j)
  dose_once j l =
      let x = dose_in p b j in
      let at = x.day - 1 in
      sum_only (λ i. term i j) (interval_of (block_at p b)) at (omega (arith, within j l)) (λ i q n. rw (applies_once i x, ne_eqb i at n)) ∙
      rw (applies_once at x, eq-eqb at at refl)

  -- the first round needs each dose once
  first_round : summed (need_of choice p b) (first_of (block_at p b)) (interval_of (block_at p b)) ≡ round_need choice p b
  unfolding need_at round_need
  first_round =
      sum_same _ _ (interval_of (block_at p b)) (λ i l. ap (need_at choice p b) (position_first (block_at p b) i l)) ∙
      sum_swap term (interval_of (block_at p b)) (doses_of p b) ∙
      sum_same _ _ (doses_of p b) dose_once

  -- and so do the days of any round, wherever it begins
  pub one_round : (d : ℕ) → first_of (block_at p b) ≤ d → summed (need_of choice p b) d (interval_of (block_at p b)) ≡ round_need choice p b
  one_round d l =
      let k = interval_of (block_at p b) in
      let e : first_of (block_at p b) + (d - first_of (block_at p b)) ≡ d = omega arith in
      let again : (e : ℕ) → first_of (block_at p b) ≤ e → need_of choice p b (e + k) ≡ need_of choice p b e = λ e h. let o : 1 * k ≡ k = omega arith in rw o at (need_rounds choice p b e 1 some h) in
      rw e at (window (need_of choice p b) k (first_of (block_at p b)) again (d - first_of (block_at p b))) ∙ first_round

  -- m rounds need m times that
  pub many_rounds : (d : ℕ) → first_of (block_at p b) ≤ d → (m : ℕ) → summed (need_of choice p b) d (m * interval_of (block_at p b)) ≡ m * round_need choice p b
  many_rounds d l = summed_times (need_of choice p b) (interval_of (block_at p b)) (round_need choice p b) d (λ e h. one_round e (omega arith))

  -- and so do the days of m rounds that are all inside the period
  pub block_need : (ps : List Pause) → blocks_of p ≤ 32 → b < blocks_of p → (d m : ℕ) → ((i : ℕ) → i < m * interval_of (block_at p b) → is_inside choice p ps b (d + i) ≡ true) →
      summed (need_on choice p ps) d (m * interval_of (block_at p b)) ≡ m * round_need choice p b
  block_need ps few l d zero h = rw (zero-mul (interval_of (block_at p b)), zero-mul (round_need choice p b)) (summed_zero (need_on choice p ps) d)
  block_need ps few l d (suc m) h =
      let z : d + 0 ≡ d = omega arith in
      let first : is_inside choice p ps b d ≡ true = rw z at (h 0 (omega (arith, suc-mul m (interval_of (block_at p b))))) in
      sum_same _ _ (suc m * interval_of (block_at p b)) (λ i q. inside_need choice p ps b (d + i) (h i q) few l) ∙
      many_rounds d (inside_begun choice p ps b d first) (suc m)
