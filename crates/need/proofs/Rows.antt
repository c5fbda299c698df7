-- The rows of the choices, by number. Assumes nothing.
use Rattle.std.proofs.Common.{◌≡◌, ℕ, ◌≤◌, Bool, true, false, cond, ◌&&◌, ◌||◌, eqb, refl, ⊎_elim, arith, eqb-true}
use Rattle.below.proofs.Tests.{bool_cases, true_not_false, or_neither}
use Rattle.plan.specs.Fields.{is_marked, upper_of}
use Rattle.plan.specs.declared.Class.{Class}
use Rattle.plan.specs.declared.Dose.{Dose}
use Rattle.need.specs.Need.{Choice, unmarked, fixed_or_mixed, with_doses, need_or_mixed, by_low, by_upper, of_both, as_needed, no_choice, choice_of, chosen}

module _ (choice : ℕ) where
  -- what each row has, the choice's has
  by_row : (P : Choice → Type 0) → (eqb choice 1 ≡ true → P by_low) → P by_upper → P of_both → P as_needed → P no_choice → P (choice_of choice)
  unfolding choice_of
  by_row P a b c d e =
      ⊎_elim
      (λ (t : eqb choice 1 ≡ true). rw t (a t))
      (λ (t : eqb choice 1 ≡ false).
      ⊎_elim
      (λ (u : eqb choice 2 ≡ true). rw (t, u) b)
      (λ (u : eqb choice 2 ≡ false).
      ⊎_elim
      (λ (v : eqb choice 3 ≡ true). rw (t, u, v) c)
      (λ (v : eqb choice 3 ≡ false).
      ⊎_elim (λ (w : eqb choice 4 ≡ true). rw (t, u, v, w) d) (λ (w : eqb choice 4 ≡ false). rw (t, u, v, w) e) (bool_cases (eqb choice 4)))
      (bool_cases (eqb choice 3)))
      (bool_cases (eqb choice 2)))
      (bool_cases (eqb choice 1))

  -- the two choices of document 01 count unmarked doses, and stop by fixed and mixed periods
  module _ (h : (eqb choice 1 || eqb choice 2) ≡ true) where
    pub counts_fixed : (x : Dose) → (choice_of choice).counts x ≡ unmarked x
    unfolding choice_of
    counts_fixed x =
        ⊎_elim
        (λ (t : eqb choice 1 ≡ true). rw t)
        (λ (t : eqb choice 1 ≡ false). let s : eqb choice 2 ≡ true = rw t at h in rw (t, s))
        (bool_cases (eqb choice 1))

    pub stops_fixed : (class : Class) → (choice_of choice).stops class ≡ fixed_or_mixed class
    unfolding choice_of
    stops_fixed class =
        ⊎_elim
        (λ (t : eqb choice 1 ≡ true). rw t)
        (λ (t : eqb choice 1 ≡ false). let s : eqb choice 2 ≡ true = rw t at h in rw (t, s))
        (bool_cases (eqb choice 1))

  -- the others: 4, and 3 or none
  pub counts_four : (x : Dose) → eqb choice 4 ≡ true → (choice_of choice).counts x ≡ is_marked x
  unfolding choice_of
  counts_four x t = rw (eqb-true choice 4 t)

  pub stops_four : (class : Class) → eqb choice 4 ≡ true → (choice_of choice).stops class ≡ need_or_mixed class
  unfolding choice_of
  stops_four class t = rw (eqb-true choice 4 t)

  module _ (h : (eqb choice 1 || eqb choice 2) ≡ false) (f : eqb choice 4 ≡ false) where
    pub counts_other : (x : Dose) → (choice_of choice).counts x ≡ eqb choice 3
    unfolding choice_of
    counts_other x =
        let n = or_neither (eqb choice 1) (eqb choice 2) h in
        ⊎_elim (λ (t : eqb choice 3 ≡ true). rw (n.0, n.1, t)) (λ (t : eqb choice 3 ≡ false). rw (n.0, n.1, t, f)) (bool_cases (eqb choice 3))

    pub stops_other : (class : Class) → (choice_of choice).stops class ≡ (eqb choice 3 && with_doses class)
    unfolding choice_of
    stops_other class =
        let n = or_neither (eqb choice 1) (eqb choice 2) h in
        ⊎_elim (λ (t : eqb choice 3 ≡ true). rw (n.0, n.1, t)) (λ (t : eqb choice 3 ≡ false). rw (n.0, n.1, t, f)) (bool_cases (eqb choice 3))

  -- choice 1 counts by the low amount
  pub low_by : (x : Dose) → eqb choice 1 ≡ true → x.low ≡ (choice_of choice).amount x
  unfolding choice_of
  low_by x t = rw t

  -- what counts by no low amount counts by its upper one
  pub upper_by : (x : Dose) → eqb choice 1 ≡ false → (choice_of choice).counts x ≡ true → upper_of x ≡ (choice_of choice).amount x
  upper_by x f =
      by_row (λ (c : Choice). c.counts x ≡ true → upper_of x ≡ c.amount x) (λ t. absurd (true_not_false t f)) (λ h. refl) (λ h. refl) (λ h. refl)
      (λ h. absurd (true_not_false h refl))

  -- what a dose counts is its low or its upper amount, or nothing
  pub chosen_in : (x : Dose) (most : ℕ) → x.low ≤ most → upper_of x ≤ most → chosen choice x ≤ most
  chosen_in x most l u =
      by_row (λ (c : Choice). cond (c.counts x) (c.amount x) 0 ≤ most) (λ t. at_most (unmarked x) x.low l) (at_most (unmarked x) (upper_of x) u) u
      (at_most (is_marked x) (upper_of x) u) (omega arith)
    where
      at_most : (m : Bool) (n : ℕ) → n ≤ most → cond m n 0 ≤ most
      at_most true n h = h
      at_most false n h = omega arith
