-- Laws of counts: of a test that holds from an index on, and what a count says of all. Assumes nothing.
use Prim.Native.Nat.{ℕ, zero, suc, ◌+◌, ◌-◌, ◌≤◌, ◌<◌}
use mathlib.Core.Bool.{Bool, true, false, not}
use mathlib.Core.Logic.{⊎_elim}
use mathlib.Core.Path.{◌≡◌, refl}
use native.Mathlib.Numerals.{add-one}
use native.Mathlib.Omega.{arith}
use lib.Dec.{ltb}
use borrow.Author.Tests.{lt-ltb, ltb-true}
use Rattle.below.specs.Below.{any_below, count_below}
use Rattle.below.proofs.Search.{any_zero, any_more}
use Rattle.below.proofs.Tests.{bool_cases, bool_iff, or_true, or_false, le_or_lt}
use Rattle.below.proofs.Total.{count_zero, count_more, count_le}

count_none : (q : ℕ → Bool) (n : ℕ) → ((i : ℕ) → i < n → q i ≡ false) → count_below n q ≡ 0
unfolding count_below
count_none q zero none = refl
count_none q (suc n) none = rw (none n (omega arith)) (omega (arith, count_none q n (λ i x. none i (omega arith))))

-- a test that holds from index a on
pub count_from : (q : ℕ → Bool) (a n : ℕ) → a ≤ n → ((i : ℕ) → i < a → q i ≡ false) → ((i : ℕ) → a ≤ i → i < n → q i ≡ true) → count_below n q ≡ n - a
unfolding count_below
count_from q a zero l none all = omega arith
count_from q a (suc n) l none all =
    ⊎_elim
    (λ (h : a ≤ n).
    rw (all n h (omega arith))
    (omega (arith, count_from q a n h none (λ i x y. all i x (omega arith)))))
    (λ h.
    rw (none n h)
    (omega (arith, count_none q n (λ i x. none i (omega arith)))))
    (le_or_lt a n)

module _ (p : ℕ → Bool) where
  -- there is one
  pub any_count : (n : ℕ) → any_below n p ≡ ltb 0 (count_below n p)
  any_count zero = rw (any_zero p, count_zero p)
  any_count (suc n) =
      rw (← add-one n, any_more p n, count_more p n, any_count n)
      (⊎_elim
      (λ (t : p n ≡ true). rw (t, or_true, lt-ltb 0 (count_below n p + 1) (omega arith)))
      (λ (t : p n ≡ false). rw (t, or_false) (let z : count_below n p + 0 ≡ count_below n p = omega arith in rw z))
      (bool_cases (p n)))

  step : (m n : ℕ) → ltb m n ≡ ltb (m + 1) (n + 1)
  step m n =
      bool_iff (ltb m n) (ltb (m + 1) (n + 1))
      (λ e. lt-ltb (m + 1) (n + 1) (omega (arith, ltb-true m n e)))
      (λ e. lt-ltb m n (omega (arith, ltb-true (m + 1) (n + 1) e)))

  -- there is another
  pub any_not_count : (n : ℕ) → any_below n (λ i. not (p i)) ≡ ltb (count_below n p) n
  any_not_count zero = rw (any_zero (λ (i : ℕ). not (p i)), count_zero p)
  any_not_count (suc n) =
      rw (← add-one n, any_more (λ (i : ℕ). not (p i)) n, count_more p n, any_not_count n)
      (⊎_elim
      (λ (t : p n ≡ true). rw (t, or_false) (step (count_below n p) n))
      (λ (t : p n ≡ false). rw (t, or_true, lt-ltb (count_below n p + 0) (n + 1) (omega (arith, count_le p n))))
      (bool_cases (p n)))
