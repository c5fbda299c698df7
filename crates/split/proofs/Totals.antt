-- Laws of sums and counts below n, term by term. Assumes nothing.
use Prim.Native.Nat.{ℕ, zero, suc, ◌+◌, ◌≤◌, ◌<◌}
use mathlib.Core.Bool.{Bool, true, false, cond}
use mathlib.Core.Logic.{⊎_elim}
use mathlib.Core.Path.{◌≡◌, refl}
use native.Mathlib.Nat.{add-suc}
use native.Mathlib.Omega.{arith}
use Rattle.below.proofs.Tests.{bool_cases, not_true_false}
use Rattle.below.specs.Below.{sum_below}

-- fewer terms
pub sum_part : (f : ℕ → ℕ) (m n : ℕ) → sum_below m f ≤ sum_below (m + n) f
unfolding sum_below
sum_part f m zero = let e : m + 0 ≡ m = omega arith in rw e (omega arith)
sum_part f m (suc n) = rw add-suc (omega (arith, sum_part f m n))

module _ (f g : ℕ → ℕ) where
  pub sum_mono : (n : ℕ) → ((k : ℕ) → k < n → f k ≤ g k) → sum_below n f ≤ sum_below n g
  unfolding sum_below
  sum_mono zero h = omega arith
  sum_mono (suc n) h = omega (arith, sum_mono n (λ k l. h k (omega arith)), h n (omega arith))

-- a test counts as 1 where it holds
abbrev pub tally : Bool → ℕ
tally t = cond t 1 0

pub tally_le : (t : Bool) → tally t ≤ 1
tally_le true = omega arith
tally_le false = omega arith

module _ (p : ℕ → Bool) where
  sum_none : (n : ℕ) → ((k : ℕ) → k < n → p k ≡ false) → sum_below n (λ k. tally (p k)) ≡ 0
  unfolding sum_below
  sum_none zero h = refl
  sum_none (suc n) h = rw (h n (omega arith), sum_none n (λ k l. h k (omega arith)))

  -- what no two have, at most one has
  pub sum_one : (n : ℕ) → ((i j : ℕ) → i < j → j < n → p i ≡ true → p j ≡ true → ⊥) → sum_below n (λ k. tally (p k)) ≤ 1
  unfolding sum_below
  sum_one zero h = omega arith
  sum_one (suc n) h =
      ⊎_elim
      (λ (t : p n ≡ true).
      rw (t, sum_none n (λ k l. not_true_false (p k) (λ s. h k n l (omega arith) s t))) (omega arith))
      (λ (t : p n ≡ false).
      rw t (omega (arith, sum_one n (λ i j l q. h i j l (omega arith)))))
      (bool_cases (p n))
