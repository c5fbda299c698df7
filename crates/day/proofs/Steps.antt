-- A function on numbers that never falls, such as a running sum: a number lies in one of its steps, and in one alone. Assumes nothing.
use Prim.Native.Nat.{ℕ, zero, suc, ◌+◌, ◌≤◌, ◌<◌}
use mathlib.Core.Path.{◌≡◌}
use mathlib.Core.Logic.{⊎_elim}
use native.Mathlib.Nat.{eq-or-lt_of_le}
use native.Mathlib.Numerals.{add-one}
use native.Mathlib.Omega.{arith}
use Rattle.below.proofs.Tests.{le_or_lt}

-- x lies in the step of f at i
abbrev pub In : (ℕ → ℕ) → ℕ → ℕ → Type 0
In f x i = (f i ≤ x) × (x < f (i + 1))

module _ (f : ℕ → ℕ) (step : (n : ℕ) → f n ≤ f (n + 1)) where
  pub rises : (i j : ℕ) → i ≤ j → f i ≤ f j
  rises i zero h = let e : i ≡ 0 = omega arith in rw e (omega arith)
  rises i (suc j) h =
      ⊎_elim
      (λ e. rw e (omega arith))
      (λ l. omega (arith, rises i j (omega arith), rw add-one at (step j)))
      (eq-or-lt_of_le h)

  -- x lies in one step alone
  pub alone : (x i j : ℕ) → In f x i → In f x j → i ≡ j
  alone x i j a b =
      ⊎_elim
      (λ g. ⊎_elim (λ h. omega arith) (λ l. absurd (omega (arith, rises (i + 1) j (omega arith)))) (le_or_lt j i))
      (λ l. absurd (omega (arith, rises (j + 1) i (omega arith))))
      (le_or_lt i j)

  -- and there is one
  pub within : (x j : ℕ) → f 0 ≤ x → x < f j → (i : ℕ) × (i < j) × In f x i
  within x zero a b = absurd (omega arith)
  within x (suc j) a b =
      ⊎_elim
      (λ l. (j, omega arith, (l, rw add-one b)))
      (λ l. let w = within x j a l in (w.0, omega (arith, w.1), w.2))
      (le_or_lt (f j) x)
