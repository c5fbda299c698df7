-- Laws of a choice between two numbers. Assumes nothing.
use Prim.Native.Nat.{ℕ, ◌≤◌}
use mathlib.Core.Bool.{Bool, true, false, cond}
use mathlib.Core.Logic.{⊎_elim}
use mathlib.Core.Path.{◌≡◌, refl}
use Rattle.std.specs.Int.{from_bool}
use native.Mathlib.Omega.{arith}
use lib.Dec.{ltb}
use borrow.Author.Tests.{ltb-true, ltb-false}
use Rattle.below.proofs.Tests.{bool_cases}

-- both are bounded, so the one that is taken is
pub cond_le : (c : Bool) {a b n : ℕ} → a ≤ n → b ≤ n → cond c a b ≤ n
cond_le true h k = h
cond_le false h k = k

-- a test as a number
pub from_is : (c : Bool) → from_bool c ≡ cond c 1 0
from_is true = refl
from_is false = refl

-- the larger of two
pub larger : (x y : ℕ) → (x ≤ cond (ltb y x) x y) × (y ≤ cond (ltb y x) x y)
larger x y =
    ⊎_elim
    (λ (t : ltb y x ≡ true). rw t (omega arith, omega (arith, ltb-true y x t)))
    (λ t. rw t (ltb-false y x t, omega arith))
    (bool_cases (ltb y x))
