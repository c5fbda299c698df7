-- Where the doses of a position begin, by where those of the position ahead end, and the positions of days in a row. Assumes nothing.
use Prim.Native.Nat.{ℕ, ◌+◌, ◌-◌, ◌%◌, ◌≤◌, ◌<◌}
use mathlib.Core.Bool.{true, false}
use mathlib.Core.List.{List}
use mathlib.Core.Logic.{⊎_elim}
use mathlib.Core.Path.{◌≡◌, sym, ap, ◌∙◌}
use native.Mathlib.Nat.{mod-lt, mod-eq_of_lt, mod_self, mod-le, mod-add-mod}
use native.Mathlib.Omega.{arith}
use lib.Dec.{eqb}
use borrow.Author.Tests.{eqb-true, eqb-false, ne_eqb}
use Rattle.below.proofs.Tests.{bool_cases}
use Rattle.doses.specs.Doses.{position_of}
use Rattle.plan.specs.Fields.{interval_of, first_of, header_of}
use Rattle.supply.specs.Code.Standing.{position_behind}

-- no day has position 0
pub position_some : (r : List ℕ) (d : ℕ) → 0 < position_of (header_of r) d
unfolding position_of
position_some r d =
    ⊎_elim
    (λ (t : eqb (interval_of r) 0 ≡ true). rw t (omega arith))
    (λ (t : eqb (interval_of r) 0 ≡ false). rw t (omega arith))
    (bool_cases (eqb (interval_of r) 0))

-- in rounds of one day each has the first
pub position_one : (r : List ℕ) (d : ℕ) → interval_of r ≡ 1 → 1 ≡ position_of (header_of r) d
unfolding position_of
position_one r d i = rw i (omega arith)

-- and none has one past the days from 0 to it
pub position_small : (r : List ℕ) (d : ℕ) → position_of (header_of r) d ≤ d + 1
unfolding position_of
position_small r d =
    ⊎_elim
    (λ (t : eqb (interval_of r) 0 ≡ true). rw t (omega arith))
    (λ (t : eqb (interval_of r) 0 ≡ false). rw t (omega (arith, mod-le (d - first_of r) (interval_of r))))
    (bool_cases (eqb (interval_of r) 0))

-- the next day's position, without a remainder
behind_mod : (s k : ℕ) → 0 < k → (s + 1) % k + 1 ≡ position_behind k (s % k + 1)
behind_mod s k l =
    ⊎_elim
    (λ (t : eqb (s % k + 1) k ≡ true).
    let q : (s + 1) % k ≡ 0 = sym (mod-add-mod s k 1) ∙ ap (λ (x : ℕ). x % k) (eqb-true _ _ t) ∙ mod_self k in
    rw t (omega (arith, q)))
    (λ (t : eqb (s % k + 1) k ≡ false).
    let n = eqb-false (s % k + 1) k t in
    let q : (s + 1) % k ≡ s % k + 1 = sym (mod-add-mod s k 1) ∙ mod-eq_of_lt (omega (arith, n, mod-lt s l)) in
    rw t (omega (arith, q)))
    (bool_cases (eqb (s % k + 1) k))

pub position_behind_lem : (r : List ℕ) (d : ℕ) → first_of r ≤ d → position_of (header_of r) (d + 1) ≡ position_behind (interval_of r) (position_of (header_of r) d)
unfolding position_of
position_behind_lem r d l =
    let e : d + 1 - first_of r ≡ d - first_of r + 1 = omega arith in
    rw e
    (⊎_elim
    (λ (t : eqb (interval_of r) 0 ≡ true).
    let z = eqb-true (interval_of r) 0 t in
    let n = ne_eqb (d - first_of r + 1) (interval_of r) (λ q. omega (arith, z)) in
    rw (t, n))
    (λ (t : eqb (interval_of r) 0 ≡ false).
    let n = eqb-false (interval_of r) 0 t in
    rw t (behind_mod (d - first_of r) (interval_of r) (omega (arith, n))))
    (bool_cases (eqb (interval_of r) 0)))
