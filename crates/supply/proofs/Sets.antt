-- The set of dates: two are one where the dates that they have are. Assumes nothing.
use Prim.Native.Nat.{ℕ}
use mathlib.Core.Bool.{Bool, true, false, cond, not}
use mathlib.Core.Path.{◌≡◌, refl}
use Rattle.day.specs.Days.{open_mark}
use Rattle.supply.specs.Dates.{set_of}

if_same : (wanted : Bool) (x y : ℕ) → (wanted ≡ true → x ≡ y) → cond wanted x open_mark ≡ cond wanted y open_mark
if_same true x y h = h refl
if_same false x y h = refl

pub set_same : (ranging needed : Bool) (f g : ℕ → ℕ) → f 1 ≡ g 1 → (ranging ≡ true → f 2 ≡ g 2) → (needed ≡ true → f 3 ≡ g 3) → (needed ≡ true → f 4 ≡ g 4) →
    set_of ranging needed f ≡ set_of ranging needed g
unfolding set_of
set_same ranging needed f g one two three four =
    λ i.
    record {
      end = if_same (not ranging) (f 1) (g 1) (λ z. one) i;
      minimum = if_same ranging (f 1) (g 1) (λ z. one) i;
      maximum = if_same ranging (f 2) (g 2) two i;
      third = if_same needed (f 3) (g 3) three i;
      fourth = if_same needed (f 4) (g 4) four i;
    }
