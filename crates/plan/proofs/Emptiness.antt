-- Whether a class is empty. Assumes nothing.
use mathlib.Core.Bool.{true, false}
use mathlib.Core.Path.{◌≡◌, refl, sym}
use Rattle.below.proofs.Tests.{true_not_false}
use Rattle.plan.specs.Classes.{is_empty}
use Rattle.plan.specs.declared.Class.{Class}
use Rattle.plan.specs.declared.Class.TheVariants.{Empty, Fixed, Need, Mixed}

-- one without doses is empty
pub empty_is : (c : Class) → is_empty c ≡ true → c ≡ Empty
empty_is Empty e = refl
empty_is Fixed e = absurd (true_not_false refl (sym e))
empty_is Need e = absurd (true_not_false refl (sym e))
empty_is Mixed e = absurd (true_not_false refl (sym e))

-- one with doses isn't
pub not_empty_is : (c : Class) → is_empty c ≡ false → c ≡ Empty → ⊥
not_empty_is c e h = true_not_false (rw h refl) e

pub is_not_empty : (c : Class) → (c ≡ Empty → ⊥) → is_empty c ≡ false
is_not_empty Empty d = absurd (d refl)
is_not_empty Fixed d = refl
is_not_empty Need d = refl
is_not_empty Mixed d = refl
