-- What it says that two classes are one. Assumes nothing.
use mathlib.Core.Bool.{true}
use mathlib.Core.Path.{◌≡◌, refl}
use Rattle.below.proofs.Tests.{true_not_false}
use Rattle.plan.specs.Classes.{same_class}
use Rattle.plan.specs.declared.Class.{Class}
use Rattle.plan.specs.declared.Class.TheVariants.{Empty, Fixed, Need, Mixed}

pub same_is : (x y : Class) → same_class x y ≡ true → x ≡ y
same_is Empty Empty e = refl
same_is Fixed Fixed e = refl
same_is Need Need e = refl
same_is Mixed Mixed e = refl
same_is x y e = absurd (true_not_false e refl)
