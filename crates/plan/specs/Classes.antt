-- What doses a class has.
use Rattle.std.specs.Prelude.{Bool, true, false}
use Rattle.plan.specs.declared.Class.{Class}
use Rattle.plan.specs.declared.Class.TheVariants.{Empty, Fixed, Need, Mixed}

-- two that are one
abbrev pub same_class : Class → Class → Bool
same_class Empty Empty = true
same_class Fixed Fixed = true
same_class Need Need = true
same_class Mixed Mixed = true
same_class x y = false

-- one without doses
abbrev pub is_empty : Class → Bool
is_empty Empty = true
is_empty Fixed = false
is_empty Need = false
is_empty Mixed = false

-- one with unmarked doses, fixed or mixed
abbrev pub has_fixed : Class → Bool
has_fixed Empty = false
has_fixed Fixed = true
has_fixed Need = false
has_fixed Mixed = true

-- one with marked doses, need or mixed
abbrev pub has_need : Class → Bool
has_need Empty = false
has_need Fixed = false
has_need Need = true
has_need Mixed = true
