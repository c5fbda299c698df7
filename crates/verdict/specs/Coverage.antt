-- Rules 15 to 17: all periods of the plan p together.
use Rattle.std.specs.Prelude.{ℕ, ◌+◌, Bool, true, false, not, ◌&&◌, ◌||◌, List, eqb, leb}
use Rattle.below.specs.Below.{any_below}
use Rattle.day.specs.Days.{last_number}
use Rattle.plan.specs.Fields.{first_of, last_of, vka_of}
use Rattle.plan.specs.Periods.{blocks_of, block_at, is_period, class_of}
use Rattle.plan.specs.Classes.{is_empty, has_fixed, has_need}
use Rattle.plan.specs.declared.Class.{Class}
use Rattle.plan.specs.declared.Class.TheVariants as class
use Rattle.verdict.specs.declared.Group.TheVariants.{All, Fixed, Need, FixedOrEmpty, NeedOrEmpty}
use Rattle.verdict.specs.declared.Group.{Group}

-- the period at block b has doses
abbrev pub is_dosed : List ℕ → ℕ → Bool
is_dosed p b = is_period p b && not (is_empty (class_of p b))

-- Rule 15: "no period at all, or only empty ones in a plan that isn't VKA"
unfoldable pub bare : List ℕ → Bool
bare p =
    not (any_below (blocks_of p) (is_period p))
    || (not (any_below (blocks_of p) (is_dosed p)) && not (eqb (vka_of (block_at p 0)) 1))

-- the period at block b has a day from lo to hi
abbrev pub has_days : List ℕ → ℕ → ℕ → ℕ → Bool
has_days p lo hi b = leb (first_of (block_at p b)) hi && leb lo (last_of (block_at p b))

-- "unless one is need and the other fixed or empty"
abbrev pub may_share : Class → Class → Bool
may_share class.Need class.Fixed = true
may_share class.Need class.Empty = true
may_share class.Fixed class.Need = true
may_share class.Empty class.Need = true
may_share x y = false

-- the periods at blocks a and b share a day, and may not
unfoldable pub shares_with : List ℕ → ℕ → ℕ → Bool
shares_with p b a =
    is_period p a
    && has_days p (first_of (block_at p b)) (last_of (block_at p b)) a
    && not (may_share (class_of p a) (class_of p b))

-- Rule 16: "two periods share a day ..; the place is the later period's first block": b is the later one
unfoldable pub shares : List ℕ → ℕ → Bool
shares p b = is_period p b && any_below b (shares_with p b)

-- the groups of periods that rule 17 names, by class
abbrev pub in_group : Group → Class → Bool
in_group All c = true
in_group Fixed c = has_fixed c
in_group Need c = has_need c
in_group FixedOrEmpty c = is_empty c || has_fixed c
in_group NeedOrEmpty c = is_empty c || has_need c

-- block b begins a period of the group
unfoldable pub is_member : Group → List ℕ → ℕ → Bool
is_member g p b = is_period p b && in_group g (class_of p b)

-- block b begins a period of the group that has a day from lo to hi
unfoldable pub meets_at : Group → List ℕ → ℕ → ℕ → ℕ → Bool
meets_at g p lo hi b = is_period p b && has_days p lo hi b && in_group g (class_of p b)

-- some period of the group has a day from lo to hi
unfoldable pub meets : Group → List ℕ → ℕ → ℕ → Bool
meets g p lo hi = any_below (blocks_of p) (meets_at g p lo hi)

-- day d lies between the first and last day of the group `span`, and in no period of the group `cover`
unfoldable pub hole_at : Group → Group → List ℕ → ℕ → Bool
hole_at span cover p d = meets span p 0 d && meets span p d last_number && not (meets cover p d d)

-- some day of the calendar is such a day
unfoldable pub hole : Group → Group → List ℕ → Bool
hole span cover p = any_below (last_number + 1) (hole_at span cover p)

-- Rule 17: "A hole is a day in no period between the first and last day of all periods; or in no fixed, mixed or empty
-- period between the first and last day of the fixed and mixed ones; or the same for need and mixed."
unfoldable pub holes : List ℕ → Bool
holes p = hole All All p || hole Fixed FixedOrEmpty p || hole Need NeedOrEmpty p
