-- What the tests of all periods together ask of the plan p, which has passed the rules before them, and of the list cs of
-- the periods' classes, which are worked out once for all of them.
use Rattle.std.specs.Prelude.{ℕ, ◌≤◌, ◌<◌, true, List, ◌≡◌, get_or}
use Rattle.day.specs.Days.{last_number}
use Rattle.plan.specs.Fields.{first_of, last_of}
use Rattle.plan.specs.Periods.{blocks_of, block_at, is_period, class_of}
use Rattle.plan.specs.declared.Class.{Class}
use Rattle.plan.specs.declared.Class.TheVariants.{Empty}

-- the plan is no longer than rule 1 allows, and entry b of cs is the class of the period that begins at block b
pub record Classed (p : List ℕ) (cs : List Class) : Type 0 where
  pub few : blocks_of p ≤ 32
  pub entry : (b : ℕ) → b < blocks_of p → is_period p b ≡ true → get_or cs b Empty ≡ class_of p b

-- each period's first day is not after its last, which is a day of the calendar (rule 4)
abbrev pub Dated : List ℕ → Type 0
Dated p =
    (b : ℕ) → b < blocks_of p → is_period p b ≡ true →
    (first_of (block_at p b) ≤ last_of (block_at p b)) × (last_of (block_at p b) ≤ last_number)
