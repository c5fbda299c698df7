-- A plan is the list of its bytes; a block of it goes by its number, a period by the number of its first block.
use Rattle.std.specs.Prelude.{ℕ, ◌+◌, ◌*◌, ◌/◌, ◌%◌, Bool, cond, not, List, eqb, length, take, drop}
use Rattle.below.specs.Below.{any_below, first_below}
use Rattle.plan.specs.declared.Class.{Class}
use Rattle.plan.specs.declared.Class.TheVariants.{Empty, Fixed, Need, Mixed}
use Rattle.plan.specs.declared.Dose.{Dose}
use Rattle.plan.specs.Fields.{kind_of, count_of, record_at, dose_of, is_marked}

-- "All storage is blocks of 512 bytes": how many there are
abbrev pub blocks_of : List ℕ → ℕ
blocks_of p = length p / 512

-- block b; past the end it has no bytes
unfoldable pub block_at : List ℕ → ℕ → List ℕ
block_at p b = take 512 (drop (b * 512) p)

-- "Period: byte 0 = 2": a period begins at block b
abbrev pub is_period : List ℕ → ℕ → Bool
is_period p b = eqb (kind_of (block_at p b)) 2

-- "Continuation: byte 0 = 3"
abbrev pub is_continuation : List ℕ → ℕ → Bool
is_continuation p b = eqb (kind_of (block_at p b)) 3

-- how many continuation blocks follow block b; 63 at the most, since no storage has more than 64 blocks
unfoldable pub more_of : List ℕ → ℕ → ℕ
more_of p b = first_below 63 (λ i. not (is_continuation p (b + 1 + i)))

-- "It follows a period or continuation block that holds exactly 20.": the doses of the period at block b
unfoldable pub doses_of : List ℕ → ℕ → ℕ
doses_of p b = more_of p b * 20 + count_of (block_at p (b + more_of p b))

-- dose j of the period at block b, counted from 0 over all its blocks
unfoldable pub dose_in : List ℕ → ℕ → ℕ → Dose
dose_in p b j = dose_of (record_at (block_at p (b + j / 20)) (j % 20))

-- some dose of the period at block b is unmarked; some is marked
unfoldable pub has_unmarked : List ℕ → ℕ → Bool
has_unmarked p b = any_below (doses_of p b) (λ j. not (is_marked (dose_in p b j)))

unfoldable pub has_marked : List ℕ → ℕ → Bool
has_marked p b = any_below (doses_of p b) (λ j. is_marked (dose_in p b j))

-- "A period with dose records is fixed (none marked), need (all marked) or mixed (both); one without is empty"
abbrev pub class_by : Bool → Bool → Class
class_by unmarked marked = cond unmarked (cond marked Mixed Fixed) (cond marked Need Empty)

unfoldable pub class_of : List ℕ → ℕ → Class
class_of p b = class_by (has_unmarked p b) (has_marked p b)
