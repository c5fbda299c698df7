-- Which periods count by a choice, told in a number: a bit for each block.
use Rattle.std.specs.Prelude.{◌≡◌, ℕ, zero, suc, ◌+◌, ◌*◌, ◌/◌, ◌%◌, ◌<◌, min, Bool, true, false, cond, not, ◌&&◌, ◌||◌, List, ◌==◌, slice_index, slice_index_or}
use Rattle.below.specs.Below.{any_below, largest_below}
use Rattle.plan.specs.Fields.{last_of}
use Rattle.plan.specs.Periods.{blocks_of, block_at, is_period, class_of}
use Rattle.plan.specs.declared.Class.{Class}
use Rattle.plan.specs.declared.Class.TheVariants.{Empty, Fixed, Need, Mixed}
use Rattle.need.specs.Need.{choice_of}
use Rattle.need.specs.declared.Told.{Told}

-- bit b of a number, the lowest first
unfoldable pub is_set : ℕ → ℕ → Bool
is_set bits zero = bits % 2 == 1
is_set bits (suc b) = is_set (bits / 2) b

-- a bit for each of n blocks from b on
unfoldable pub bits_from : (ℕ → Bool) → ℕ → ℕ → ℕ
bits_from f b zero = 0
bits_from f b (suc n) = cond (f b) 1 0 + 2 * bits_from f (b + 1) n

-- those of a plan's blocks, 32 at the most, by the classes of its periods
abbrev pub bits_by : ℕ → List Class → List ℕ → ℕ
bits_by choice cs p = bits_from (λ b. (choice_of choice).stops (slice_index_or cs b Empty)) 0 (min (blocks_of p) 32)

-- the same for each choice; 1 and 2 have one number
abbrev pub told_of : List Class → List ℕ → Told
told_of cs p = record { fixed = bits_by 1 cs p; dosed = bits_by 3 cs p; needed = bits_by 4 cs p }

-- the number of a class, as a caller has it who hands on numbers
abbrev pub number_of : Class → ℕ
number_of Empty = 0
number_of Fixed = 1
number_of Need = 2
number_of Mixed = 3

-- "any fixed or mixed period"; "any period with doses"; "a need or mixed period", by such a number. A number that no class has is not
-- that of an empty period, so that it counts by choice 3, and by no other
abbrev pub number_stops : ℕ → ℕ → Bool
number_stops choice n =
    cond (choice == 1 || choice == 2) (n == 1 || n == 3) (cond (choice == 3) (not (n == 0)) (cond (choice == 4) (n == 2 || n == 3) false))

-- the bits by any numbers; by those of the classes they are the same (proofs/Telling.antt: `told_numbers`)
abbrev pub bits_by_number : ℕ → List ℕ → List ℕ → ℕ
bits_by_number choice ns p = bits_from (λ b. number_stops choice (slice_index ns b)) 0 (min (blocks_of p) 32)

abbrev pub told_by : List ℕ → List ℕ → Told
told_by ns p = record { fixed = bits_by_number 1 ns p; dosed = bits_by_number 3 ns p; needed = bits_by_number 4 ns p }

-- the bits of a choice; by any other number nothing counts
abbrev pub bits_in : Told → ℕ → ℕ
bits_in x choice = cond (choice == 1 || choice == 2) x.fixed (cond (choice == 3) x.dosed (cond (choice == 4) x.needed 0))

-- the period at block b is told, the last day of any that is, and whether there is one
abbrev pub is_told : ℕ → List ℕ → ℕ → Bool
is_told bits p b = is_period p b && is_set bits b

abbrev pub told_day : ℕ → List ℕ → ℕ
told_day bits p = largest_below (blocks_of p) (λ b. cond (is_told bits p b) (last_of (block_at p b)) 0)

abbrev pub any_told : ℕ → List ℕ → Bool
any_told bits p = any_below (blocks_of p) (is_told bits p)

-- the bits are those of the plan's own periods by the choice
pub record Tells (choice : ℕ) (p : List ℕ) (bits : ℕ) : Type 0 where
  pub each : (b : ℕ) → b < blocks_of p → is_period p b ≡ true → is_set bits b ≡ (choice_of choice).stops (class_of p b)
