-- The doses of a day, as a list: what split, supply and the promises are stated over.
use Rattle.std.specs.Prelude.{ℕ, ◌+◌, ◌-◌, ◌%◌, ◌^◌, min, Bool, true, false, cond, ◌&&◌, ◌||◌, List, [], ◌∷◌, ◌==◌, nat_le, slice_index, slice_index_or, slice_set}
use Rattle.std.specs.Bool.{beq}
use Rattle.plan.specs.declared.Dose.{Dose}
use Rattle.plan.specs.declared.Header.{Header}
use Rattle.plan.specs.Fields.{first_of, last_of, is_marked, upper_of, header_of}
use Rattle.plan.specs.Periods.{blocks_of, block_at, is_period, doses_of, dose_in}
use Rattle.below.specs.Lists.{pick_below, join_below, sum_over}

-- the period at block b has day d. "An open last day counts as 73,048."
abbrev pub covers : List ℕ → ℕ → ℕ → Bool
covers p d b = is_period p b && (nat_le (first_of (block_at p b)) d && nat_le d (last_of (block_at p b)))

-- "On day d of a period with first day f and interval k > 0, the position is ((d - f) mod k) + 1; not iterated, d - f + 1."
unfoldable pub position_of : Header → ℕ → ℕ
position_of q d = cond (q.interval == 0) (d - q.first + 1) ((d - q.first) % q.interval + 1)

-- "Doses with that day number apply; day number 0 counts at position 1."
abbrev pub applies : ℕ → Dose → Bool
applies position x = x.day == position || (x.day == 0 && position == 1)

-- the doses of the period at block b on day d, in their order
unfoldable pub doses_of_period : List ℕ → ℕ → ℕ → List Dose
doses_of_period p d b =
    pick_below (doses_of p b) (λ j. applies (position_of (header_of (block_at p b)) d) (dose_in p b j)) (dose_in p b)

-- the doses of the plan on day d, of all its periods; no storage has more than 64 blocks
unfoldable pub doses_on : List ℕ → ℕ → List Dose
doses_on p d = join_below (min (blocks_of p) 64) (λ b. cond (covers p d b) (doses_of_period p d b) [])

-- "a day's four sums, marked and unmarked by low and upper, as two rows of two": row 0 unmarked, row 1 marked. A dose adds
-- its low and its upper amount to its row, in numbers of 64 bits; what a plan of the right form needs never passes them
abbrev pub grown : List ℕ → Dose → List ℕ
grown row x = (slice_index row 0 + x.low) % 2 ^ 64 ∷ (slice_index row 1 + upper_of x) % 2 ^ 64 ∷ []

unfoldable pub added : List (List ℕ) → Dose → List (List ℕ)
added sums x =
    cond (is_marked x) (slice_set sums 1 (grown (slice_index_or sums 1 []) x)) (slice_set sums 0 (grown (slice_index_or sums 0 []) x))

unfoldable pub added_all : List (List ℕ) → List Dose → List (List ℕ)
added_all sums [] = sums
added_all sums (x ∷ xs) = added_all (added sums x) xs

abbrev pub no_sums : List (List ℕ)
no_sums = (0 ∷ 0 ∷ []) ∷ (0 ∷ 0 ∷ []) ∷ []

unfoldable pub day_sums : List ℕ → ℕ → List (List ℕ)
day_sums p d = added_all no_sums (doses_on p d)

-- the four sums with nothing dropped: what `day_sums` is for a plan of the right form (proofs/Exact.antt)
abbrev pub share : Bool → (Dose → ℕ) → Dose → ℕ
share marked amount x = cond (beq (is_marked x) marked) (amount x) 0

abbrev pub low_of : Dose → ℕ
low_of x = x.low

unfoldable pub exact_sums : List Dose → List (List ℕ)
exact_sums xs =
    (sum_over (share false low_of) xs ∷ sum_over (share false upper_of) xs ∷ []) ∷
    (sum_over (share true low_of) xs ∷ sum_over (share true upper_of) xs ∷ []) ∷ []
