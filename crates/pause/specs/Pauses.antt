-- "a list of pause records, each a first and a last day (last may be open), in any order, overlap allowed"
use Rattle.std.specs.Prelude.{ℕ, zero, suc, ◌+◌, ◌*◌, ◌/◌, ◌%◌, Bool, cond, not, ◌&&◌, ◌||◌, List, [], ◌∷◌, ◌++◌, eqb, leb, ltb, length, get_or}
use Rattle.below.specs.Below.{any_below}
use Rattle.block.specs.Bytes.{word_at}
use Rattle.day.specs.Days.{open_mark, closed_day, is_no_span}
use Rattle.pause.specs.declared.Pause.{Pause}

-- a record that holds no day: what stands past a list's end
abbrev pub no_day : Pause
no_day = record { first = open_mark; last = 0 }

-- day d lies from the pause's first day to its last
abbrev pub is_in : ℕ → ℕ → ℕ → Bool
is_in first last d = leb first d && leb d (closed_day last)

abbrev pub holds : Pause → ℕ → Bool
holds x d = is_in x.first x.last d

-- some pause of the list holds day d
unfoldable pub is_paused : List Pause → ℕ → Bool
is_paused xs d = any_below (length xs) (λ i. holds (get_or xs i no_day) d)

-- "a pause that ends before it starts or has a day above 73,048 other than an open last"
abbrev pub is_out : Pause → Bool
is_out x = is_no_span x.first x.last

-- 21: "more than 32 pauses, or a pause that .."
unfoldable pub are_out : List Pause → Bool
are_out xs = ltb 32 (length xs) || any_below (length xs) (λ i. is_out (get_or xs i no_day))

-- the first n of a list's pauses, and as many that hold no day as are lacking
unfoldable pub first_of : ℕ → List Pause → List Pause
first_of zero xs = []
first_of (suc n) xs = first_of n xs ++ (get_or xs n no_day ∷ [])

-- "pauses are 8 bytes each, first then last day": the pauses of n records
unfoldable pub packed_in : List ℕ → ℕ → List Pause
packed_in s zero = []
packed_in s (suc n) = packed_in s n ++ (record { first = word_at s (n * 8); last = word_at s (n * 8 + 4) } ∷ [])

abbrev pub pauses_in : List ℕ → List Pause
pauses_in s = packed_in s (length s / 8)

-- what the C call lends: its pauses; where the bytes are no whole number of pauses, or more than 32, a list that is out, so that
-- 21 is given in its turn ("another length is 21")
unfoldable pub lent_of : List ℕ → List Pause
lent_of s = cond (not (eqb (length s % 8) 0) || ltb 32 (length s / 8)) (no_day ∷ []) (pauses_in s)
