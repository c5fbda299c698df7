-- "numbers least byte first", and what writing bytes leaves.
use Rattle.std.specs.Prelude.{ℕ, zero, suc, ◌+◌, ◌*◌, ◌/◌, ◌%◌, Bool, cond, List, [], ◌∷◌, ◌++◌, length, take, drop, nat_eq, nat_le, slice_index}
use Rattle.below.specs.Below.{all_below}

-- the byte at i; past the end it counts as 0
abbrev pub byte_at : List ℕ → ℕ → ℕ
byte_at s i = slice_index s i

-- "numbers least byte first": the number of the w bytes at i
unfoldable pub number_at : ℕ → List ℕ → ℕ → ℕ
number_at zero s i = 0
number_at (suc w) s i = byte_at s i + 256 * number_at w s (i + 1)

-- the numbers of 2, 4 and 8 bytes at i
abbrev pub half_at : List ℕ → ℕ → ℕ
half_at s i = number_at 2 s i

abbrev pub word_at : List ℕ → ℕ → ℕ
word_at s i = number_at 4 s i

abbrev pub long_at : List ℕ → ℕ → ℕ
long_at s i = number_at 8 s i

-- the w bytes of a number, least byte first
unfoldable pub bytes_of : ℕ → ℕ → List ℕ
bytes_of zero x = []
bytes_of (suc w) x = x % 256 ∷ bytes_of w (x / 256)

-- s with the bytes of bs in the place of those from i on; where they do not all fit, s as it is
unfoldable pub put : List ℕ → ℕ → List ℕ → List ℕ
put s i bs = cond (nat_le (i + length bs) (length s)) (take i s ++ bs ++ drop (i + length bs) s) s

-- every byte is zero
unfoldable pub is_zero : List ℕ → Bool
is_zero s = all_below (length s) (λ i. nat_eq (byte_at s i) 0)
