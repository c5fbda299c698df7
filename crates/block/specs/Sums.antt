-- The two sums of a block.
use Rattle.std.specs.Prelude.{ℕ, zero, suc, ◌+◌, ◌%◌, ◌^◌, Bool, cond, ◌&&◌, List, length, ◌==◌}
use Rattle.block.specs.declared.Sums.{Sums}
use Rattle.block.specs.Bytes.{word_at, bytes_of, put}

-- "All storage is blocks of 512 bytes"
abbrev pub block_size : ℕ
block_size = 512

-- "the first sum grows by the word, then the second by the first, both dropping what passes 32 bits"
unfoldable pub grown : Sums → ℕ → Sums
grown s w =
    let first = (s.first + w) % 2 ^ 32 in
    record { first = first; second = (s.second + first) % 2 ^ 32 }

-- "for each word": the sums that were s, after the n words from byte i on
unfoldable pub summed : Sums → List ℕ → ℕ → ℕ → Sums
summed s b i zero = s
summed s b i (suc n) = summed (grown s (word_at b i)) b (i + 4) n

-- "Words 0 to 125 (32 bits each) are summed: both sums start at 0"
unfoldable pub sums_of : List ℕ → Sums
sums_of b = summed (record { first = 0; second = 0 }) b 0 126

-- "Bytes 504-507 hold the first sum, 508-511 the second."
unfoldable pub sums_right : List ℕ → Bool
sums_right b =
    (length b == block_size)
    && word_at b 504 == (sums_of b).first
    && word_at b 508 == (sums_of b).second

-- a block with its own sums written into those bytes; what has another length than a block stays as it is
unfoldable pub sealed : List ℕ → List ℕ
sealed b =
    cond (length b == block_size)
    (put (put b 504 (bytes_of 4 (sums_of b).first)) 508 (bytes_of 4 (sums_of b).second))
    b
