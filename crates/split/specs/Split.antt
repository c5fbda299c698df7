-- The answer of split, and what its buffers hold afterwards.
use Rattle.std.specs.Prelude.{ℕ, Bool, true, false, cond, ◌||◌, List, ◌++◌, ltb, length, drop, Err, Ok}
use Rattle.refusal.specs.Refusals.{alone}
use Rattle.verdict.specs.Answers.{Answer}
use Rattle.verdict.specs.Verdict.{verdict_of}
use Rattle.split.specs.declared.Lengths.{Lengths}
use Rattle.split.specs.Answers.{Parted}
use Rattle.split.specs.Parts.{part_bytes}

-- "Two output buffers of at least 32,768 bytes each, else 25"
abbrev pub room : ℕ
room = 32768

abbrev pub too_small : List ℕ → List ℕ → Bool
too_small fixed need = ltb (length fixed) room || ltb (length need) room

-- "The answer is both parts' lengths in bytes"
abbrev pub lengths_of : List ℕ → Lengths
lengths_of p = record { fixed = length (part_bytes false p); need = length (part_bytes true p) }

-- "else 25, after the verdict"
abbrev pub split_by : Answer → List ℕ → List ℕ → List ℕ → Parted
split_by (Err r) p fixed need = Err r
split_by (Ok n) p fixed need = cond (too_small fixed need) (Err (alone 25)) (Ok (lengths_of p))

unfoldable pub split_of : List ℕ → List ℕ → List ℕ → Parted
split_of p fixed need = split_by (verdict_of p) p fixed need

-- document 01's values for either case: "both parts' lengths in bytes, zeros if refused"
abbrev pub lengths_in : Parted → Lengths
lengths_in (Ok n) = n
lengths_in (Err r) = record { fixed = 0; need = 0 }

-- "Bytes behind a part stay as they were."
unfoldable pub over : List ℕ → List ℕ → List ℕ
over part out = part ++ drop (length part) out

-- a buffer afterwards: no refusal changes a byte
abbrev pub left_by : Parted → List ℕ → List ℕ → List ℕ
left_by (Err r) part out = out
left_by (Ok n) part out = over part out
