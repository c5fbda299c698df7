-- What a C call returns, and what its lent buffer holds afterwards.
use Rattle.std.specs.Prelude.{ℕ, ◌+◌, Bool, cond, List, [], ◌∷◌, ltb, length, get_or, Err, Ok}
use Rattle.block.specs.Bytes.{bytes_of, put}
use Rattle.refusal.specs.Refusals.{alone, code_of}
use Rattle.verdict.specs.Answers.{Answer}
use Rattle.supply.specs.Answers.{DateSet}
use Rattle.supply.specs.Answers.{Supply}
use Rattle.split.specs.Answers.{Parted}
use Rattle.showing.specs.declared.Stretch.{Stretch}
use Rattle.register.specs.Steps.{Answered, is_done}

-- the version of include/chivetassel.h that these calls are declared in, 1.1.1: 10,000 times its first number, 100 times its second, and its third
abbrev pub version : ℕ
version = 10101

-- a buffer with numbers of 64 bits from byte i on
unfoldable pub written : List ℕ → ℕ → List ℕ → List ℕ
written out i [] = out
written out i (x ∷ xs) = written (put out i (bytes_of 8 x)) (i + 8) xs

-- "a buffer under 32 bytes is 26, ahead of all else": likewise in every call with a buffer for n bytes of numbers
abbrev pub too_short : ℕ → List ℕ → Bool
too_short n out = ltb (length out) n

abbrev pub code26 : ℕ
code26 = code_of (alone 26)

-- "Unless refused, days, last day, rest and reason go into a lent buffer as four 64-bit numbers, bytes behind untouched"
abbrev pub supply_out : List ℕ → Supply → List ℕ
supply_out out (Ok x) = written out 0 (x.days ∷ x.last ∷ x.rest ∷ x.reason ∷ [])
supply_out out (Err r) = out

-- W1, "A single call gives the set": end, minimum, maximum, date 3 and date 4, the open mark where a date is absent
abbrev pub dates_out : List ℕ → DateSet → List ℕ
dates_out out (Ok x) = written out 0 (x.end ∷ x.minimum ∷ x.maximum ∷ x.third ∷ x.fourth ∷ [])
dates_out out (Err r) = out

-- split: "The answer is both parts' lengths in bytes"
abbrev pub split_out : List ℕ → Parted → List ℕ
split_out out (Ok n) = written out 0 (n.fixed ∷ n.need ∷ [])
split_out out (Err r) = out

-- showing a day: where the stretch begins in the wanted part, and how many bytes it has
abbrev pub stretch_out : List ℕ → Stretch → List ℕ
stretch_out out s = written out 0 (s.at ∷ s.length ∷ [])

-- release: "its length"; a refused call writes nothing
abbrev pub released_out : List ℕ → Answered → List ℕ
released_out out x = cond (is_done x.refusal) (written out 0 (x.length ∷ [])) out

-- state: "revision and count of signers"
abbrev pub state_out : List ℕ → Answered → List ℕ
state_out out x = cond (is_done x.refusal) (written out 0 (x.revision ∷ x.signers ∷ [])) out

-- a day's four sums likewise: unmarked low, unmarked upper, marked low, marked upper
abbrev pub sums_out : List ℕ → Answer → List (List ℕ) → List ℕ
sums_out out (Ok n) s =
    written out 0 (get_or (get_or s 0 []) 0 0 ∷ get_or (get_or s 0 []) 1 0 ∷ get_or (get_or s 1 []) 0 0 ∷ get_or (get_or s 1 []) 1 0 ∷ [])
sums_out out (Err r) s = out
