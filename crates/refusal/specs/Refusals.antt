-- A refusal's number and place, and what C gets of it.
use Rattle.std.specs.Prelude.{ℕ, ◌+◌, ◌*◌, Bool, cond, ◌||◌, List, ◌∷◌, ◌++◌, eqb, Result, Ok, Err}
use Rattle.std.specs.Fmt.{decimal}
use Rattle.refusal.specs.declared.Refusal.{Refusal}

-- the place of what has none
abbrev pub nowhere : ℕ
nowhere = 255

-- "Place is 255 for 0, 1, 15 and 17."
abbrev pub has_no_place : ℕ → Bool
has_no_place k = eqb k 0 || eqb k 1 || eqb k 15 || eqb k 17

-- "a number and a place": rule k, broken at block b
abbrev pub rule_at : ℕ → ℕ → Refusal
rule_at k b = record { number = k; place = cond (has_no_place k) nowhere b }

-- "In every other call a refusal 1 to 17 carries its place; the rest carry 255."
abbrev pub alone : ℕ → Refusal
alone k = record { number = k; place = nowhere }

-- "the number plus 256 times the place"
abbrev pub code_of : Refusal → ℕ
code_of r = r.number + 256 * r.place

-- number 0 at place 255: nothing is refused
abbrev pub done_code : ℕ
done_code = code_of (alone 0)

-- "The answer is a number and a place", of any call: 0 and 255 where it is not refused
abbrev pub refusal_in : {X : Type 0} → Result X Refusal → Refusal
refusal_in (Ok x) = alone 0
refusal_in (Err r) = r

-- what C gets of an answer
abbrev pub code_in : {X : Type 0} → Result X Refusal → ℕ
code_in a = code_of (refusal_in a)

-- as the programs print it: the number, a space, and the place
abbrev pub printed : Refusal → List ℕ
printed r = decimal r.number ++ 32 ∷ decimal r.place
