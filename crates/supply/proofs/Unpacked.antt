-- The records that the C calls' bytes are unpacked to answer as the bytes do. Assumes nothing.
use Prim.Native.Nat.{ℕ, ◌%◌, ◌≤◌}
use mathlib.Core.Bool.{Bool, true, false, not, ◌||◌}
use mathlib.Core.List.{List}
use mathlib.Core.Logic.{⊎_elim}
use mathlib.Core.Path.{◌≡◌, ap, ◌∙◌}
use lib.Dec.{eqb, ltb}
use lib.ListN.{length, take}
use Rattle.below.proofs.Tests.{bool_cases}
use Rattle.pause.proofs.Lists.{length_first, front_of_first, lent_few, lent_in, lent_out}
use Rattle.pause.specs.Pauses.{are_out, pauses_in, first_of, lent_of}
use Rattle.pause.specs.declared.Pause.{Pause}
use Rattle.verdict.specs.Verdict.{verdict_of}
use Rattle.supply.specs.Dates.{is_ranging, is_needed, date_by, set_of, set_by, dates_of, packed_dates_of}
use Rattle.supply.specs.declared.Dates.{Dates}
use Rattle.supply.specs.Answers.{Supply}
use Rattle.supply.specs.Supply.{asked_by, judged_of, passed_on, lasting_in, supply_of, packed_supply_of}
use Rattle.supply.proofs.Sets.{set_same}

-- the records are as many as the array has room for, and those at its front are the list that is lent
pub lent_within : (s : List ℕ) → length (lent_of s) ≤ length (first_of 32 (lent_of s))
lent_within s = rw (length_first (lent_of s) 32) (lent_few s)

pub lent_records : (s : List ℕ) → take (length (lent_of s)) (first_of 32 (lent_of s)) ≡ lent_of s
lent_records s = front_of_first 32 (lent_of s) (lent_few s)

module _ (p : List ℕ) (start pack : ℕ) where
  -- where 20 or 21 is given, the pauses are not looked at
  judged_same : (choice : ℕ) (out : Bool) (xs ys : List Pause) → (out ≡ false → xs ≡ ys) → judged_of p start pack choice out xs ≡ judged_of p start pack choice out ys
  unfolding judged_of asked_by
  judged_same choice out xs ys same =
      ⊎_elim
      (λ (t : out ≡ true).
      rw t
      (⊎_elim
      (λ (b : ltb 1000000000000 pack ≡ true). rw b)
      (λ (b : ltb 1000000000000 pack ≡ false). rw b)
      (bool_cases (ltb 1000000000000 pack))))
      (λ (e : out ≡ false). rw (same e))
      (bool_cases out)

  pub supply_unpacked : (choice : ℕ) (s : List ℕ) → supply_of p start pack choice (lent_of s) ≡ packed_supply_of p start pack choice s
  supply_unpacked choice s =
      ap (λ (x : Supply). passed_on (verdict_of p) x)
      (rw (lent_out s) (judged_same choice (not (eqb (length s % 8) 0) || are_out (pauses_in s)) (lent_of s) (pauses_in s) (lent_in s)))

  date_unpacked : (s : List ℕ) (choice : ℕ) → date_by (λ c. supply_of p start pack c (lent_of s)) choice ≡ date_by (λ c. packed_supply_of p start pack c s) choice
  date_unpacked s choice = ap (λ (x : Supply). (lasting_in x).last) (supply_unpacked choice s)

  pub dates_unpacked : (s : List ℕ) → dates_of p start pack (lent_of s) ≡ packed_dates_of p start pack s
  dates_unpacked s =
      let d = date_unpacked s in
      ap (λ (out : Bool). set_by (verdict_of p) (asked_by start pack out 0) (set_of (is_ranging start p) (is_needed start p) (date_by (λ c. supply_of p start pack c (lent_of s))))) (lent_out s)
      ∙ ap (λ (x : Dates). set_by (verdict_of p) (asked_by start pack (not (eqb (length s % 8) 0) || are_out (pauses_in s)) 0) x)
      (set_same (is_ranging start p) (is_needed start p) _ _ (d 1) (λ z. d 2) (λ z. d 3) (λ z. d 4))
