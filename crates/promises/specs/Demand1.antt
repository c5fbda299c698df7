-- Demand 1: "It takes every input and comes to an end. No caller need have checked anything. A refusal gives its number from document
-- 01 in the order set there, and the register and the output buffers stay unchanged."
-- That a function takes every input and comes to an end is proved of each function with its contract, and no public one has a
-- `requires`. Here stands the last sentence, for each call of document 01.
use Rattle.std.specs.Prelude.{ℕ, ◌%◌, ◌<◌, Bool, true, false, cond, not, ◌||◌, List, [], ◌∷◌, ◌⊎◌, ◌≡◌, eqb, length}
use Rattle.doses.specs.Doses.{day_sums}
use Rattle.pause.specs.Pauses.{are_out, pauses_in}
use Rattle.pause.specs.declared.Pause.{Pause}
use Rattle.refusal.specs.Refusals.{nowhere, alone, code_of, done_code, code_in, refusal_in}
use Rattle.refusal.specs.declared.Refusal.{Refusal}
use Rattle.register.specs.Steps.{Call, Call.clear, Call.submit, Call.sign, Call.release, Call.drop, Call.state, answered, after, room_after}
use Rattle.screen.specs.Calls.{too_short, code26, supply_out, dates_out, split_out, stretch_out, released_out, state_out, sums_out}
use Rattle.showing.specs.Showing.{stretch_of}
use Rattle.split.specs.Parts.{part_bytes}
use Rattle.split.specs.Split.{split_of, left_by}
use Rattle.supply.specs.Dates.{dates_of, packed_dates_of}
use Rattle.supply.specs.Supply.{supply_of, packed_supply_of}
use Rattle.verdict.specs.Verdict.{verdict_of}
use Rattle.promises.specs.Orders.{first_given, rules, is_broken, dates_order, given_by_dates, supply_order, given_by_supply, split_order, given_by_split, order_of, given_by_call, given_by_screen}

-- a call is refused: its number is not 0
abbrev pub Refused : Refusal → Type 0
Refused x = x.number ≡ 0 → ⊥

-- "In every other call a refusal 1 to 17 carries its place; the rest carry 255.": x is the verdict v's, or another
abbrev pub Placed : Refusal → Refusal → Type 0
Placed v x = (x ≡ v) ⊎ ((x.place ≡ nowhere) × ((x.number ≡ 0) ⊎ (17 < x.number)))

-- the verdict on the plan that a call on a register has, if it has one
abbrev pub verdict_in : Call → Refusal
verdict_in clear = alone 0
verdict_in (submit p) = refusal_in (verdict_of p)
verdict_in (sign signer p) = refusal_in (verdict_of p)
verdict_in (release n room) = alone 0
verdict_in (drop n) = alone 0
verdict_in (state n) = alone 0

-- the calls of the library
pub record Calls : Type 0 where
  -- "A refusal gives its number from document 01 in the order set there"
  pub verdict_order : (p : List ℕ) → (refusal_in (verdict_of p)).number ≡ first_given (is_broken p) rules
  pub supply_order_lem : (p : List ℕ) (start pack choice : ℕ) (ps : List Pause) →
      (refusal_in (supply_of p start pack choice ps)).number ≡ first_given (given_by_supply p start pack choice (are_out ps)) supply_order
  pub dates_order_lem : (p : List ℕ) (start pack : ℕ) (ps : List Pause) →
      (refusal_in (dates_of p start pack ps)).number ≡ first_given (given_by_dates p start pack (are_out ps)) dates_order
  pub split_order_lem : (p fixed need : List ℕ) → (refusal_in (split_of p fixed need)).number ≡ first_given (given_by_split p fixed need) split_order
  pub register_order : (r : List ℕ) (c : Call) → (answered r c).refusal.number ≡ first_given (given_by_call r c) (order_of c)
  -- with its place
  pub supply_place : (p : List ℕ) (start pack choice : ℕ) (ps : List Pause) →
      Placed (refusal_in (verdict_of p)) (refusal_in (supply_of p start pack choice ps))
  pub dates_place : (p : List ℕ) (start pack : ℕ) (ps : List Pause) → Placed (refusal_in (verdict_of p)) (refusal_in (dates_of p start pack ps))
  pub split_place : (p fixed need : List ℕ) → Placed (refusal_in (verdict_of p)) (refusal_in (split_of p fixed need))
  pub register_place : (r : List ℕ) (c : Call) → Placed (verdict_in c) (answered r c).refusal
  -- "and the register and the output buffers stay unchanged.": split's two buffers, the register, and the buffer of a release
  pub split_keeps : (p fixed need : List ℕ) → Refused (refusal_in (split_of p fixed need)) →
      (left_by (split_of p fixed need) (part_bytes false p) fixed ≡ fixed) × (left_by (split_of p fixed need) (part_bytes true p) need ≡ need)
  pub register_keeps : (r : List ℕ) (c : Call) → Refused (answered r c).refusal → after r c ≡ r
  pub release_keeps : (r : List ℕ) (n : ℕ) (room : List ℕ) → Refused (answered r (release n room)).refusal → room_after r n room ≡ room

-- a call of the C screen, v being the verdict on its plan: what it returns is the code of a refusal, whose number is the first given
-- in the set order and whose place is the verdict's or 255; and where it is refused every lent byte is kept
pub record Screened (v : Refusal) (code : ℕ) (given : ℕ → Bool) (order : List ℕ) (Kept : Type 0) : Type 0 where
  pub refusal : Refusal
  -- "Both return the number plus 256 times the place."
  pub code_is : code ≡ code_of refusal
  pub in_order : refusal.number ≡ first_given given order
  pub place : Placed v refusal
  pub keeps : Refused refusal → Kept

-- the calls of the screen, each by what its contract says that it returns and leaves
pub record ScreenCalls : Type 0 where
  pub verdict : (p : List ℕ) → Screened (refusal_in (verdict_of p)) (code_in (verdict_of p)) (is_broken p) rules (Unit {0})
  pub supply : (p : List ℕ) (start pack choice : ℕ) (s out : List ℕ) →
      let x = packed_supply_of p start pack choice s in
      Screened (refusal_in (verdict_of p)) (cond (too_short 32 out) code26 (code_in x))
      (given_by_screen 32 out (given_by_supply p start pack choice (not (eqb (length s % 8) 0) || are_out (pauses_in s)))) (26 ∷ supply_order)
      (cond (too_short 32 out) out (supply_out out x) ≡ out)
  pub dates : (p : List ℕ) (start pack : ℕ) (s out : List ℕ) →
      let x = packed_dates_of p start pack s in
      Screened (refusal_in (verdict_of p)) (cond (too_short 40 out) code26 (code_in x))
      (given_by_screen 40 out (given_by_dates p start pack (not (eqb (length s % 8) 0) || are_out (pauses_in s)))) (26 ∷ dates_order)
      (cond (too_short 40 out) out (dates_out out x) ≡ out)
  pub split : (p fixed need out : List ℕ) →
      let x = split_of p fixed need in
      Screened (refusal_in (verdict_of p)) (cond (too_short 16 out) code26 (code_in x)) (given_by_screen 16 out (given_by_split p fixed need)) (26 ∷ split_order)
      ((cond (too_short 16 out) fixed (left_by x (part_bytes false p) fixed) ≡ fixed)
      × (cond (too_short 16 out) need (left_by x (part_bytes true p) need) ≡ need)
      × (cond (too_short 16 out) out (split_out out x) ≡ out))
  pub show_day : (fixed need : List ℕ) (list day : ℕ) (out : List ℕ) →
      Screened (alone 0) (cond (too_short 16 out) code26 done_code) (given_by_screen 16 out (λ k. false)) (26 ∷ [])
      (cond (too_short 16 out) out (stretch_out out (stretch_of fixed need list day)) ≡ out)
  pub day_sums_lem : (p : List ℕ) (day : ℕ) (out : List ℕ) →
      Screened (refusal_in (verdict_of p)) (cond (too_short 32 out) code26 (code_in (verdict_of p))) (given_by_screen 32 out (is_broken p)) (26 ∷ rules)
      (cond (too_short 32 out) out (sums_out out (verdict_of p) (day_sums p day)) ≡ out)
  -- clear, submit, sign and drop
  pub register : (r : List ℕ) (c : Call) → Screened (verdict_in c) (code_of (answered r c).refusal) (given_by_call r c) (order_of c) (after r c ≡ r)
  pub releases : (r : List ℕ) (n : ℕ) (room out : List ℕ) →
      let x = answered r (release n room) in
      Screened (alone 0) (cond (too_short 8 out) code26 (code_of x.refusal)) (given_by_screen 8 out (given_by_call r (release n room)))
      (26 ∷ order_of (release n room))
      ((cond (too_short 8 out) room (room_after r n room) ≡ room) × (cond (too_short 8 out) out (released_out out x) ≡ out))
  pub states : (r : List ℕ) (n : ℕ) (out : List ℕ) →
      let x = answered r (state n) in
      Screened (alone 0) (cond (too_short 16 out) code26 (code_of x.refusal)) (given_by_screen 16 out (given_by_call r (state n)))
      (26 ∷ order_of (state n))
      (cond (too_short 16 out) out (state_out out x) ≡ out)

pub record Demand1 : Type 0 where
  pub library : Calls
  pub screen : ScreenCalls
