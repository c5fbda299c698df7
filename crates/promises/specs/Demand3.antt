-- Demand 3: "Start from a cleared register that only our calls touch, and make calls in every order. A released plan is then, byte
-- for byte, the latest one accepted under that number since it was last dropped or cleared, and two different signers have since
-- each signed exactly those bytes. Splitting loses and invents nothing: on each day from 2000 to 2199, each list holds exactly that
-- day's doses of its mark, as often as the plan does, with time and amounts. Wherever supply isn't refused, the pack equals the
-- fixed doses of all covered days at the chosen amount, paused days counting nothing, plus the rest, and the next day needs more
-- than the rest, or the dosage or the calendar ends there."
use Rattle.refusal.specs.Refusals.{refusal_in}
use Rattle.std.specs.Prelude.{ℕ, ◌+◌, ◌≤◌, ◌<◌, true, false, cond, List, ◌≡◌, take, Ok}
use Rattle.below.specs.Below.{sum_below}
use Rattle.below.specs.Lists.{keep, sum_over}
use Rattle.day.specs.Days.{last_number}
use Rattle.doses.specs.Doses.{doses_on}
use Rattle.pause.specs.Pauses.{is_paused, pauses_in}
use Rattle.pause.specs.declared.Pause.{Pause}
use Rattle.register.specs.Promise.{SlotPromise}
use Rattle.register.specs.Reached.{IsBytes}
use Rattle.split.specs.Parts.{is_of_part, part_bytes}
use Rattle.split.specs.Split.{split_of, lengths_in, left_by}
use Rattle.need.specs.Need.{choice_of, stop_day}
use Rattle.supply.specs.Supply.{supply_of, packed_supply_of}
use Rattle.supply.specs.declared.Lasting.{Lasting}

-- the parts, as the caller of split finds them: the first bytes of the two buffers, as many as the answer says
abbrev pub fixed_part : List ℕ → List ℕ → List ℕ → List ℕ
fixed_part p fixed need = take (lengths_in (split_of p fixed need)).fixed (left_by (split_of p fixed need) (part_bytes false p) fixed)

abbrev pub need_part : List ℕ → List ℕ → List ℕ → List ℕ
need_part p fixed need = take (lengths_in (split_of p fixed need)).need (left_by (split_of p fixed need) (part_bytes true p) need)

-- "Splitting loses and invents nothing: on each day from 2000 to 2199, each list holds exactly that day's doses of its mark, as often
-- as the plan does, with time and amounts.": the doses of the fixed part are the plan's unmarked ones and those of the need part its
-- marked ones, each with day number, time, mark and amounts, in their order. A lent slice is always bytes (`IsBytes`)
abbrev pub Splitting : Type 0
Splitting =
    (p fixed need : List ℕ) → IsBytes p → (refusal_in (split_of p fixed need)).number ≡ 0 → (d : ℕ) → d ≤ last_number →
    (doses_on (fixed_part p fixed need) d ≡ keep (is_of_part false) (doses_on p d))
    × (doses_on (need_part p fixed need) d ≡ keep (is_of_part true) (doses_on p d))

-- what a day takes from the pack, over document 01's doses of a day. W1: "Demand 3's sum reads "the doses of the choice"."
abbrev pub taken_on : ℕ → List ℕ → List Pause → ℕ → ℕ
taken_on choice p ps d = cond (is_paused ps d) 0 (sum_over (choice_of choice).amount (keep (choice_of choice).counts (doses_on p d)))

pub record Covers (p : List ℕ) (start pack choice : ℕ) (ps : List Pause) (x : Lasting) : Type 0 where
  -- "the pack equals the fixed doses of all covered days at the chosen amount, paused days counting nothing, plus the rest"
  pub sum : pack ≡ sum_below x.days (λ i. taken_on choice p ps (start + i)) + x.rest
  -- "and the next day needs more than the rest": reason 1
  pub needs_more : x.reason ≡ 1 → (start + x.days ≤ stop_day choice p) × (x.rest < taken_on choice p ps (start + x.days))
  -- "or the dosage .. ends there": reason 2, the covered days end with the choice's stop day
  pub dosage_ends : x.reason ≡ 2 → (start + x.days ≡ stop_day choice p + 1) × (stop_day choice p < last_number)
  -- "or the calendar ends there": reason 3, that day is the calendar's last
  pub calendar_ends : x.reason ≡ 3 → (start + x.days ≡ stop_day choice p + 1) × (stop_day choice p ≡ last_number)
  pub one_of_these : (1 ≤ x.reason) × (x.reason ≤ 3)

-- "Wherever supply isn't refused": with a lent list of pauses
abbrev pub Packing : Type 0
Packing =
    (p : List ℕ) (start pack choice : ℕ) (ps : List Pause) (x : Lasting) →
    supply_of p start pack choice ps ≡ Ok x → Covers p start pack choice ps x

-- and in the call that the screen makes, with 8 bytes for each
abbrev pub PackedPacking : Type 0
PackedPacking =
    (p : List ℕ) (start pack choice : ℕ) (s : List ℕ) (x : Lasting) →
    packed_supply_of p start pack choice s ≡ Ok x → Covers p start pack choice (pauses_in s) x

pub record Demand3 : Type 0 where
  -- "Start from a cleared register that only our calls touch, and make calls in every order. A released plan is then, .."
  pub register : SlotPromise
  -- "Splitting loses and invents nothing: .."
  pub splitting : Splitting
  -- "Wherever supply isn't refused, .."
  pub packing : Packing
  pub packed_packing : PackedPacking
