-- Demand 2: "The verdict, both lists, the last covered day and every register answer are those of document 01, which condenses the
-- FMK pages. A plan is accepted exactly when no rule is broken, and otherwise the first broken rule is named."
-- That each function's answer is the one of its definition in specs/ is its contract. Here stands what those definitions come to.
use Rattle.std.specs.Prelude.{ℕ, ◌+◌, ◌-◌, ◌≤◌, ◌<◌, Bool, true, false, cond, List, ◌≡◌, eqb, length, get_or, Ok}
use mathlib.Core.Option.{none, some}
use Rattle.day.specs.Days.{closed_day, open_mark}
use Rattle.layout.specs.Layout.{Written}
use Rattle.layout.specs.Reading.{head_of, periods_of}
use Rattle.pause.specs.Pauses.{pauses_in}
use Rattle.pause.specs.declared.Pause.{Pause}
use Rattle.plan.specs.Fields.{revision_of}
use Rattle.plan.specs.Periods.{blocks_of}
use Rattle.refusal.specs.Refusals.{alone, has_no_place, nowhere, refusal_in}
use Rattle.register.specs.History.{Event, latest, signatures}
use Rattle.register.specs.Reached.{IsBytes, Reached}
use Rattle.register.specs.Steps.{Call.state, done, answered, nothing_but}
use Rattle.split.specs.Parts.{group_of, is_dosed_in, run_first, run_last, has_run, part_of, part_bytes}
use Rattle.need.specs.Need.{need_on, stop_day}
use Rattle.supply.specs.Covered.{summed}
use Rattle.supply.specs.Dates.{dates_of, packed_dates_of}
use Rattle.supply.specs.Supply.{supply_of, packed_supply_of}
use Rattle.supply.specs.declared.Lasting.{Lasting}
use Rattle.verdict.specs.Coverage.{meets, hole_at}
use Rattle.verdict.specs.Verdict.{breaks, verdict_of}
use Rattle.promises.specs.Orders.{is_broken}
use Rattle.promises.specs.Sets.{Sets}

-- the plan is accepted: number 0, which has place 255
abbrev pub IsAccepted : List ℕ → Type 0
IsAccepted p = refusal_in (verdict_of p) ≡ record { number = 0; place = nowhere }

-- "the lowest broken number, then the lowest block that breaks it": these are k and b
pub record IsLowest (p : List ℕ) (k b : ℕ) : Type 0 where
  pub rule : k < 18
  pub broken : is_broken p k ≡ true
  pub none_lower : (j : ℕ) → j < k → is_broken p j ≡ false
  -- "Place is 255 for 0, 1, 15 and 17."
  pub no_place : has_no_place k ≡ true → b ≡ nowhere
  pub at_block : has_no_place k ≡ false → (b < blocks_of p) × (breaks p k b ≡ true) × ((c : ℕ) → c < b → breaks p k c ≡ false)

pub record Verdicts : Type 0 where
  -- "A plan is accepted exactly when no rule is broken"
  pub accepted_where : (p : List ℕ) → ((k : ℕ) → k < 18 → is_broken p k ≡ false) → IsAccepted p
  pub accepted_only : (p : List ℕ) → IsAccepted p → (k : ℕ) → k < 18 → is_broken p k ≡ false
  -- "and otherwise the first broken rule is named.": "the lowest broken number, then the lowest block that breaks it"
  pub broken_where : (p : List ℕ) (k b : ℕ) → IsLowest p k b → refusal_in (verdict_of p) ≡ record { number = k; place = b }
  pub broken_only : (p : List ℕ) → ((refusal_in (verdict_of p)).number ≡ 0 → ⊥) →
      IsLowest p (refusal_in (verdict_of p)).number (refusal_in (verdict_of p)).place

-- the lists of an accepted plan: its two parts, false the fixed one, true the need one
pub record Lists (p : List ℕ) (part : Bool) : Type 0 where
  -- "Each part is a head (count and sums new) and its periods": what is read from a part's bytes
  pub head : head_of (part_bytes part p) ≡ head_of p
  pub periods : periods_of (part_bytes part p) ≡ part_of part p
  -- "by first day"
  pub by_first_day : (none : Written) (i j : ℕ) → i < j → j < length (part_of part p) →
      closed_day (get_or (part_of part p) i none).header.end < (get_or (part_of part p) j none).header.first
  -- "A run is a longest stretch of days, between the first and last day of a part's dosed periods, that none of those covers."
  pub run_days : (b : ℕ) → b < blocks_of p → is_dosed_in part p b ≡ true → has_run part p b ≡ true → (d : ℕ) →
      run_first p b ≤ d → d ≤ run_last part p b → hole_at (group_of part) (group_of part) p d ≡ true
  pub day_in_run : (d : ℕ) → hole_at (group_of part) (group_of part) p d ≡ true →
      (b : ℕ) × (b < blocks_of p) × (is_dosed_in part p b ≡ true) × (has_run part p b ≡ true) × (run_first p b ≤ d) × (d ≤ run_last part p b)
  pub run_longest : (b : ℕ) → b < blocks_of p → is_dosed_in part p b ≡ true → has_run part p b ≡ true → (d : ℕ) →
      ((d + 1 ≡ run_first p b) → meets (group_of part) p d d ≡ true) × ((d ≡ run_last part p b + 1) → meets (group_of part) p d d ≡ true)

-- "Covered days run from the start to the greatest day, not past the stop day, whose summed need is at most the pack amount."
pub record LastCovered (p : List ℕ) (start pack choice : ℕ) (ps : List Pause) (x : Lasting) : Type 0 where
  pub not_past : start + x.days ≤ stop_day choice p + 1
  pub at_most : summed (need_on choice p ps) start x.days ≤ pack
  pub greatest : (n : ℕ) → start + n ≤ stop_day choice p + 1 → summed (need_on choice p ps) start n ≤ pack → n ≤ x.days
  -- "last covered day (open mark if none)"
  pub last_is : x.last ≡ cond (eqb x.days 0) open_mark (start + x.days - 1)

-- "every register answer", by the calls h on a cleared register and their answers alone: the plan under n is the latest accepted one, and
-- its signers are those who have signed since
pub record Registers (h : List Event) (r : List ℕ) : Type 0 where
  -- "33 number not held"
  pub not_held : (n : ℕ) → latest n h ≡ none → answered r (state n) ≡ nothing_but (alone 33)
  -- "State: revision and count of signers."
  pub held : (n : ℕ) (p : List ℕ) → latest n h ≡ some p →
      answered r (state n) ≡ record { refusal = done; length = 0; revision = revision_of p; signers = length (signatures n h) }

pub record Demand2 : Type 0 where
  -- "The verdict": "A plan is accepted exactly when no rule is broken, and otherwise the first broken rule is named."
  pub verdict : Verdicts
  -- "both lists"
  pub lists : (p : List ℕ) (part : Bool) → IsBytes p → IsAccepted p → Lists p part
  -- "the last covered day", of supply with a lent list of pauses, and of the call that the screen makes, with 8 bytes for each
  pub last_covered_day : (p : List ℕ) (start pack choice : ℕ) (ps : List Pause) (x : Lasting) →
      supply_of p start pack choice ps ≡ Ok x → LastCovered p start pack choice ps x
  pub packed_last_covered_day : (p : List ℕ) (start pack choice : ℕ) (s : List ℕ) (x : Lasting) →
      packed_supply_of p start pack choice s ≡ Ok x → LastCovered p start pack choice (pauses_in s) x
  -- and of the set of dates, likewise
  pub dates : (p : List ℕ) (start pack : ℕ) (ps : List Pause) →
      Sets p start (λ choice. supply_of p start pack choice ps) (dates_of p start pack ps)
  pub packed_dates : (p : List ℕ) (start pack : ℕ) (s : List ℕ) →
      Sets p start (λ choice. packed_supply_of p start pack choice s) (packed_dates_of p start pack s)
  -- "and every register answer"
  pub register_answers : (h : List Event) (r : List ℕ) → Reached h r → Registers h r
