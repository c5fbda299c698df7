-- What document 02, W12, says of the steps in which supply/specs/Steps.antt tells supply, over supply's own answer.
use Rattle.refusal.specs.Refusals.{refusal_in}
use Rattle.std.specs.Prelude.{ℕ, ◌+◌, ◌*◌, ◌%◌, ◌≤◌, ◌<◌, true, cond, not, ◌||◌, List, [], ◌≡◌, eqb, length}
use Rattle.pause.specs.Pauses.{are_out, pauses_in}
use Rattle.pause.specs.declared.Pause.{Pause}
use Rattle.plan.specs.Fields.{interval_of, first_of}
use Rattle.plan.specs.Periods.{blocks_of, block_at, is_period}
use Rattle.supply.specs.Steps.{Counted, counted_of}
use Rattle.supply.specs.Supply.{supply_of, packed_supply_of, lasting_in}
use Rattle.supply.specs.declared.Lasting.{Lasting}
use Rattle.supply.specs.Answers.{Supply}

-- supply in steps: with a lent list of pauses, and in the call that the screen makes, with 8 bytes for each
abbrev pub in_steps : List ℕ → ℕ → ℕ → ℕ → List Pause → Counted
in_steps p start pack choice ps = counted_of p start pack choice (are_out ps) ps

abbrev pub packed_in_steps : List ℕ → ℕ → ℕ → ℕ → List ℕ → Counted
packed_in_steps p start pack choice s = counted_of p start pack choice (not (eqb (length s % 8) 0) || are_out (pauses_in s)) (pauses_in s)

-- "the days the daily walk looks at, the uncovered one included": those that are covered, and the next one if it needs more than the rest
abbrev pub looks_at : Lasting → ℕ
looks_at x = x.days + cond (eqb x.reason 1) 1 0

-- "a plan of one iterated period": the one at block b
pub record OneIterated (p : List ℕ) (b : ℕ) : Type 0 where
  pub block : b < blocks_of p
  pub period : is_period p b ≡ true
  pub iterated : 0 < interval_of (block_at p b)
  pub only : (c : ℕ) → c < blocks_of p → is_period p c ≡ true → c ≡ b

-- "For a plan of one iterated period without pauses, started on or after its first day": a call is so, the period being at block b
pub record InOnePeriod (p : List ℕ) (start : ℕ) (ps : List Pause) (b : ℕ) : Type 0 where
  pub plan : OneIterated p b
  pub unpaused : ps ≡ []
  pub begun : first_of (block_at p b) ≤ start

-- what the steps of one call answer, with their count, where `supply` is supply's own answer
pub record Stepped (p : List ℕ) (start : ℕ) (ps : List Pause) (supply : Supply) (steps : Counted) : Type 0 where
  -- "The result must equal the daily walk for every input and choice.": the whole answer of document 01, a refusal too
  pub same : steps.answer ≡ supply
  -- "The count is at most the days the daily walk looks at, the uncovered one included."
  pub looked_at : steps.count ≤ looks_at (lasting_in supply)
  -- and at most those that are covered: a look at the uncovered one is no step
  pub covered : steps.count ≤ (lasting_in supply).days
  -- there is a step where a day is covered, and none where the call is refused
  pub some : 0 < (lasting_in supply).days → 0 < steps.count
  pub refused : ((refusal_in supply).number ≡ 0 → ⊥) → steps.count ≡ 0
  -- "For a plan of one iterated period .. it is at most twice the interval plus 3."
  pub two_rounds : (b : ℕ) → InOnePeriod p start ps b → steps.count ≤ 2 * interval_of (block_at p b) + 3
  -- and at most the interval: there are no more steps than a round has days
  pub one_round : (b : ℕ) → InOnePeriod p start ps b → steps.count ≤ interval_of (block_at p b)

-- of every plan, accepted or not, every start, pack and choice, and both ways of handing over pauses
pub record Rounds : Type 0 where
  pub steps : (p : List ℕ) (start pack choice : ℕ) (ps : List Pause) →
      Stepped p start ps (supply_of p start pack choice ps) (in_steps p start pack choice ps)
  pub packed_steps : (p : List ℕ) (start pack choice : ℕ) (s : List ℕ) →
      Stepped p start (pauses_in s) (packed_supply_of p start pack choice s) (packed_in_steps p start pack choice s)
