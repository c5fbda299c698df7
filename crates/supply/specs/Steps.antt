-- Document 02, W12: "Count the steps of a definition, a step being one day or one block of rounds". Supply is told here in such steps. What
-- it answers is document 01's answer, and how many steps there are has its bounds: promises/specs/Rounds.antt.
use Rattle.std.specs.Prelude.{ℕ, zero, suc, ◌+◌, ◌-◌, ◌*◌, Bool, cond, not, ◌&&◌, List, eqb, leb, ltb, Err, Ok}
use Rattle.below.specs.Below.{first_below, any_below, all_below}
use Rattle.day.specs.Days.{last_number, open_mark}
use Rattle.doses.specs.Doses.{covers}
use Rattle.need.specs.Need.{choice_of, need_on, stop_day, has_stop}
use Rattle.pause.specs.Pauses.{is_paused}
use Rattle.pause.specs.declared.Pause.{Pause}
use Rattle.plan.specs.Fields.{interval_of}
use Rattle.plan.specs.Periods.{blocks_of, block_at, doses_of, dose_in}
use Rattle.refusal.specs.Refusals.{alone}
use Rattle.supply.specs.Covered.{summed}
use Rattle.supply.specs.Supply.{refused_by}
use Rattle.supply.specs.declared.Lasting.{Lasting}
use Rattle.supply.specs.Answers.{Supply}
use Rattle.verdict.specs.Verdict.{verdict_of}
use Rattle.verdict.specs.Answers.{Answer}

-- the rest, the days that are covered, and the count of steps
pub record State : Type 0 where
  pub rest : ℕ
  pub days : ℕ
  pub count : ℕ

-- a step of n days from day d on: "each takes that day's or those rounds' need from the rest, adds their days, and adds exactly one to the
-- count"
abbrev pub taken : (ℕ → ℕ) → ℕ → ℕ → State → State
taken need d n s = record { rest = s.rest - summed need d n; days = s.days + n; count = s.count + 1 }

-- the period at block b has doses of the choice
unfoldable pub is_chosen : ℕ → List ℕ → ℕ → Bool
is_chosen choice p b = any_below (doses_of p b) (λ j. (choice_of choice).counts (dose_in p b j))

-- some other period than the one at block b has day d, and doses of the choice
unfoldable pub has_other : ℕ → List ℕ → ℕ → ℕ → Bool
has_other choice p b d = any_below (blocks_of p) (λ c. not (eqb c b) && (covers p d c && is_chosen choice p c))

-- day d is in the period at block b, and in no other period with doses of the choice
abbrev pub is_alone : ℕ → List ℕ → ℕ → ℕ → Bool
is_alone choice p b d = covers p d b && not (has_other choice p b d)

-- "Inside one iterated period with no pause in sight": the one at block b
abbrev pub is_inside : ℕ → List ℕ → List Pause → ℕ → ℕ → Bool
is_inside choice p ps b d = not (is_paused ps d) && is_alone choice p b d

-- the first such period that is iterated; past all blocks where there is none
unfoldable pub iterated_on : ℕ → List ℕ → List Pause → ℕ → ℕ
iterated_on choice p ps d = first_below (blocks_of p) (λ b. ltb 0 (interval_of (block_at p b)) && is_inside choice p ps b d)

-- n days from day d on may be taken in one step: they are inside the period at block b, none is past the stop day, and the rest has what
-- they need
unfoldable pub is_taken : ℕ → List ℕ → List Pause → ℕ → ℕ → ℕ → ℕ → ℕ → Bool
is_taken choice p ps b stop d rest n =
    leb (d + n) (stop + 1)
    && (all_below n (λ i. is_inside choice p ps b (d + i)) && leb (summed (need_on choice p ps) d n) rest)

-- "one block of rounds", whole ones, from day d on: the days of as many as may be taken, 0 where none may
unfoldable pub block_from : ℕ → List ℕ → List Pause → ℕ → ℕ → ℕ → ℕ
block_from choice p ps stop d rest =
    let b = iterated_on choice p ps d in
    let k = interval_of (block_at p b) in
    first_below (stop + 1 - d) (λ n. not (is_taken choice p ps b stop d rest ((n + 1) * k))) * k

-- the days of a step from day d on: a block's, or else one, which is covered if the rest has what it needs. 0 where there is no step more
unfoldable pub days_from : ℕ → List ℕ → List Pause → ℕ → ℕ → ℕ → ℕ
days_from choice p ps stop d rest =
    let block = block_from choice p ps stop d rest in
    cond (ltb 0 block) block (cond (leb d stop && leb (need_on choice p ps d) rest) 1 0)

-- at most n steps more: "nothing else changes these, and the answer is the state after the last step"
unfoldable pub after : ℕ → List ℕ → List Pause → ℕ → ℕ → ℕ → State → State
after choice p ps start stop zero s = s
after choice p ps start stop (suc n) s =
    let d = start + s.days in
    let m = days_from choice p ps stop d s.rest in
    cond (eqb m 0) s (after choice p ps start stop n (taken (need_on choice p ps) d m s))

-- all of them: there are no more steps than days
abbrev pub steps_of : ℕ → List ℕ → List Pause → ℕ → ℕ → ℕ → State
steps_of choice p ps start stop pack = after choice p ps start stop (stop + 1 - start) (record { rest = pack; days = 0; count = 0 })

-- "days covered (0 to 73,049), last covered day (open mark if none), rest, and why it stopped", by the state after the last step
abbrev pub lasting_by : ℕ → ℕ → State → Lasting
lasting_by start stop s =
    record {
      days = s.days;
      last = cond (eqb s.days 0) open_mark (start + s.days - 1);
      rest = s.rest;
      reason = cond (leb (start + s.days) stop) 1 (cond (eqb stop last_number) 3 2);
    }

-- what supply answers, and in how many steps
pub record Counted : Type 0 where
  pub answer : Supply
  pub count : ℕ

-- once the plan is accepted; there are no steps where it is refused
unfoldable pub counted_by : List ℕ → ℕ → ℕ → ℕ → Bool → List Pause → Counted
counted_by p start pack choice pausesOut ps =
    let number = refused_by start pack choice pausesOut (has_stop choice p) (stop_day choice p) in
    let s = steps_of choice p ps start (stop_day choice p) pack in
    cond (eqb number 0)
    (record { answer = Ok (lasting_by start (stop_day choice p) s); count = s.count })
    (record { answer = Err (alone number); count = 0 })

-- "An answer is either the plan or its first broken rule": a refusal is passed on, and there are no steps
abbrev pub counted_at : Answer → Counted → Counted
counted_at (Ok n) x = x
counted_at (Err r) x = record { answer = Err r; count = 0 }

-- of a plan; `pausesOut` says that 21 is due, in its turn
abbrev pub counted_of : List ℕ → ℕ → ℕ → ℕ → Bool → List Pause → Counted
counted_of p start pack choice pausesOut ps = counted_at (verdict_of p) (counted_by p start pack choice pausesOut ps)
