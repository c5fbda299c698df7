-- The answer of supply, and its refusals.
use Rattle.std.specs.Prelude.{ℕ, ◌+◌, ◌-◌, ◌%◌, Bool, cond, not, ◌||◌, List, eqb, ltb, length, Err, Ok}
use Rattle.day.specs.Days.{last_number, open_mark, is_day}
use Rattle.refusal.specs.Refusals.{alone}
use Rattle.need.specs.Need.{is_choice, need_on, stop_day, has_stop}
use Rattle.pause.specs.declared.Pause.{Pause}
use Rattle.pause.specs.Pauses.{are_out, pauses_in}
use Rattle.verdict.specs.Answers.{Answer}
use Rattle.verdict.specs.Verdict.{verdict_of}
use Rattle.supply.specs.declared.Lasting.{Lasting}
use Rattle.supply.specs.Answers.{Supply}
use Rattle.supply.specs.Covered.{summed, covered}

-- "days covered (0 to 73,049), last covered day (open mark if none), rest, and why it stopped: 1 the next day needs more than
-- the rest, 2 stop day reached, 3 stop day reached and it is 73,048"
unfoldable pub lasting_of : (ℕ → ℕ) → ℕ → ℕ → ℕ → Lasting
lasting_of need start stop pack =
    let k = stop + 1 - start in
    let days = covered need start k pack in
    record {
      days = days;
      last = cond (eqb days 0) open_mark (start + days - 1);
      rest = pack - summed need start days;
      reason = cond (ltb days k) 1 (cond (eqb stop last_number) 3 2);
    }

-- "After the verdict, in order: 20 pack above 1,000,000,000,000; 21 more than 32 pauses, ..; 22 start above 73,048": the first that is
-- given, and else what comes behind these
unfoldable pub asked_by : ℕ → ℕ → Bool → ℕ → ℕ
asked_by start pack pausesOut behind =
    cond (ltb 1000000000000 pack) 20
    (cond pausesOut 21
    (cond (not (is_day start)) 22
    behind))

-- "23 choice not 1 or 2; 24 no fixed or mixed period, or start after the stop day."; W1: "23 now means not 1 to 4; 24 reads the choice's
-- own stop day": the first that is given, 0 where none is
unfoldable pub own_by : ℕ → ℕ → Bool → ℕ → ℕ
own_by start choice anyStop stop =
    cond (not (is_choice choice)) 23
    (cond (not anyStop || ltb stop start) 24
    0)

-- all of them, in their order
abbrev pub refused_by : ℕ → ℕ → ℕ → Bool → Bool → ℕ → ℕ
refused_by start pack choice pausesOut anyStop stop = asked_by start pack pausesOut (own_by start choice anyStop stop)

-- what supply answers once the plan is accepted
unfoldable pub judged_of : List ℕ → ℕ → ℕ → ℕ → Bool → List Pause → Supply
judged_of p start pack choice pausesOut ps =
    let number = refused_by start pack choice pausesOut (has_stop choice p) (stop_day choice p) in
    cond (eqb number 0) (Ok (lasting_of (need_on choice p ps) start (stop_day choice p) pack)) (Err (alone number))

-- document 01's values for either case: "Refused: 0 days, open mark, rest 0, reason 0."
abbrev pub lasting_in : Supply → Lasting
lasting_in (Ok x) = x
lasting_in (Err r) = record { days = 0; last = open_mark; rest = 0; reason = 0 }

-- "An answer is either the plan or its first broken rule": a refusal is passed on
abbrev pub passed_on : Answer → Supply → Supply
passed_on (Ok n) s = s
passed_on (Err r) s = Err r

-- "Input: a plan, start day, pack amount, choice .. and a list of pause records"
abbrev pub supply_of : List ℕ → ℕ → ℕ → ℕ → List Pause → Supply
supply_of p start pack choice ps = passed_on (verdict_of p) (judged_of p start pack choice (are_out ps) ps)

-- "For supply, pauses are 8 bytes each, first then last day (another length is 21)."
abbrev pub packed_supply_of : List ℕ → ℕ → ℕ → ℕ → List ℕ → Supply
packed_supply_of p start pack choice s =
    passed_on (verdict_of p)
    (judged_of p start pack choice (not (eqb (length s % 8) 0) || are_out (pauses_in s)) (pauses_in s))
