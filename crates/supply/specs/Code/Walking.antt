-- The walk by steps: where it begins, a step of it, and where it ends. No answer is stated by these.
use Rattle.std.specs.Prelude.{ℕ, ◌+◌, ◌-◌, ◌*◌, ◌≤◌, ◌<◌, min, ◌≡◌, true, false, cond, List, ◌⊎◌, eqb, leb, ltb}
use Rattle.day.specs.Days.{last_number, open_mark}
use Rattle.need.specs.Telling.{Tells}
use Rattle.pause.specs.Pauses.{is_paused}
use Rattle.pause.specs.declared.Pause.{Pause}
use Rattle.pause.specs.declared.Sight.{Sight}
use Rattle.supply.specs.Steps.{State, steps_of, after}
use Rattle.supply.specs.Code.Standing.{Orderly, Known}
use Rattle.supply.specs.declared.Lasting.{Lasting}
use Rattle.supply.specs.declared.taking.Stride.{Stride}
use Rattle.supply.specs.declared.walk.Walk.{Walk}

-- the walk stands on a day that is to be looked at
pub record Looking (choice : ℕ) (p : List ℕ) (w : Walk) : Type 0 where
  pub orderly : Orderly choice p
  pub end_is : w.end ≡ w.stop + 1
  pub counted : w.start + w.count ≤ w.day
  pub within : w.day ≤ w.stop
  pub dated : w.stop ≤ last_number

-- and knows where that day stands, unless it is the first, or behind those that are known
pub record Going (choice : ℕ) (p : List ℕ) (w : Walk) : Type 0 where
  pub looks : Looking choice p w
  pub tells : Tells choice p w.chosen
  pub known : 0 < w.count → w.day ≤ w.today.until → Known choice p w.day w.today

-- and knows where that day stands
pub record Able (choice : ℕ) (p : List ℕ) (w : Walk) : Type 0 where
  pub looks : Looking choice p w
  pub known : Known choice p w.day w.today

-- a walk that is ready: it stands on its first day
pub record Ready (choice : ℕ) (p : List ℕ) (w : Walk) : Type 0 where
  pub day_is : w.day ≡ w.start
  pub count_is : w.count ≡ 0
  pub at : Going choice p w

-- s is what the pauses say from day d on: whether it is paused, and up to which day the days are as it is
pub record Seen (ps : List Pause) (d : ℕ) (s : Sight) : Type 0 where
  pub reached : d ≤ s.until
  pub steady : (e : ℕ) → d ≤ e → e ≤ s.until → is_paused ps e ≡ s.paused
  pub ends : s.paused ≡ false → s.until < open_mark → is_paused ps (s.until + 1) ≡ true

-- n is the most rounds of k days, each of which needs r, that there is room for in so many days and that the rest has
pub record Most (k r room rest n : ℕ) : Type 0 where
  pub fits : n * k ≤ room
  pub paid : n * r ≤ rest
  pub more : (n + 1) * k ≤ room → rest < (n + 1) * r

-- the room there is for rounds, in days: up to the last one that is alone, with no pause in sight, and not past the stop day
abbrev pub room_of : Walk → Sight → ℕ
room_of w s = min (min w.today.rounds.until s.until) w.stop + 1 - w.day

-- n is how many whole rounds may be taken: none from a paused day on, or where there are none
pub record RoundsDue (w : Walk) (s : Sight) (n : ℕ) : Type 0 where
  pub clear : 0 < n → s.paused ≡ false
  pub iterated : 0 < n → 0 < w.today.rounds.interval
  pub most : s.paused ≡ false → 0 < w.today.rounds.interval → Most w.today.rounds.interval w.today.rounds.need (room_of w s) w.rest n

-- x takes n whole rounds
pub record TakesRounds (w : Walk) (s : Sight) (x : Stride) (n : ℕ) : Type 0 where
  pub clear : s.paused ≡ false
  pub iterated : 0 < w.today.rounds.interval
  pub some : 0 < n
  pub most : Most w.today.rounds.interval w.today.rounds.need (room_of w s) w.rest n
  pub stride_is : x ≡ record { need = n * w.today.rounds.need; days = n * w.today.rounds.interval; still = true }

-- x takes one day, since it is paused, or there are no rounds, or none may be taken
pub record TakesDay (w : Walk) (s : Sight) (x : Stride) : Type 0 where
  pub none : s.paused ≡ false → 0 < w.today.rounds.interval → Most w.today.rounds.interval w.today.rounds.need (room_of w s) w.rest 0
  pub stride_is : x ≡ record { need = cond s.paused 0 (w.today.in_first.due + w.today.in_second.due); days = 1; still = ltb w.day w.today.same }

abbrev pub Takes : Walk → Sight → Stride → Type 0
Takes w s x = ((n : ℕ) × TakesRounds w s x n) ⊎ TakesDay w s x

-- the days of x are some, and not past the stop day; and where the day behind them is in the same periods, and `still` says so, it stands
-- where the first of them does
pub record Stays (choice : ℕ) (p : List ℕ) (w : Walk) (x : Stride) : Type 0 where
  pub some : 0 < x.days
  pub within : w.day + x.days ≤ w.stop + 1
  pub still : x.still ≡ true → w.day + x.days ≤ w.today.until → Known choice p (w.day + x.days) w.today
  pub one : x.still ≡ false → x.days ≡ 1

-- r is the walk w, and knows where its day stands
pub record Stood (choice : ℕ) (p : List ℕ) (w r : Walk) : Type 0 where
  pub chosen_is : r.chosen ≡ w.chosen
  pub start_is : r.start ≡ w.start
  pub stop_is : r.stop ≡ w.stop
  pub end_is : r.end ≡ w.end
  pub day_is : r.day ≡ w.day
  pub rest_is : r.rest ≡ w.rest
  pub count_is : r.count ≡ w.count
  pub known : Known choice p w.day r.today

-- r is the walk w after the days of x, which needed what x says
pub record Advanced (choice : ℕ) (p : List ℕ) (w : Walk) (x : Stride) (r : Walk) : Type 0 where
  pub chosen_is : r.chosen ≡ w.chosen
  pub start_is : r.start ≡ w.start
  pub stop_is : r.stop ≡ w.stop
  pub end_is : r.end ≡ w.end
  pub day_is : r.day ≡ w.day + x.days
  pub rest_is : r.rest ≡ w.rest - x.need
  pub count_is : r.count ≡ w.count + 1
  pub goes : w.day + x.days ≤ w.stop → r.day < r.end
  pub over : w.stop < w.day + x.days → r.end ≤ r.day
  pub known : w.day + x.days ≤ w.stop → w.day + x.days ≤ r.today.until → Known choice p (w.day + x.days) r.today

-- what the walk has come to
abbrev pub state_of : Walk → State
state_of w = record { rest = w.rest; days = w.day - w.start; count = w.count }

-- what it will have come to after its last step
abbrev pub outcome_of : ℕ → List ℕ → List Pause → Walk → State
outcome_of choice p ps w = after choice p ps w.start w.stop (w.stop + 1 - w.day) (state_of w)

-- what is left of the walk: the days ahead of its end
abbrev pub left : Walk → ℕ
left w = w.end - w.day

-- r goes on with the walk w, to the same outcome
pub record Onward (choice : ℕ) (p : List ℕ) (ps : List Pause) (w r : Walk) : Type 0 where
  pub start_is : r.start ≡ w.start
  pub stop_is : r.stop ≡ w.stop
  pub begun : r.start ≤ r.day
  pub outcome_is : outcome_of choice p ps r ≡ outcome_of choice p ps w
  pub over : r.end ≤ r.day → outcome_of choice p ps r ≡ state_of r

-- r is the walk w a step later, or over: whatever the pauses are, if s is what they say from the day of w on
pub record Went (choice : ℕ) (p : List ℕ) (s : Sight) (w r : Walk) : Type 0 where
  pub less : left r < left w
  pub no_earlier : w.day ≤ r.day
  pub at : r.day < r.end → Going choice p r
  pub onward : (ps : List Pause) → Seen ps w.day s → Onward choice p ps w r

-- why it ended: short of the stop day's end, or behind it
abbrev pub reason_at : ℕ → ℕ → ℕ
reason_at day stop = cond (leb day stop) 1 (cond (eqb stop last_number) 3 2)

-- what the walk says when it is over
abbrev pub lasting_at : Walk → Lasting
lasting_at w =
    record {
      days = w.day - w.start;
      last = cond (eqb (w.day - w.start) 0) open_mark (w.day - 1);
      rest = w.rest;
      reason = reason_at w.day w.stop;
    }

-- r is where the walk w ends: in the state after the last step
pub record Ended (choice : ℕ) (p : List ℕ) (ps : List Pause) (w r : Walk) : Type 0 where
  pub begun : r.start ≤ r.day
  pub start_is : r.start ≡ w.start
  pub stop_is : r.stop ≡ w.stop
  pub state_is : state_of r ≡ steps_of choice p ps w.start w.stop w.rest
