-- What the walk counts on, and what it keeps from day to day. No answer is stated by these.
use Rattle.std.specs.Prelude.{ℕ, ◌+◌, ◌≤◌, ◌<◌, min, ◌≡◌, Bool, true, false, cond, not, ◌&&◌, List, eqb, ltb, Option, Some, None, MatchOption, IfSome}
use Rattle.below.specs.Below.{first_below, sum_below}
use Rattle.doses.specs.Doses.{covers, position_of, applies}
use Rattle.need.specs.Need.{chosen, due_on}
use Rattle.plan.specs.Fields.{interval_of, first_of, last_of, header_of}
use Rattle.plan.specs.Periods.{blocks_of, block_at, is_period, doses_of, dose_in}
use Rattle.supply.specs.Steps.{is_alone}
use Rattle.supply.specs.declared.place.Period.{Period}
use Rattle.supply.specs.declared.place.Place.{Place}
use Rattle.supply.specs.declared.rounds.Round.{Round}
use Rattle.supply.specs.declared.today.Today.{Today}
use Rattle.verdict.specs.Code.Ready.{Dated}

-- day numbers do not fall (rule 7)
abbrev pub Sorted : List ℕ → ℕ → Type 0
Sorted p b = (i j : ℕ) → i ≤ j → j < doses_of p b → (dose_in p b i).day ≤ (dose_in p b j).day

-- the period's doses are few, and none counts for more than rule 4 allows
pub record Small (choice : ℕ) (p : List ℕ) (b : ℕ) : Type 0 where
  pub few : doses_of p b ≤ 1280
  pub each : (j : ℕ) → j < doses_of p b → chosen choice (dose_in p b j) ≤ 9999999999

-- its day numbers do not pass the interval (rule 7)
abbrev pub InRound : List ℕ → ℕ → Type 0
InRound p b = (j : ℕ) → j < doses_of p b → (dose_in p b j).day ≤ interval_of (block_at p b)

-- what the walk counts on: rules 1, 4, 7 and 16, by which no three periods share a day
pub record Orderly (choice : ℕ) (p : List ℕ) : Type 0 where
  pub few : blocks_of p ≤ 32
  pub ends : interval_of (block_at p (blocks_of p)) ≡ 0
  pub dated : Dated p
  pub sorted : (b : ℕ) → b < blocks_of p → is_period p b ≡ true → Sorted p b
  pub small : (b : ℕ) → b < blocks_of p → is_period p b ≡ true → Small choice p b
  pub rounds : (b : ℕ) → b < blocks_of p → is_period p b ≡ true → 0 < interval_of (block_at p b) → InRound p b
  pub two : (d a b c : ℕ) → a < b → b < c → c < blocks_of p → covers p d a ≡ true → covers p d b ≡ true → covers p d c ≡ false

-- j is the first dose whose day number is x or more
pub record From (p : List ℕ) (b n x j : ℕ) : Type 0 where
  pub within : j ≤ n
  pub before : (i : ℕ) → i < j → (dose_in p b i).day < x
  pub behind : (i : ℕ) → j ≤ i → i < n → x ≤ (dose_in p b i).day

-- the lowest day number that counts at a position
abbrev pub lowest_at : ℕ → ℕ
lowest_at position = cond (eqb position 1) 0 position

-- what the period at block b needs at a position
unfoldable pub need_at : ℕ → List ℕ → ℕ → ℕ → ℕ
need_at choice p b x =
    sum_below (doses_of p b) (λ j. cond (applies x (dose_in p b j)) (chosen choice (dose_in p b j)) 0)

-- what it needs in a round: each of its doses once
unfoldable pub round_need : ℕ → List ℕ → ℕ → ℕ
round_need choice p b = sum_below (doses_of p b) (λ j. chosen choice (dose_in p b j))

-- what it needs on day d
abbrev pub need_of : ℕ → List ℕ → ℕ → ℕ → ℕ
need_of choice p b d = need_at choice p b (position_of (header_of (block_at p b)) d)

-- s stands in the doses of the period t, behind those of its position
pub record Placed (choice : ℕ) (p : List ℕ) (t : Period) (s : Place) : Type 0 where
  pub sorted : Sorted p t.b
  pub small : Small choice p t.b
  pub all : t.doses ≡ doses_of p t.b
  pub interval_is : t.interval ≡ interval_of (block_at p t.b)
  pub some : 0 < s.position
  pub behind : From p t.b t.doses (s.position + 1) s.behind
  pub due_is : s.due ≡ need_at choice p t.b s.position

-- the position of the day behind one at position x, in rounds of k days; k is 0 where there are none
abbrev pub position_behind : ℕ → ℕ → ℕ
position_behind k x = cond (eqb x k) 1 (x + 1)

-- where the doses of a position begin, if those of the position ahead of it end at a dose
abbrev pub dose_from : ℕ → ℕ → ℕ
dose_from x behind = cond (eqb x 1) 0 behind

-- in the period each day needs what the one ahead of it needs
abbrev pub is_still : Option Period → Bool
is_still None = true
is_still (Some t) = eqb t.interval 1

-- r is where the day behind that of s stands in the period, if there is one
abbrev pub Moved : ℕ → List ℕ → Option Period → Place → Place → Type 0
Moved choice p t s r = MatchOption t (r ≡ s) (λ t. Placed choice p t r × (r.position ≡ position_behind t.interval s.position))

-- the period t, which has begun by day d, is as the walk counts on
pub record InPeriod (choice : ℕ) (p : List ℕ) (d : ℕ) (t : Period) : Type 0 where
  pub sorted : Sorted p t.b
  pub small : Small choice p t.b
  pub all : t.doses ≡ doses_of p t.b
  pub interval_is : t.interval ≡ interval_of (block_at p t.b)
  pub began : first_of (block_at p t.b) ≤ d

-- s is where day d stands in the period t
pub record StandsIn (choice : ℕ) (p : List ℕ) (d : ℕ) (t : Period) (s : Place) : Type 0 where
  pub placed : Placed choice p t s
  pub position_is : s.position ≡ position_of (header_of (block_at p t.b)) d
  pub began : first_of (block_at p t.b) ≤ d

-- the same, if there is one
abbrev pub Stands : ℕ → List ℕ → ℕ → Option Period → Place → Type 0
Stands choice p d t s = MatchOption t (s.due ≡ 0) (λ t. StandsIn choice p d t s)

-- the period at block b, and whether there is one
abbrev pub period_of : List ℕ → ℕ → Period
period_of p b = record { b = b; doses = doses_of p b; interval = interval_of (block_at p b) }

abbrev pub period_at : List ℕ → ℕ → Option Period
period_at p b = cond (ltb b (blocks_of p)) (Some (period_of p b)) None

-- the period if it has doses of the choice, and else none
abbrev pub kept_of : Option Period → Bool → Option Period
kept_of t chosen = cond chosen t None

-- the test says yes on each day from d to u, and no on the one behind
pub record Reach (test : ℕ → Bool) (d u : ℕ) : Type 0 where
  pub reached : d ≤ u
  pub all : (e : ℕ) → d ≤ e → e ≤ u → test e ≡ true
  pub next : test (u + 1) ≡ false

-- the first iterated period that day d is in, and in no other with doses of the choice; past all blocks where there is none
abbrev pub alone_on : ℕ → List ℕ → ℕ → ℕ
alone_on choice p d = first_below (blocks_of p) (λ b. ltb 0 (interval_of (block_at p b)) && is_alone choice p b d)

-- r has the rounds of that period
pub record Rounded (choice : ℕ) (p : List ℕ) (d : ℕ) (r : Round) : Type 0 where
  pub interval_is : r.interval ≡ interval_of (block_at p (alone_on choice p d))
  pub need_is : 0 < r.interval → r.need ≡ round_need choice p (alone_on choice p d)
  pub reach : 0 < r.interval → Reach (is_alone choice p (alone_on choice p d)) d r.until

-- a period's doses can be counted; in rounds of one day they come to what the day needs
pub record Counts (choice : ℕ) (p : List ℕ) (t : Period) (due : ℕ) : Type 0 where
  pub small : Small choice p t.b
  pub all : t.doses ≡ doses_of p t.b
  pub day : t.interval ≡ 1 → due ≡ round_need choice p t.b

-- the rounds of a period, if no other with doses of the choice begins up to day `clear`
abbrev pub rounds_of : ℕ → List ℕ → ℕ → Period → Round
rounds_of choice p clear t = record { need = round_need choice p t.b; interval = t.interval; until = min (last_of (block_at p t.b)) clear }

-- the period, if it is iterated, and another, if there is one, has no doses of the choice
abbrev pub free_of : Option Period → Bool → Option Period
free_of None crowded = None
free_of (Some t) crowded = cond (ltb 0 t.interval && not crowded) (Some t) None

-- its rounds; where there is no period there are none
abbrev pub rounds_on : ℕ → List ℕ → ℕ → Option Period → Round
rounds_on choice p clear None = record { need = 0; interval = 0; until = 0 }
rounds_on choice p clear (Some t) = rounds_of choice p clear t

-- what a period needs on a day, if there is one
abbrev pub need_in : ℕ → List ℕ → Option Period → ℕ → ℕ
need_in choice p None d = 0
need_in choice p (Some t) d = need_of choice p t.b d

-- t is where day d stands in its periods with doses of the choice, and up to day `until` they stay. What a period
-- needs is its own: the other has no part in it
pub record Known (choice : ℕ) (p : List ℕ) (d : ℕ) (t : Today) : Type 0 where
  pub reached : d ≤ t.until
  pub still : d < t.same → (is_still t.first ≡ true) × (is_still t.second ≡ true)
  pub first : Stands choice p d t.first t.in_first
  pub second : Stands choice p d t.second t.in_second
  pub sum : (e : ℕ) → d ≤ e → e ≤ t.until → due_on choice p e ≡ need_in choice p t.first e + need_in choice p t.second e
  pub rounded : (e : ℕ) → d ≤ e → e ≤ t.until → Rounded choice p e t.rounds
  pub whose : 0 < t.rounds.interval → IfSome t.first (λ x. x.interval ≡ t.rounds.interval) × IfSome t.second (λ x. x.interval ≡ t.rounds.interval)

-- r is the day behind that of t, in the same periods
pub record Behind (choice : ℕ) (p : List ℕ) (t r : Today) : Type 0 where
  pub until_is : r.until ≡ t.until
  pub same_is : r.same ≡ t.same
  pub rounds_is : r.rounds ≡ t.rounds
  pub first_is : r.first ≡ t.first
  pub second_is : r.second ≡ t.second
  pub first : Moved choice p t.first t.in_first r.in_first
  pub second : Moved choice p t.second t.in_second r.in_second

-- the test answers on each day from d to u as it does on d
abbrev pub Steady : (ℕ → Bool) → ℕ → ℕ → Type 0
Steady test d u = (e : ℕ) → d ≤ e → e ≤ u → test e ≡ test d

-- b is the first block from lo on whose period has day d; past all blocks where there is none
pub record Next (p : List ℕ) (d lo b : ℕ) : Type 0 where
  pub behind : lo ≤ b
  pub before : (k : ℕ) → lo ≤ k → k < b → covers p d k ≡ false
  pub here : b < blocks_of p → covers p d b ≡ true
