-- What is asked, once the plan is judged, and what is answered then by a choice. No answer is stated by these.
use Rattle.std.specs.Prelude.{ℕ, ◌≤◌, ◌≡◌, Bool, true, cond, ◌&&◌, List, eqb, leb, ltb, Result, Err, Ok}
use Rattle.std.specs.Result.{MatchResult}
use Rattle.day.specs.Days.{last_number}
use Rattle.need.specs.Need.{need_on, stop_day, has_stop}
use Rattle.need.specs.Telling.{bits_in, Tells}
use Rattle.pause.specs.declared.Pause.{Pause}
use Rattle.plan.specs.Fields.{last_of}
use Rattle.plan.specs.Periods.{block_at, is_period}
use Rattle.refusal.specs.Refusals.{alone}
use Rattle.refusal.specs.declared.Refusal.{Refusal}
use Rattle.verdict.specs.Verdict.{verdict_of}
use Rattle.supply.specs.Dates.{has_interval, is_ranging, is_needed, date_by, set_of, set_by}
use Rattle.supply.specs.Supply.{lasting_of, asked_by, own_by, judged_of, passed_on}
use Rattle.supply.specs.Code.Walking.{Ready}
use Rattle.supply.specs.declared.Dates.{Dates}
use Rattle.supply.specs.Answers.{Supply}
use Rattle.supply.specs.declared.ask.Asked.{Asked}
use Rattle.supply.specs.declared.walk.Walk.{Walk}

-- the choice is asked for: 2 where `upper` says so, 3 and 4 where `needed` does
abbrev pub is_asked : Asked → ℕ → Bool
is_asked a choice = cond (eqb choice 2) a.upper (cond (ltb 2 choice) a.needed true)

-- the choice's own refusal: 23 too where it is not asked for
abbrev pub number_by : List ℕ → Asked → ℕ → ℕ
number_by p a choice = cond (is_asked a choice) (own_by a.start choice (has_stop choice p) (stop_day choice p)) 23

-- x, unless a refusal's number is given, as 0 is where there is none
abbrev pub unless_given : {X : Type 0} → ℕ → X → Result X Refusal
unless_given number x = cond (eqb number 0) (Ok x) (Err (alone number))

-- what supply answers by the choice
unfoldable pub answered_by : List ℕ → Asked → ℕ → List Pause → Supply
answered_by p a choice ps = unless_given (number_by p a choice) (lasting_of (need_on choice p ps) a.start (stop_day choice p) a.pack)

-- what is known of the plan that it is asked of
pub record Judged (p : List ℕ) (a : Asked) : Type 0 where
  pub accepted : (n : ℕ) × (verdict_of p ≡ Ok n)
  pub tells : (choice : ℕ) → Tells choice p (bits_in a.told choice)
  pub start_in : a.start ≤ last_number

-- r refuses whatever is asked; `out` says that 21 is due
pub record Refuses (p : List ℕ) (start pack : ℕ) (out : Bool) (r : Refusal) : Type 0 where
  pub supplies : (choice : ℕ) (ps : List Pause) → Err r ≡ passed_on (verdict_of p) (judged_of p start pack choice out ps)
  pub sets : (x : Dates) → Err r ≡ set_by (verdict_of p) (asked_by start pack out 0) x

-- a is asked for a supply
pub record AsksSupply (p : List ℕ) (start pack : ℕ) (out : Bool) (a : Asked) : Type 0 where
  pub judged : Judged p a
  pub start_is : a.start ≡ start
  pub all : (choice : ℕ) → is_asked a choice ≡ true
  pub supplies : (choice : ℕ) (ps : List Pause) → answered_by p a choice ps ≡ passed_on (verdict_of p) (judged_of p start pack choice out ps)
  pub sets : (x : Dates) → Ok x ≡ set_by (verdict_of p) (asked_by start pack out 0) x

-- a is asked for a set of dates
pub record AsksDates (p : List ℕ) (start pack : ℕ) (out : Bool) (a : Asked) : Type 0 where
  pub judged : Judged p a
  pub upper_is : a.upper ≡ is_ranging start p
  pub needed_is : a.needed ≡ is_needed start p
  pub supplies : (choice : ℕ) (ps : List Pause) → is_asked a choice ≡ true → answered_by p a choice ps ≡ passed_on (verdict_of p) (judged_of p start pack choice out ps)
  pub sets : (x : Dates) → Ok x ≡ set_by (verdict_of p) (asked_by start pack out 0) x

-- what is asked, or why it is refused
abbrev pub ForSupply : List ℕ → ℕ → ℕ → Bool → Result Asked Refusal → Type 0
ForSupply p start pack out asked = MatchResult asked (AsksSupply p start pack out) (Refuses p start pack out)

abbrev pub ForDates : List ℕ → ℕ → ℕ → Bool → Result Asked Refusal → Type 0
ForDates p start pack out asked = MatchResult asked (AsksDates p start pack out) (Refuses p start pack out)

-- the walk by a choice begins with w
pub record Begins (p : List ℕ) (a : Asked) (choice : ℕ) (w : Walk) : Type 0 where
  pub ready : Ready choice p w
  pub lasts_is : (ps : List Pause) → answered_by p a choice ps ≡ Ok (lasting_of (need_on choice p ps) w.start w.stop w.rest)

-- where the walk by a choice begins, or why it is refused
abbrev pub Begun : List ℕ → Asked → ℕ → Result Walk Refusal → Type 0
Begun p a choice begun = MatchResult begun (Begins p a choice) (λ r. (ps : List Pause) → answered_by p a choice ps ≡ Err r)

-- the period at block b, if `fixed` says that it is fixed or mixed, ends on or after the start and has an unmarked interval dose
abbrev pub ranges_with : ℕ → Bool → List ℕ → ℕ → Bool
ranges_with start fixed p b = is_period p b && fixed && leb start (last_of (block_at p b)) && has_interval p b

-- the set, from the supplies by choices 1 to 4
abbrev pub set_from : Asked → Supply → Supply → Supply → Supply → Dates
set_from a low upper both needed = set_of a.upper a.needed (date_by (λ choice. cond (eqb choice 1) low (cond (eqb choice 2) upper (cond (eqb choice 3) both needed))))
