-- What a choice says, what a day needs by it, and where it stops.
use Rattle.std.specs.Prelude.{ℕ, Bool, true, false, cond, not, ◌&&◌, List, ◌==◌, nat_le}
use Rattle.below.specs.Below.{any_below, largest_below}
use Rattle.below.specs.Lists.{keep, sum_over}
use Rattle.doses.specs.Doses.{doses_on, low_of}
use Rattle.pause.specs.Pauses.{is_paused}
use Rattle.pause.specs.declared.Pause.{Pause}
use Rattle.plan.specs.Fields.{last_of, is_marked, upper_of}
use Rattle.plan.specs.Periods.{blocks_of, block_at, is_period, class_of}
use Rattle.plan.specs.Classes.{is_empty, has_fixed, has_need}
use Rattle.plan.specs.declared.Class.{Class}
use Rattle.plan.specs.declared.Dose.{Dose}

-- what a choice says: which doses count, by which amount, and the periods of which classes set the stop day
pub record Choice : Type 0 where
  pub counts : Dose → Bool
  pub amount : Dose → ℕ
  pub stops : Class → Bool

-- "unmarked amounts as chosen"; "marked and unmarked doses"; "marked doses only" is `is_marked`
abbrev pub unmarked : Dose → Bool
unmarked x = not (is_marked x)

abbrev any_mark : Dose → Bool
any_mark x = true

-- "any fixed or mixed period"; "any period with doses"; "a need or mixed period"
abbrev pub fixed_or_mixed : Class → Bool
fixed_or_mixed class = has_fixed class

abbrev pub with_doses : Class → Bool
with_doses class = not (is_empty class)

abbrev pub need_or_mixed : Class → Bool
need_or_mixed class = has_need class

-- "choice (1 low, 2 upper)", a row a choice
abbrev pub by_low : Choice
by_low = record { counts = unmarked; amount = low_of; stops = fixed_or_mixed }

abbrev pub by_upper : Choice
by_upper = record { counts = unmarked; amount = upper_of; stops = fixed_or_mixed }

-- W1: "Choice 3 counts marked and unmarked doses by upper amount, up to the last day of any period with doses."
abbrev pub of_both : Choice
of_both = record { counts = any_mark; amount = upper_of; stops = with_doses }

-- W1: "Choice 4 counts marked doses only, by upper amount, up to the last day of a need or mixed period."
abbrev pub as_needed : Choice
as_needed = record { counts = is_marked; amount = upper_of; stops = need_or_mixed }

-- by any other number, which supply refuses, nothing counts
abbrev pub no_choice : Choice
no_choice = record { counts = λ x. false; amount = λ x. 0; stops = λ class. false }

unfoldable pub choice_of : ℕ → Choice
choice_of choice =
    cond (choice == 1) by_low (cond (choice == 2) by_upper (cond (choice == 3) of_both (cond (choice == 4) as_needed no_choice)))

-- "23 now means not 1 to 4"
abbrev pub is_choice : ℕ → Bool
is_choice choice = nat_le 1 choice && nat_le choice 4

-- the doses of the choice on day d
abbrev pub doses_by : ℕ → List ℕ → ℕ → List Dose
doses_by choice p d = keep (choice_of choice).counts (doses_on p d)

-- what they need, pauses apart
unfoldable pub due_on : ℕ → List ℕ → ℕ → ℕ
due_on choice p d = sum_over (choice_of choice).amount (doses_by choice p d)

-- what a dose counts by the choice; one that is none of its doses counts nothing
abbrev pub chosen : ℕ → Dose → ℕ
chosen choice x = cond ((choice_of choice).counts x) ((choice_of choice).amount x) 0

-- "A day's need is the sum of its unmarked amounts as chosen, 0 on a paused day."; W1: "the doses of the choice"
unfoldable pub need_on : ℕ → List ℕ → List Pause → ℕ → ℕ
need_on choice p ps d = cond (is_paused ps d) 0 (due_on choice p d)

-- the period at block b sets the stop day, if `class` says its class
abbrev pub stops_at : ℕ → (ℕ → Class) → List ℕ → ℕ → Bool
stops_at choice class p b = is_period p b && (choice_of choice).stops (class b)

-- the last day of any such period, and whether there is one
unfoldable pub stop_day_by : ℕ → (ℕ → Class) → List ℕ → ℕ
stop_day_by choice class p = largest_below (blocks_of p) (λ b. cond (stops_at choice class p b) (last_of (block_at p b)) 0)

unfoldable pub has_stop_by : ℕ → (ℕ → Class) → List ℕ → Bool
has_stop_by choice class p = any_below (blocks_of p) (stops_at choice class p)

-- "The stop day is the last day of any fixed or mixed period."; W1: "the choice's own stop day"
abbrev pub stop_day : ℕ → List ℕ → ℕ
stop_day choice p = stop_day_by choice (class_of p) p

abbrev pub has_stop : ℕ → List ℕ → Bool
has_stop choice p = has_stop_by choice (class_of p) p
