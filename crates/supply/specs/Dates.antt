-- Document 02, W1: "A single call gives the set" of dates that the counter wants.
use Rattle.std.specs.Prelude.{ℕ, ◌%◌, Bool, cond, not, ◌&&◌, ◌||◌, List, eqb, leb, length, Err, Ok}
use Rattle.below.specs.Below.{any_below}
use Rattle.day.specs.Days.{open_mark}
use Rattle.need.specs.Need.{unmarked, fixed_or_mixed, need_or_mixed}
use Rattle.pause.specs.declared.Pause.{Pause}
use Rattle.pause.specs.Pauses.{are_out, pauses_in}
use Rattle.plan.specs.Fields.{last_of}
use Rattle.plan.specs.Periods.{blocks_of, block_at, is_period, doses_of, dose_in, class_of}
use Rattle.plan.specs.declared.Class.{Class}
use Rattle.plan.specs.declared.Dose.{Dose}
use Rattle.refusal.specs.Refusals.{alone}
use Rattle.verdict.specs.Answers.{Answer}
use Rattle.verdict.specs.Verdict.{verdict_of}
use Rattle.supply.specs.declared.Dates.{Dates}
use Rattle.supply.specs.Answers.{DateSet}
use Rattle.supply.specs.Answers.{Supply}
use Rattle.supply.specs.Supply.{asked_by, lasting_in, supply_of, packed_supply_of}

-- "an unmarked interval dose"
abbrev pub is_interval : Dose → Bool
is_interval x = unmarked x && not (eqb x.high 0)

-- the period at block b, of a class that is asked for, is one "ending on or after the start"
abbrev pub ends_from : (Class → Bool) → ℕ → List ℕ → ℕ → Bool
ends_from is_of start p b = is_period p b && is_of (class_of p b) && leb start (last_of (block_at p b))

-- the period at block b has such a dose
unfoldable pub has_interval : List ℕ → ℕ → Bool
has_interval p b = any_below (doses_of p b) (λ j. is_interval (dose_in p b j))

-- "if no fixed or mixed period ending on or after the start has an unmarked interval dose", the other way round: some such period has one
unfoldable pub is_ranging : ℕ → List ℕ → Bool
is_ranging start p = any_below (blocks_of p) (λ b. ends_from fixed_or_mixed start p b && has_interval p b)

-- "where a need or mixed period ends on or after the start"
unfoldable pub is_needed : ℕ → List ℕ → Bool
is_needed start p = any_below (blocks_of p) (ends_from need_or_mixed start p)

-- a date is the last covered day of its choice's supply. "A date with 0 covered days, or whose choice 24 would refuse, is absent.": the
-- open mark, which is what supply has there
abbrev pub date_by : (ℕ → Supply) → ℕ → ℕ
date_by supply choice = (lasting_in (supply choice)).last

-- a date, or none where it is not asked for
abbrev date_if : Bool → ℕ → ℕ
date_if wanted date = cond wanted date open_mark

-- "one end date if .., else a minimum date by low amounts and a maximum date by upper amounts; and dates 3 and 4 where .."; where there is
-- one end date, low and upper amounts give the same (proofs/Agreeing.antt)
unfoldable pub set_of : Bool → Bool → (ℕ → ℕ) → Dates
set_of ranging needed date =
    record {
      end = date_if (not ranging) (date 1);
      minimum = date_if ranging (date 1);
      maximum = date_if ranging (date 2);
      third = date_if needed (date 3);
      fourth = date_if needed (date 4);
    }

-- "the set is refused by 1 to 17 and 20 to 22 only": by the verdict, by a number behind it, or not at all
abbrev pub set_by : Answer → ℕ → Dates → DateSet
set_by (Err r) number x = Err r
set_by (Ok n) number x = cond (eqb number 0) (Ok x) (Err (alone number))

-- "all dates absent" where it is refused
abbrev pub no_dates : Dates
no_dates = record { end = open_mark; minimum = open_mark; maximum = open_mark; third = open_mark; fourth = open_mark }

abbrev pub dates_in : DateSet → Dates
dates_in (Ok x) = x
dates_in (Err r) = no_dates

-- the set of a plan, a start day, a pack amount and a list of pause records
abbrev pub dates_of : List ℕ → ℕ → ℕ → List Pause → DateSet
dates_of p start pack ps =
    set_by (verdict_of p) (asked_by start pack (are_out ps) 0)
    (set_of (is_ranging start p) (is_needed start p) (date_by (λ choice. supply_of p start pack choice ps)))

-- with pauses of 8 bytes each, "another length is 21"
abbrev pub packed_dates_of : List ℕ → ℕ → ℕ → List ℕ → DateSet
packed_dates_of p start pack s =
    set_by (verdict_of p) (asked_by start pack (not (eqb (length s % 8) 0) || are_out (pauses_in s)) 0)
    (set_of (is_ranging start p) (is_needed start p) (date_by (λ choice. packed_supply_of p start pack choice s)))
