-- What document 02, W1, says of the set of dates, over supply's own answers: `supply` is the answer by each choice, and `set` the set.
use Rattle.refusal.specs.Refusals.{refusal_in}
use Rattle.std.specs.Prelude.{ℕ, ◌≤◌, ◌<◌, true, false, List, ◌⊎◌, ◌≡◌, Ok}
use Rattle.day.specs.Days.{open_mark}
use Rattle.need.specs.Need.{fixed_or_mixed}
use Rattle.plan.specs.Periods.{blocks_of, is_period, class_of}
use Rattle.supply.specs.Dates.{is_ranging, is_needed, no_dates, dates_in}
use Rattle.supply.specs.Supply.{lasting_in}
use Rattle.supply.specs.declared.Dates.{Dates}
use Rattle.supply.specs.Answers.{DateSet}
use Rattle.supply.specs.Answers.{Supply}

-- "0 covered days, or whose choice 24 would refuse"
abbrev pub HasNoDay : Supply → Type 0
HasNoDay s = (((refusal_in s).number ≡ 0) × ((lasting_in s).days ≡ 0)) ⊎ ((refusal_in s).number ≡ 24)

-- the date of a choice: the last covered day of its supply, absent exactly where there is none
pub record IsDate (s : Supply) (date : ℕ) : Type 0 where
  pub is_last : date ≡ (lasting_in s).last
  -- "A date with 0 covered days, or whose choice 24 would refuse, is absent."
  pub absent_where : HasNoDay s → date ≡ open_mark
  pub absent_only : date ≡ open_mark → HasNoDay s

-- a set that is not refused
pub record DatesAre (p : List ℕ) (start : ℕ) (supply : ℕ → Supply) (x : Dates) : Type 0 where
  -- "one end date if no fixed or mixed period ending on or after the start has an unmarked interval dose": by low or by upper amounts
  pub one_end : is_ranging start p ≡ false → IsDate (supply 1) x.end × IsDate (supply 2) x.end
  pub not_two : is_ranging start p ≡ false → (x.minimum ≡ open_mark) × (x.maximum ≡ open_mark)
  -- "else a minimum date by low amounts and a maximum date by upper amounts"
  pub two_ends : is_ranging start p ≡ true → IsDate (supply 1) x.minimum × IsDate (supply 2) x.maximum
  pub not_one : is_ranging start p ≡ true → x.end ≡ open_mark
  -- where there is a maximum date there is a minimum date, and it is the later one or the same: low amounts last longer
  pub later : is_ranging start p ≡ true → (x.maximum ≡ open_mark → ⊥) → (x.minimum ≡ open_mark → ⊥) × (x.maximum ≤ x.minimum)
  -- "and dates 3 and 4 where a need or mixed period ends on or after the start"
  pub needed : is_needed start p ≡ true → IsDate (supply 3) x.third × IsDate (supply 4) x.fourth
  pub not_needed : is_needed start p ≡ false → (x.third ≡ open_mark) × (x.fourth ≡ open_mark)

-- "a need-only plan"
abbrev pub NeedOnly : List ℕ → Type 0
NeedOnly p = (b : ℕ) → b < blocks_of p → is_period p b ≡ true → fixed_or_mixed (class_of p b) ≡ false

pub record Sets (p : List ℕ) (start : ℕ) (supply : ℕ → Supply) (set : DateSet) : Type 0 where
  pub given : (x : Dates) → set ≡ Ok x → DatesAre p start supply x
  -- "all dates absent"
  pub refused : ((refusal_in set).number ≡ 0 → ⊥) → dates_in set ≡ no_dates
  -- where there is one end date it does not matter by which amounts: the whole answers are the same
  pub one_answer : is_ranging start p ≡ false → supply 1 ≡ supply 2
  -- "For a need-only plan 3 and 4 are proved equal.": the whole answers, and the dates
  pub need_only : NeedOnly p → supply 3 ≡ supply 4
  pub need_only_dates : NeedOnly p → (dates_in set).third ≡ (dates_in set).fourth
