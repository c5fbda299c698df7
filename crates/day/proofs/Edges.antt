-- The calendar's ends, leap days, and dates that are none, computed as one statement. Assumes nothing.
use Prim.Native.Nat.{ℕ}
use mathlib.Core.Path.{◌≡◌, refl}
use Rattle.std.specs.Prelude.{Option, Some, None}
use mathlib.Core.List.{List, [], ◌∷◌, map}
use Rattle.below.specs.Below.{sum_below}
use Rattle.day.specs.declared.Date.{Date}
use Rattle.day.specs.declared.Day.{Day}
use Rattle.day.specs.Calendar.{is_leap, months, before, year_start, is_date, number_of}
use Rattle.day.specs.Days.{named_by}
use Rattle.day.proofs.Laws.{ymd}

pub record Case : Type 0 where
  pub date : Date
  pub named : Option Day

abbrev pub is : ℕ → ℕ → ℕ → Option Day → Case
is y m d n = record { date = ymd y m d; named = n }

abbrev pub day : ℕ → Option Day
day n = Some (record { number = n })

abbrev pub cases : List Case
cases =
    -- "0 is 2000-01-01, the last is 73,048, 2199-12-31"
    is 2000 1 1 (day 0) ∷
    is 2199 12 31 (day 73048) ∷
    is 1999 12 31 None ∷
    is 2200 1 1 None ∷
    -- 2000 is a leap year, 2100 is none
    is 2000 2 29 (day 59) ∷
    is 2100 2 29 None ∷
    is 2000 2 30 None ∷
    -- months and days count from 1
    is 2017 0 1 None ∷
    is 2017 13 1 None ∷
    is 2017 1 0 None ∷
    is 2017 4 31 None ∷ []

pub edges : map (λ c. named_by c.date) cases ≡ map (λ c. c.named) cases
unfolding is_date number_of year_start before months is_leap sum_below
edges = refl
