-- "Gregorian calendar": leap years, months and the number of a date, counted from 2000-01-01.
use Rattle.std.specs.Prelude.{ℕ, ◌+◌, ◌-◌, ◌%◌, Bool, cond, not, ◌&&◌, ◌||◌, List, [], ◌∷◌, eqb, leb, get_or}
use Rattle.below.specs.Below.{sum_below}
use Rattle.day.specs.declared.Date.{Date}

-- every fourth year is a leap year, but of those that end a century only every fourth
unfoldable pub is_leap : ℕ → Bool
is_leap y = eqb (y % 4) 0 && (not (eqb (y % 100) 0) || eqb (y % 400) 0)

-- "two rows, common and leap years": the lengths of the months
unfoldable pub months : Bool → List ℕ
months leap = 31 ∷ cond leap 29 28 ∷ 31 ∷ 30 ∷ 31 ∷ 30 ∷ 31 ∷ 31 ∷ 30 ∷ 31 ∷ 30 ∷ 31 ∷ []

-- "The days before each month": the days of the year's first m months
unfoldable pub before : Bool → ℕ → ℕ
before leap m = sum_below m (λ i. get_or (months leap) i 0)

-- the days of a year
abbrev pub year_length : ℕ → ℕ
year_length y = before (is_leap y) 12

-- the day on which the year 2000 + k begins
unfoldable pub year_start : ℕ → ℕ
year_start k = sum_below k (λ i. year_length (2000 + i))

-- a year from 2000 to 2199, a month from 1 to 12, and a day from 1 to the month's length
unfoldable pub is_date : Date → Bool
is_date d =
    leb 2000 d.year
    && leb d.year 2199
    && leb 1 d.month
    && leb d.month 12
    && leb 1 d.day
    && leb d.day (get_or (months (is_leap d.year)) (d.month - 1) 0)

-- "A day is a number: 0 is 2000-01-01": the number of a date's day
unfoldable pub number_of : Date → ℕ
number_of d = year_start (d.year - 2000) + before (is_leap d.year) (d.month - 1) + (d.day - 1)
