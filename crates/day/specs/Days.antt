-- The days of the calendar, the open mark, and what each conversion answers.
use Rattle.std.specs.Prelude.{ℕ, ◌<◌, ◌≡◌, Bool, true, cond, not, ◌||◌, eqb, leb, ltb, Option, Some, None}
use Rattle.day.specs.declared.Date.{Date}
use Rattle.day.specs.declared.Day.{Day}
use Rattle.day.specs.Calendar.{is_date, number_of}

-- "0 is 2000-01-01"
abbrev pub first_number : ℕ
first_number = 0

-- "the last is 73,048"
abbrev pub last_number : ℕ
last_number = 73048

-- "4,294,967,295 means "open""
abbrev pub open_mark : ℕ
open_mark = 4294967295

-- a number is a day of the calendar
abbrev pub is_day : ℕ → Bool
is_day n = leb n last_number

-- "An open last day counts as 73,048."
abbrev pub closed_day : ℕ → ℕ
closed_day n = cond (eqb n open_mark) last_number n

-- "a day is above 73,048 and not an allowed open mark, or a first day .. lies after its end": from `first` to `end`, which may
-- be the open mark, is no stretch of days
abbrev pub is_no_span : ℕ → ℕ → Bool
is_no_span first end = not (is_day first) || not (is_day end || eqb end open_mark) || ltb (closed_day end) first

-- the day that a date names: its own, or none where it is no date of the calendar
abbrev pub named_by : Date → Option Day
named_by d = cond (is_date d) (Some (record { number = number_of d })) None

-- the date that a day shows as: the one whose number it is, or none where it is no day of the calendar
abbrev pub Shows : ℕ → Option Date → Type 0
Shows n (Some d) = (is_date d ≡ true) × (number_of d ≡ n)
Shows n None = last_number < n
