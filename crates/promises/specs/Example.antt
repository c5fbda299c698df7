-- Document 01, "Worked on paper": "For source 001's mixed plan (treatment from 2017-12-01, open)", the lists that the program writes:
-- "a line for each period of the fixed part, then the need part: list, first day, last day or "open", dose records".
use Rattle.std.specs.Prelude.{ℕ, true, false, List, [], ◌∷◌, ◌++◌, map, ◌≡◌, length}
use Rattle.day.specs.Calendar.{number_of}
use Rattle.day.specs.Days.{open_mark}
use Rattle.layout.specs.Layout.{Written, laid_out}
use Rattle.layout.specs.Reading.{periods_of}
use Rattle.plan.specs.declared.Head.{Head}
use Rattle.plan.specs.declared.Dose.{Dose}
use Rattle.split.specs.Parts.{part_bytes}
use Rattle.promises.specs.Demand2.{IsAccepted}

-- the number of a day of December 2017
abbrev pub december : ℕ → ℕ
december d = number_of (record { year = 2017; month = 12; day = d })

-- a day's doses: x in the morning and evening, and 1.00 as needed at noon and at night; and of a day with the latter alone
abbrev pub dose : ℕ → ℕ → ℕ → ℕ → Dose
dose day kind mark x = record { day = day; kind = kind; mark = mark; minute = 0; low = x; high = 0 }

abbrev pub four : ℕ → ℕ → List Dose
four day x = dose day 1 0 x ∷ dose day 2 1 100 ∷ dose day 3 0 x ∷ dose day 4 1 100 ∷ []

abbrev pub two : ℕ → List Dose
two day = dose day 2 1 100 ∷ dose day 4 1 100 ∷ []

abbrev pub period : ℕ → ℕ → List Dose → Written
period first last ds = record { header = record { interval = 0; first = december first; end = december last }; doses = ds }

unfoldable pub mixed_head : Head
mixed_head = record { unit = 7; start = december 1; end = open_mark; number = 1; revision = 1; vka = 0 }

unfoldable pub mixed_periods : List Written
mixed_periods =
    period 4 7 (four 1 300 ++ (four 2 300 ++ (four 3 100 ++ four 4 100))) ∷
    period 8 11 [] ∷
    period 12 15 (four 1 100 ++ (four 2 100 ++ (two 3 ++ two 4))) ∷ []

unfoldable pub mixed_plan : List ℕ
mixed_plan = laid_out mixed_head mixed_periods

-- a line: first day, last day, dose records
pub record Line : Type 0 where
  pub first : ℕ
  pub last : ℕ
  pub doses : ℕ

abbrev pub line_of : Written → Line
line_of w = record { first = w.header.first; last = w.header.end; doses = length w.doses }

abbrev pub line : ℕ → ℕ → ℕ → Line
line first last doses = record { first = december first; last = december last; doses = doses }

pub record Example : Type 0 where
  -- "verdict 0 255"
  pub verdict : IsAccepted mixed_plan
  -- "fixed 2017-12-04 2017-12-07 8", "fixed 2017-12-08 2017-12-11 0", "fixed 2017-12-12 2017-12-15 4"
  pub fixed : map line_of (periods_of (part_bytes false mixed_plan)) ≡ line 4 7 8 ∷ line 8 11 0 ∷ line 12 15 4 ∷ []
  -- "need 2017-12-04 2017-12-07 8", "need 2017-12-08 2017-12-11 0", "need 2017-12-12 2017-12-15 8"
  pub need : map line_of (periods_of (part_bytes true mixed_plan)) ≡ line 4 7 8 ∷ line 8 11 0 ∷ line 12 15 8 ∷ []
