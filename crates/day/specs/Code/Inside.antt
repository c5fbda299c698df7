-- The date of a day of a year: what the search through the months finds.
use Rattle.std.specs.Prelude.{ℕ, ◌+◌, ◌-◌, ◌≤◌, ◌≡◌}
use Rattle.day.specs.declared.Date.{Date}
use Rattle.day.specs.Calendar.{is_leap, before}

-- d is the day `rest` of the year y, counted from 0
pub record Inside (y rest : ℕ) (d : Date) : Type 0 where
  pub year : d.year ≡ y
  pub month_from : 1 ≤ d.month
  pub month_to : d.month ≤ 12
  pub day_from : 1 ≤ d.day
  pub sum : before (is_leap y) (d.month - 1) + d.day ≡ rest + 1
  pub day_to : rest + 1 ≤ before (is_leap y) d.month
