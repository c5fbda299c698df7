use Prim.Native.Nat.{◌+◌, ◌-◌, ◌≤◌}
use mathlib.Core.Path.{◌≡◌}
use Rattle.day.specs.Calendar.{year_start}
use Rattle.day.proofs.calendar.date_of.Given as goal

abbrev pub invariant-loop-year : goal.invariant-loop-year
invariant-loop-year l = (2000 ≤ l.year) × (l.year ≤ 2200) × (year_start (l.year - 2000) + l.rest ≡ l.initial.rest)
