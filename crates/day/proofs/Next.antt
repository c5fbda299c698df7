-- Why the numbers are the calendar's: 2000-01-01 has 0, and the date after a date has the next number. Assumes nothing.
use Prim.Native.Nat.{◌+◌, ◌-◌, ◌≤◌, ◌<◌}
use mathlib.Core.Path.{◌≡◌}
use mathlib.Core.Bool.{true, cond}
use mathlib.Core.Logic.{⊎_elim}
use native.Mathlib.Omega.{arith}
use lib.Dec.{ltb}
use borrow.Author.Rules.{rules}
use borrow.Author.Tests.{lt-ltb, le-ltb}
use Rattle.below.proofs.Tests.{le_or_lt}
use Rattle.day.specs.declared.Date.{Date}
use Rattle.std.specs.Prelude.{Some}
use Rattle.day.specs.Calendar.{is_leap, before, year_start, is_date, number_of}
use Rattle.day.specs.Days.{first_number, last_number, Shows}
use Rattle.day.proofs.Months.{month_some, before_zero, before_month}
use Rattle.day.proofs.Laws.{ymd, month_length, start_zero, start_year, start_last, Facts, facts, is_date_lem}

-- the date after a date: a day more, or else the next month's first, or else the next year's
unfoldable pub next_date : Date → Date
next_date d =
    cond (ltb d.day (month_length d)) (ymd d.year d.month (d.day + 1))
    (cond (ltb d.month 12) (ymd d.year (d.month + 1) 1) (ymd (d.year + 1) 1 1))

pub first_number_lem : number_of (ymd 2000 1 1) ≡ first_number
unfolding number_of
first_number_lem = omega (arith, start_zero, before_zero (is_leap 2000))

module _ (d : Date) (f : Facts d) where
  next_day : d.day < month_length d → Shows (number_of d + 1) (Some (ymd d.year d.month (d.day + 1)))
  unfolding number_of
  next_day l = (is_date_lem (search rules), omega arith)

  module _ (l : month_length d ≤ d.day) where
    -- the days up to the month's last
    upto : before (is_leap d.year) d.month ≡ before (is_leap d.year) (d.month - 1) + d.day
    upto = omega (arith, before_month (is_leap d.year) d.month f.month_from)

    next_month : d.month < 12 → Shows (number_of d + 1) (Some (ymd d.year (d.month + 1) 1))
    unfolding number_of
    next_month m =
        let some = month_some (is_leap d.year) (d.month + 1 - 1) (omega arith) in
        let e : d.month + 1 - 1 ≡ d.month = omega arith in
        (is_date_lem (search rules), rw e (omega (arith, upto)))

    next_year : 12 ≤ d.month → number_of d < last_number → Shows (number_of d + 1) (Some (ymd (d.year + 1) 1 1))
    unfolding number_of
    next_year m h =
        let e : d.month ≡ 12 = omega arith in
        let whole : before (is_leap d.year) 12 ≡ before (is_leap d.year) d.month = rw e in
        let n : year_start (d.year - 2000 + 1) ≡ number_of d + 1 =
        omega (arith, upto, start_year d.year f.year_from) in
        let z : d.year + 1 - 2000 ≡ d.year - 2000 + 1 = omega arith in
        let some = month_some (is_leap (d.year + 1)) 0 (omega arith) in
        let to : d.year + 1 ≤ 2199 =
        ⊎_elim
        (λ a. a)
        (λ a. let q : d.year - 2000 + 1 ≡ 200 = omega arith in absurd (omega (arith, start_last, rw q at n)))
        (le_or_lt (d.year + 1) 2199) in
        (is_date_lem (search rules), rw (z, before_zero) (omega arith))

-- the date after a date has the next number
pub next_number : (d : Date) → is_date d ≡ true → number_of d < last_number →
    (is_date (next_date d) ≡ true) × (number_of (next_date d) ≡ number_of d + 1)
unfolding next_date
next_number d h l =
    let f = facts h in
    ⊎_elim
    (λ (a : month_length d ≤ d.day).
    rw (le-ltb _ _ a)
    (⊎_elim
    (λ (b : 12 ≤ d.month). rw (le-ltb _ _ b) (next_year d f a b l))
    (λ (b : d.month < 12). rw (lt-ltb _ _ b) (next_month d f a b))
    (le_or_lt 12 d.month)))
    (λ (a : d.day < month_length d). rw (lt-ltb _ _ a) (next_day d f a))
    (le_or_lt (month_length d) d.day)
