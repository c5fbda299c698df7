-- Laws of the years' starts, what the test for a date says, and the date of a day of a year. Assumes nothing.
use Prim.Native.Nat.{ℕ, ◌+◌, ◌-◌, ◌≤◌, ◌<◌}
use mathlib.Core.Path.{◌≡◌, refl}
use mathlib.Core.Bool.{Bool, true}
use native.Mathlib.Omega.{arith}
use lib.ListN.{get_or}
use borrow.Author.Tests.{leb-true, le-leb}
use Rattle.below.specs.Below.{sum_below}
use Rattle.below.proofs.Tests.{and_both, both_and, not_true_false}
use Rattle.below.proofs.Total.{sum_zero, sum_more}
use Rattle.day.specs.declared.Date.{Date}
use Rattle.std.specs.Prelude.{Some, None}
use Rattle.day.specs.Days.{named_by}
use Rattle.day.specs.Calendar.{is_leap, months, before, year_length, year_start, is_date, number_of}
use Rattle.day.specs.Code.Inside.{Inside}
use Rattle.day.proofs.Months.{before_more, before_month}

pub start_zero : year_start 0 ≡ 0
unfolding year_start
start_zero = sum_zero _

-- a year more
pub start_more : (k : ℕ) → year_start (k + 1) ≡ year_start k + year_length (2000 + k)
unfolding year_start
start_more k = sum_more _ k

-- .. by the year's own number
pub start_year : (y : ℕ) → 2000 ≤ y → year_start (y - 2000 + 1) ≡ year_start (y - 2000) + year_length y
start_year y h = let e : 2000 + (y - 2000) ≡ y = omega arith in rw e at (start_more (y - 2000))

-- the year 2200 would begin behind day 73,048
pub start_last : year_start 200 ≡ 73049
unfolding year_start before months is_leap sum_below
start_last = refl

-- the date by its year, month and day
abbrev pub ymd : ℕ → ℕ → ℕ → Date
ymd y m n = record { year = y; month = m; day = n }

-- the length of its month
abbrev pub month_length : Date → ℕ
month_length d = get_or (months (is_leap d.year)) (d.month - 1) 0

-- what the test for a date says
pub record Facts (d : Date) : Type 0 where
  pub year_from : 2000 ≤ d.year
  pub year_to : d.year ≤ 2199
  pub month_from : 1 ≤ d.month
  pub month_to : d.month ≤ 12
  pub day_from : 1 ≤ d.day
  pub day_to : d.day ≤ month_length d

pub facts : {d : Date} → is_date d ≡ true → Facts d
unfolding is_date
facts e =
    let f = and_both _ _ e in
    let g = and_both _ _ f.0 in
    let h = and_both _ _ g.0 in
    let i = and_both _ _ h.0 in
    let j = and_both _ _ i.0 in
    record {
      year_from = leb-true _ _ j.0;
      year_to = leb-true _ _ j.1;
      month_from = leb-true _ _ i.1;
      month_to = leb-true _ _ h.1;
      day_from = leb-true _ _ g.1;
      day_to = leb-true _ _ f.1;
    }

pub is_date_lem : {d : Date} → Facts d → is_date d ≡ true
unfolding is_date
is_date_lem f =
    both_and
    (both_and
    (both_and
    (both_and
    (both_and (le-leb _ _ f.year_from) (le-leb _ _ f.year_to))
    (le-leb _ _ f.month_from))
    (le-leb _ _ f.month_to))
    (le-leb _ _ f.day_from))
    (le-leb _ _ f.day_to)

-- the answer for a date, and for what is none
pub named : {d : Date} {n : ℕ} → Facts d → n ≡ number_of d → Some (record { number = n }) ≡ named_by d
named f e = rw (is_date_lem f, e)

pub not_named : {d : Date} → (Facts d → ⊥) → None ≡ named_by d
not_named n = rw (not_true_false _ (λ e. n (facts e)))

-- the month's length, by what the code reads before it and behind it
pub month_read : (y m : ℕ) {leap : Bool} {from to : ℕ} → leap ≡ is_leap y → from ≡ before leap m →
    to ≡ before leap (m + 1) → to ≡ from + get_or (months (is_leap y)) m 0
month_read y m l f t = rw (t, f, l) (before_more (is_leap y) m)

-- the day `rest` of the year 2000 + k is a date, and its number is the year's start and `rest`
module _ {k rest : ℕ} {d : Date} (h : k < 200) (i : Inside (2000 + k) rest d) where
  pub inside_date : is_date d ≡ true
  inside_date =
      is_date_lem (record {
        year_from = omega arith;
        year_to = omega arith;
        month_from = i.month_from;
        month_to = i.month_to;
        day_from = i.day_from;
        day_to = rw i.year (omega (arith, before_month (is_leap (2000 + k)) d.month i.month_from));
      })

  pub inside_number : number_of d ≡ year_start k + rest
  unfolding number_of
  inside_number = let e : 2000 + k - 2000 ≡ k = omega arith in rw (i.year, e) (omega arith)

-- what the search through the months ends with, at the month m + 1
pub inside : {y rest m from : ℕ} {leap : Bool} → leap ≡ is_leap y → from ≡ before leap m → m < 12 → from ≤ rest →
    rest < before leap (m + 1) → Inside y rest (ymd y (m + 1) (rest - from + 1))
inside {m} l f h a b =
    let e : m + 1 - 1 ≡ m = omega arith in
    record {
      year = refl;
      month_from = omega arith;
      month_to = omega arith;
      day_from = omega arith;
      sum = rw (e, ← l) (omega arith);
      day_to = rw (← l) (omega arith);
    }
