-- The code's table of the days before each month is right, and laws of `before` for any number of months. Assumes nothing.
use Prim.Native.Nat.{ℕ, zero, suc, ◌+◌, ◌-◌, ◌≤◌, ◌<◌}
use mathlib.Core.Path.{◌≡◌, refl}
use mathlib.Core.Bool.{Bool, true, false}
use mathlib.Core.List.{List, [], ◌∷◌}
use mathlib.Core.Logic.{⊎_elim}
use native.Mathlib.Nat.{eq-or-lt_of_le}
use native.Mathlib.Omega.{arith}
use native.Mathlib.Numerals.{add-one}
use lib.Dec.{eqb, leb}
use lib.ListN.{get_or, get_or-eq_default}
use borrow.Author.Tests.{eqb-true, leb-true}
use Rattle.std.specs.Int.{from_bool}
use Rattle.below.specs.Below.{sum_below, all_below}
use Rattle.below.proofs.Tests.{le_or_lt}
use Rattle.below.proofs.Search.{all_at_2}
use Rattle.below.proofs.Total.{sum_zero, sum_more}
use Rattle.day.specs.Calendar.{months, before}
use Rattle.day.proofs.Steps.{rises}

-- the code's BEFORE
abbrev pub table : List (List ℕ)
table =
    (0 ∷ 31 ∷ 59 ∷ 90 ∷ 120 ∷ 151 ∷ 181 ∷ 212 ∷ 243 ∷ 273 ∷ 304 ∷ 334 ∷ []) ∷
    (0 ∷ 31 ∷ 60 ∷ 91 ∷ 121 ∷ 152 ∷ 182 ∷ 213 ∷ 244 ∷ 274 ∷ 305 ∷ 335 ∷ []) ∷ []

-- a test that holds at both rows and each month
in_rows : (p : Bool → ℕ → Bool) → all_below 2 (λ i. all_below 12 (p (eqb i 1))) ≡ true → (leap : Bool) (m : ℕ) →
    m < 12 → p leap m ≡ true
in_rows p e false m h = all_at_2 (λ i. p (eqb i 1)) 2 12 e 0 m (omega arith) h
in_rows p e true m h = all_at_2 (λ i. p (eqb i 1)) 2 12 e 1 m (omega arith) h

module _ (leap : Bool) where
  pub table_right : {row m : ℕ} → row ≡ from_bool leap → m < 12 → get_or (get_or table row []) m 0 ≡ before leap m
  unfolding before months sum_below all_below
  table_right e h =
      rw e
      (eqb-true _ _
      (in_rows (λ leap m. eqb (get_or (get_or table (from_bool leap) []) m 0) (before leap m)) refl leap _ h))

  -- a month has a day
  pub month_some : (m : ℕ) → m < 12 → 1 ≤ get_or (months leap) m 0
  unfolding months all_below
  month_some m h = leb-true _ _ (in_rows (λ leap m. leb 1 (get_or (months leap) m 0)) refl leap m h)

  pub before_zero : before leap 0 ≡ 0
  unfolding before
  before_zero = sum_zero _

  -- a month more
  pub before_more : (m : ℕ) → before leap (m + 1) ≡ before leap m + get_or (months leap) m 0
  unfolding before
  before_more m = sum_more _ m

  -- .. by the month's own number, which counts from 1
  pub before_month : (m : ℕ) → 1 ≤ m → before leap m ≡ before leap (m - 1) + get_or (months leap) (m - 1) 0
  before_month m h = let e : m - 1 + 1 ≡ m = omega arith in rw e at (before_more (m - 1))

  -- the year's end is not in the table: December has 31
  pub table_end : {row : ℕ} → row ≡ from_bool leap → get_or (get_or table row []) 11 0 + 31 ≡ before leap 12
  unfolding months
  table_end e = omega (arith, before_more 11, table_right {m = 11} e (omega arith))

  -- past December there are no days
  pub before_stays : (m : ℕ) → 12 ≤ m → before leap m ≡ before leap 12
  unfolding months
  before_stays zero h = absurd (omega arith)
  before_stays (suc m) h =
      ⊎_elim
      (λ (e : 12 ≡ suc m). rw e)
      (λ l.
      let more = rw add-one at (before_more m) in
      omega (arith, more, get_or-eq_default (months leap) 0 {n = m} (omega arith), before_stays m (omega arith)))
      (eq-or-lt_of_le h)

  pub before_step : (m : ℕ) → before leap m ≤ before leap (m + 1)
  before_step m = omega (arith, before_more m)

  -- so no number of months has more days than a year, and no year has more than 366
  pub before_year : (m : ℕ) → before leap m ≤ before leap 12
  before_year m =
      ⊎_elim
      (λ l. rises (before leap) before_step m 12 l)
      (λ l. omega (arith, before_stays m (omega arith)))
      (le_or_lt m 12)

year_most : (leap : Bool) → before leap 12 ≤ 366
unfolding before months sum_below
year_most true = omega arith
year_most false = omega arith

pub before_most : (leap : Bool) (m : ℕ) → before leap m ≤ 366
before_most leap m = omega (arith, before_year leap m, year_most leap)
