-- Each day has one date and each date one day: the two conversions are inverse to each other. Assumes nothing.
use Prim.Native.Nat.{ℕ, ◌+◌, ◌-◌, ◌≤◌, ◌<◌}
use mathlib.Core.Path.{◌≡◌, refl, sym, ◌∙◌}
use mathlib.Core.Bool.{true}
use native.Mathlib.Omega.{arith}
use Rattle.day.specs.declared.Date.{Date}
use Rattle.std.specs.Prelude.{Option, Some, None}
use Rattle.day.specs.Calendar.{is_leap, before, year_start, is_date, number_of}
use Rattle.day.specs.Days.{last_number, named_by, Shows}
use Rattle.day.proofs.Steps.{In, rises, alone, within}
use Rattle.day.proofs.Months.{before_zero, before_more, before_step, before_year}
use Rattle.day.proofs.Laws.{start_zero, start_more, start_year, start_last, Facts, facts}
use Rattle.day.proofs.Laws.{inside, inside_date, inside_number}

start_step : (k : ℕ) → year_start k ≤ year_start (k + 1)
start_step k = omega (arith, start_more k)

-- where a date's day lies among the years, and in its year among the months
record Place (d : Date) : Type 0 where
  year : In year_start (number_of d) (d.year - 2000)
  month : In (before (is_leap d.year)) (number_of d - year_start (d.year - 2000)) (d.month - 1)
  sum : number_of d ≡ year_start (d.year - 2000) + before (is_leap d.year) (d.month - 1) + (d.day - 1)

place : {d : Date} → Facts d → Place d
unfolding number_of
place {d} f =
    let leap = is_leap d.year in
    let m = d.month - 1 in
    let more = before_more leap m in
    let most = before_year leap (m + 1) in
    let next = start_year d.year f.year_from in
    record { year = (omega arith, omega arith); month = (omega arith, omega arith); sum = refl }

-- a number is that of one date alone
pub one_date : {c d : Date} → is_date c ≡ true → is_date d ≡ true → number_of c ≡ number_of d → c ≡ d
one_date {c} {d} hc hd e =
    let fc = facts hc in
    let fd = facts hd in
    let pc = place fc in
    let pd = place fd in
    let leap = is_leap d.year in
    let y : c.year ≡ d.year = omega (arith, alone year_start start_step _ _ _ (rw e at pc.year) pd.year) in
    let i = alone (before leap) (before_step leap) _ _ _ (rw (e, y) at pc.month) pd.month in
    let m : c.month ≡ d.month = omega arith in
    let n : c.day ≡ d.day = omega (arith, rw (e, y, i) at pc.sum) in
    λ i. record { year = y i; month = m i; day = n i }

-- and none is behind the last
pub last_date : (d : Date) → is_date d ≡ true → number_of d ≤ last_number
last_date d h =
    let f = facts h in
    let p = place f in
    omega (arith, start_last, rises year_start start_step (d.year - 2000 + 1) 200 (omega arith))

-- what `date_of` may answer is one thing
pub shows_one : (n : ℕ) (r s : Option Date) → Shows n r → Shows n s → r ≡ s
shows_one n (Some c) (Some d) h k = let e = one_date h.0 k.0 (h.1 ∙ sym k.1) in rw e
shows_one n (Some c) None h k = absurd (omega (arith, last_date c h.0))
shows_one n None (Some d) h k = absurd (omega (arith, last_date d k.0))
shows_one n None None h k = refl

-- from a day to its date and back
pub there : (n : ℕ) (d : Date) → Shows n (Some d) → named_by d ≡ Some (record { number = n })
there n d h = rw (h.0, h.1)

-- from a date to its day and back
pub back : (d : Date) (r : Option Date) → is_date d ≡ true → Shows (number_of d) r → r ≡ Some d
back d r h k = shows_one (number_of d) r (Some d) k (h, refl)

in_month : {n k m : ℕ} → k < 200 → year_start k ≤ n → m < 12 → In (before (is_leap (2000 + k))) (n - year_start k) m →
    (d : Date) × Shows n (Some d)
in_month h a l b =
    let i = inside refl refl l b.0 b.1 in
    (_, (inside_date h i, inside_number h i ∙ omega arith))

-- each day has a date
pub some_date : (n : ℕ) → n ≤ last_number → (d : Date) × Shows n (Some d)
some_date n h =
    let w = within year_start start_step n 200 (omega (arith, start_zero)) (omega (arith, start_last)) in
    let leap = is_leap (2000 + w.0) in
    let v =
    within (before leap) (before_step leap) (n - year_start w.0) 12 (omega (arith, before_zero leap))
    (omega (arith, w.2.1, start_more w.0)) in
    in_month {m = v.0} w.1 w.2.0 v.1 v.2
