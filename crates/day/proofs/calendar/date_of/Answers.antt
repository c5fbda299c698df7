use Prim.Native.Nat.{◌+◌, ◌-◌}
use mathlib.Core.Path.{◌≡◌, ◌∙◌}
use native.Mathlib.Omega.{arith}
use borrow.Author.Rules.{rules}
use Rattle.day.specs.Code.Inside.{Inside}
use Rattle.day.proofs.Laws.{start_zero, start_year, start_last, inside_date, inside_number}
use Rattle.day.proofs.calendar.date_of.Goals as goal

pub loop-year-init : goal.loop-year-init
loop-year-init c = (search rules, search rules, rw start_zero (search rules))

pub returns-then-rest-length : goal.returns-then-rest-length
returns-then-rest-length c =
    let year = c.loop-year.year in
    let e : 2000 + (year - 2000) ≡ year = omega arith in
    let i : Inside (2000 + (year - 2000)) c.loop-year.rest c.in_year.result = rw e c.in_year.ensures in
    (inside_date (omega arith) i, inside_number (omega arith) i ∙ c.loop-year.invariant.2)

pub loop-year-preserved : goal.loop-year-preserved
loop-year-preserved c =
    let e : c.loop-year.year + 1 - 2000 ≡ c.loop-year.year - 2000 + 1 = omega arith in
    (search rules, search rules, rw e (omega (arith, start_year c.loop-year.year c.loop-year.invariant.0)))

pub returns : goal.returns
returns c =
    let e : c.loop-year.year ≡ 2200 = omega arith in
    omega (arith, start_last, rw e at c.loop-year.invariant.2)
