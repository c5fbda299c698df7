use Prim.Native.Nat.{◌≤◌}
use native.Mathlib.Omega.{arith}
use Rattle.std.proofs.Common.{tests}
use Rattle.day.specs.Calendar.{number_of}
use Rattle.day.proofs.Months.{before_month}
use Rattle.day.proofs.Laws.{named, not_named}
use Rattle.day.proofs.calendar.day_of.Goals as goal

pub overflow_sub-length : goal.overflow_sub-length
overflow_sub-length c =
    let from : 1 ≤ c.args.date.month = grind (arith, tests) in
    omega (arith, before_month c.is_leap-leap.result c.args.date.month from)

pub returns-then-contains : goal.returns-then-contains
returns-then-contains c = not_named {d = c.args.date} (λ f. grind (arith, tests, f))

pub returns-then-not-contains : goal.returns-then-not-contains
returns-then-not-contains c =
    not_named {d = c.args.date}
    (λ f.
    let length = before_month c.is_leap-leap.result c.args.date.month f.month_from in
    let e = c.is_leap-leap.ensures in
    grind (arith, tests, f, rw e at length))

pub returns : goal.returns
unfolding number_of
returns c =
    let from : 1 ≤ c.args.date.month = grind (arith, tests) in
    let length = before_month c.is_leap-leap.result c.args.date.month from in
    named {d = c.args.date} (grind (arith, tests)) (cc)
