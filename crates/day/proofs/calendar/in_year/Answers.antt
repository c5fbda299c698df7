use Prim.Native.Nat.{◌+◌}
use native.Mathlib.Omega.{arith}
use borrow.Author.Rules.{rules}
use Rattle.day.proofs.Months.{before_most}
use Rattle.day.proofs.Laws.{inside}
use Rattle.day.proofs.calendar.in_year.Goals as goal

pub overflow_add-result-2 : goal.overflow_add-result-2
overflow_add-result-2 c = omega (arith, before_most c.is_leap-leap.result (c.month_of-m.result + 1))

pub returns : goal.returns
returns c =
    inside c.is_leap-leap.ensures c.days_before.ensures.0 (search rules) (search rules) (search rules)
