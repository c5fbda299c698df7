use mathlib.Core.Path.{sym, ◌∙◌}
use native.Mathlib.Omega.{arith}
use Rattle.day.proofs.Months.{table_right, table_end, before_stays, before_most}
use Rattle.day.proofs.table.days_before.Goals as goal

pub returns-then-m-lt12 : goal.returns-then-m-lt12
returns-then-m-lt12 c =
    let a = c.args in
    let e = table_right a.leap c.from.ensures c.if-m-lt12.true in
    (e, omega (arith, before_most a.leap a.m))

pub overflow_add-result : goal.overflow_add-result
overflow_add-result c =
    let leap = c.args.leap in
    omega (arith, table_end leap c.from.ensures, before_most leap 12)

pub returns-else-m-lt12 : goal.returns-else-m-lt12
returns-else-m-lt12 c =
    let a = c.args in
    let e = table_end a.leap c.from.ensures in
    (e ∙ sym (before_stays a.leap a.m c.if-m-lt12.false), omega (arith, before_most a.leap 12))
