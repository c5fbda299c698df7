use mathlib.Core.Path.{sym}
use borrow.Author.Rules.{rules}
use Rattle.below.proofs.Tests.{at_end}
use Rattle.day.specs.Calendar.{year_start}
use Rattle.day.proofs.Laws.{start_zero, start_more}
use Rattle.day.proofs.calendar.year_start.Goals as goal

pub loop-i-init : goal.loop-i-init
loop-i-init c = (search rules, sym start_zero, search rules)

pub loop-i-preserved : goal.loop-i-preserved
loop-i-preserved c = (search rules, rw start_more (cc), search rules)

pub returns : goal.returns
returns c = (at_end year_start c.loop-i-test.false c.loop-i.invariant.0 c.loop-i.invariant.1, search rules)
