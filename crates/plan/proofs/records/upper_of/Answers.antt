use borrow.Author.Tests.{eq-eqb, ne_eqb}
use Rattle.plan.proofs.records.upper_of.Goals as goal

pub returns-then-d-eq0 : goal.returns-then-d-eq0
returns-then-d-eq0 c = rw (eq-eqb _ _ c.if-d-eq0.true)

pub returns-else-d-eq0 : goal.returns-else-d-eq0
returns-else-d-eq0 c = rw (ne_eqb _ _ c.if-d-eq0.false)
