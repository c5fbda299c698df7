use borrow.Author.Tests.{eq-eqb, ne_eqb}
use Rattle.form.specs.Code.Front.{records_of}
use Rattle.form.proofs.block_form.records_of.Goals as goal

pub returns-then-kind_of-eq-HEAD : goal.returns-then-kind_of-eq-HEAD
unfolding records_of
returns-then-kind_of-eq-HEAD c = rw (← c.kind_of.ensures, eq-eqb _ _ c.if-kind_of-eq-HEAD.true)

pub returns-else-kind_of-eq-HEAD : goal.returns-else-kind_of-eq-HEAD
unfolding records_of
returns-else-kind_of-eq-HEAD c = rw (← c.kind_of.ensures, ne_eqb _ _ c.if-kind_of-eq-HEAD.false) c.count_of.ensures
