use borrow.Author.Rules.{rules}
use borrow.Author.Tests.{ne_eqb}
use mathlib.Core.Path.{sym, ◌∙◌}
use Rattle.form.specs.Code.Front.{front_out}
use Rattle.form.proofs.block_form.front_out.Goals as goal

pub returns-in-1 : goal.returns-in-1
unfolding front_out
returns-in-1 c = rw (sym c.kind_of.ensures ∙ c.in-1.is) c.head_out.ensures

pub returns-in-2 : goal.returns-in-2
unfolding front_out
returns-in-2 c = rw (sym c.kind_of.ensures ∙ c.in-2.is) c.period_out.ensures

pub returns-in_default : goal.returns-in_default
unfolding front_out
returns-in_default c =
    rw (← c.kind_of.ensures, ne_eqb c.kind_of.result 1 (search rules), ne_eqb c.kind_of.result 2 (search rules)) c.continuation_out.ensures
