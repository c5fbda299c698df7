use mathlib.Core.Path.{sym, ◌∙◌}
use Rattle.verdict.specs.Code.Walks.{class_with}
use Rattle.verdict.proofs.usual.class_with.Goals as goal

pub returns-then-is_empty : goal.returns-then-is_empty
unfolding class_with
returns-then-is_empty c = rw (sym c.is_empty.ensures ∙ c.if-is_empty.true)

pub returns-else-is_empty : goal.returns-else-is_empty
unfolding class_with
returns-else-is_empty c = rw (sym c.is_empty.ensures ∙ c.if-is_empty.false)
