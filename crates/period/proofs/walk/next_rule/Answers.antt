use mathlib.Core.Path.{sym, ◌∙◌}
use Rattle.period.specs.Code.Turn.{next_rule}
use Rattle.period.proofs.walk.next_rule.Goals as goal

pub returns-then-is_asked : goal.returns-then-is_asked
unfolding next_rule
returns-then-is_asked c = rw (sym c.is_asked.ensures ∙ c.if-is_asked.true) c.rule_with.ensures

pub returns : goal.returns
unfolding next_rule
returns c = rw (sym c.is_asked.ensures ∙ c.if-is_asked.false)
