use mathlib.Core.Path.{◌∙◌}
use Rattle.register.proofs.Answering.{code_answered}
use Rattle.screen.proofs.chivetassel_clear.Goals as goal

pub returns-clause-value : goal.returns-clause-value
returns-clause-value c = c.code_in.ensures ∙ code_answered _ _ _ c.clear.ensures.answer
