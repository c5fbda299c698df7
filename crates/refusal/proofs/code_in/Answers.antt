use mathlib.Core.Path.{ap, ◌∙◌}
use Rattle.refusal.specs.Refusals.{code_of}
use Rattle.refusal.proofs.code_in.Goals as goal

pub returns : goal.returns
returns g c = c.code.ensures ∙ ap code_of c.refusal_in.ensures
