use mathlib.Core.Path.{◌∙◌}
use Rattle.register.proofs.LawTold.{length_told}
use Rattle.register.proofs.told.length_in.Goals as goal

pub returns : goal.returns
returns c = c.unwrap_or.ensures ∙ length_told c.args.answer
