use mathlib.Core.Path.{◌∙◌}
use Rattle.register.proofs.LawTold.{whole_told}
use Rattle.register.proofs.told.state_in.Goals as goal

pub returns : goal.returns
returns c = c.unwrap_or.ensures ∙ whole_told c.args.answer
