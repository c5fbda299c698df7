use Rattle.std.proofs.Common.{ap, ◌∙◌}
use Rattle.std.specs.Prelude.{Ok}
use Rattle.supply.proofs.Walking.{answers}
use Rattle.supply.proofs.lent.supply_by.Goals as goal

pub returns : goal.returns
returns c = ap Ok c.ended.ensures ∙ answers c.args.plan.now c.args.asked c.args.choice c.args.pauses.now _ c.walked.result c.in_ok-begun.ensures c.walked.ensures
