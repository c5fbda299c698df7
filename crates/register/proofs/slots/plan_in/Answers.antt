use Rattle.std.proofs.Common.{rules}
use Rattle.register.proofs.Reading.{plan_is}
use Rattle.register.proofs.slots.plan_in.Goals as goal

pub returns : goal.returns
returns c = plan_is c.args.slot.now (search rules) (search rules)
