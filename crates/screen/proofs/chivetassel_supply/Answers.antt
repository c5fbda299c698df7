-- Written out, though the check finds it: numbers written in another order are refused at this goal.
use Rattle.std.proofs.Common.{rules}
use Rattle.screen.proofs.chivetassel_supply.Goals as goal

pub returns-clause-out_after : goal.returns-clause-out_after
returns-clause-out_after c = search rules
