-- Written out, though the check finds it: a step of another length is refused at this goal.
use Rattle.std.proofs.Common.{rules}
use Rattle.supply.proofs.taking.next_stride.Goals as goal

pub returns-then-rounds-eq-NO_ROUNDS : goal.returns-then-rounds-eq-NO_ROUNDS
returns-then-rounds-eq-NO_ROUNDS c = search rules
