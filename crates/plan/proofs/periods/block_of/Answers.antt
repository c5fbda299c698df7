use Rattle.plan.specs.Periods.{block_at}
use Rattle.plan.proofs.periods.block_of.Goals as goal

pub returns : goal.returns
unfolding block_at
returns c = c.part_of.ensures
