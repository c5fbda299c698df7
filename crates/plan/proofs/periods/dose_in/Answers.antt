use Rattle.plan.specs.Periods.{dose_in}
use Rattle.plan.proofs.periods.dose_in.Goals as goal

pub returns : goal.returns
unfolding dose_in
returns c = cc
