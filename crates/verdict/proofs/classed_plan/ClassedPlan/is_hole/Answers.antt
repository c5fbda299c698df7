use Rattle.verdict.specs.Coverage.{hole_at}
use Rattle.verdict.proofs.classed_plan.ClassedPlan.is_hole.Goals as goal

pub returns : goal.returns
unfolding hole_at
returns c = cc
