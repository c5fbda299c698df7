use Rattle.verdict.specs.Coverage.{holes}
use Rattle.verdict.proofs.classed_plan.ClassedPlan.has_holes.Goals as goal

pub returns : goal.returns
unfolding holes
returns c = rw (c.has_hole.ensures, c.has_hole-2.ensures, c.has_hole-3.ensures)
