use Rattle.verdict.proofs.Meeting.{meets_is}
use Rattle.verdict.proofs.classed_plan.ClassedPlan.meets_at.Goals as goal

pub returns : goal.returns
returns c = let a = c.args in rw (meets_is a.g a.self.plan.now a.lo a.hi a.b) (cc)
