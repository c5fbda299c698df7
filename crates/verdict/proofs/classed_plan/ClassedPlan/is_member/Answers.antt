use Rattle.plan.specs.Periods.{is_period}
use Rattle.verdict.specs.Coverage.{in_group, is_member}
use Rattle.verdict.proofs.Members.{under}
use Rattle.verdict.proofs.classed_plan.ClassedPlan.is_member.Goals as goal

pub returns : goal.returns
unfolding is_member
returns c =
    let a = c.args in
    rw (c.is_period.ensures, c.holds.ensures) (under (is_period a.self.plan.now a.b) (in_group a.g) (c.class_at.ensures.known c.requires))
