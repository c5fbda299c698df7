use Rattle.std.proofs.Common.{rules, tests}
use Rattle.form.proofs.Ranges.{any_in_range}
use Rattle.plan.specs.Periods.{blocks_of}
use Rattle.verdict.specs.Coverage.{meets_at, meets}
use Rattle.verdict.proofs.classed_plan.ClassedPlan.meets.Goals as goal

pub returns : goal.returns
unfolding meets
returns c =
    let a = c.args in
    any_in_range (blocks_of a.self.plan.now) (meets_at a.g a.self.plan.now a.lo a.hi) _ _ _ _ c.any.ensures.ran (cc) (λ x q k. search (rules, tests)) (λ x q k. (search (rules, tests), search (rules, tests)))
