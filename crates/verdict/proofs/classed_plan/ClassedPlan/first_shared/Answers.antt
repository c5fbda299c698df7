use Rattle.std.proofs.Common.{rules, tests}
use Rattle.form.proofs.Ranges.{find_in_range}
use Rattle.plan.specs.Periods.{blocks_of}
use Rattle.verdict.specs.Coverage.{shares}
use Rattle.verdict.proofs.classed_plan.ClassedPlan.first_shared.Goals as goal

pub returns : goal.returns
returns c =
    let p = c.args.self.plan.now in
    find_in_range (blocks_of p) (shares p) _ _ _ _ c.find.ensures.ran (cc) (λ x q k. search (rules, tests)) (λ x q k. (search (rules, tests), search (rules, tests)))
