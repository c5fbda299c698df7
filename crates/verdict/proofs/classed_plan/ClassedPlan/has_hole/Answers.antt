use mathlib.Core.Path.{◌∙◌}
use Rattle.std.proofs.Common.{rules, tests}
use Rattle.form.proofs.Ranges.{any_in_range}
use Rattle.plan.specs.Periods.{blocks_of}
use Rattle.verdict.specs.Code.Groups.{hole_after}
use Rattle.verdict.proofs.DayAfter.{hole_after_lem}
use Rattle.verdict.proofs.classed_plan.ClassedPlan.has_hole.Goals as goal

pub returns : goal.returns
returns c =
    let a = c.args in
    any_in_range (blocks_of a.self.plan.now) (hole_after a.g a.self.plan.now) _ _ _ _ c.any.ensures.ran (cc) (λ x q k. search (rules, tests)) (λ x q k. (search (rules, tests), search (rules, tests)))
    ∙ hole_after_lem a.g a.self.plan.now c.requires
