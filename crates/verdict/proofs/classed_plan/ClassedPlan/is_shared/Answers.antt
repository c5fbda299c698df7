use mathlib.Core.Path.{sym, ◌∙◌}
use Rattle.std.proofs.Common.{rules, tests}
use Rattle.form.proofs.Ranges.{any_in_range}
use Rattle.verdict.specs.Coverage.{shares_with, shares}
use Rattle.verdict.proofs.classed_plan.ClassedPlan.is_shared.Goals as goal

pub returns-then-is_period : goal.returns-then-is_period
unfolding shares
returns-then-is_period c =
    let a = c.args in
    rw (sym c.is_period.ensures ∙ c.if-is_period.true)
    (any_in_range a.b (shares_with a.self.plan.now a.b) _ _ _ _ c.any.ensures.ran (cc) (λ x q k. search (rules, tests)) (λ x q k. (search (rules, tests), search (rules, tests))))

pub returns-else-is_period : goal.returns-else-is_period
unfolding shares
returns-else-is_period c = rw (sym c.is_period.ensures ∙ c.if-is_period.false) c.if-is_period.false
