use mathlib.Core.Path.{sym, ◌∙◌}
use Rattle.std.proofs.Common.{rules, tests, ◌≡◌}
use Rattle.below.proofs.Search.{any_some}
use Rattle.form.proofs.Ranges.{any_in_range}
use Rattle.below.specs.Below.{any_below}
use Rattle.plan.specs.Fields.{vka_of}
use Rattle.plan.specs.Periods.{blocks_of, block_at, is_period}
use Rattle.verdict.specs.Coverage.{is_dosed, bare}
use Rattle.verdict.proofs.Members.{dosed_not_bare}
use Rattle.verdict.proofs.classed_plan.ClassedPlan.is_bare.Goals as goal
use Rattle.verdict.proofs.classed_plan.ClassedPlan.is_bare.Goals.{After-any}

-- the first search
dosed : (c : After-any) → c.any.result ≡ any_below (blocks_of c.args.self.plan.now) (is_dosed c.args.self.plan.now)
dosed c =
    let p = c.args.self.plan.now in
    any_in_range (blocks_of p) (is_dosed p) _ _ _ _ c.any.ensures.ran (cc) (λ x q k. search (rules, tests)) (λ x q k. (search (rules, tests), search (rules, tests)))

pub returns-then-any : goal.returns-then-any
returns-then-any c =
    let k = any_some _ _ (sym (dosed (goal.at.returns-then-any c).After-any) ∙ c.if-any.true) in
    sym (dosed_not_bare _ k.1 k.2)

pub returns : goal.returns
unfolding bare
returns c =
    let p = c.args.self.plan.now in
    let periods = any_in_range (blocks_of p) (is_period p) _ _ _ _ c.any-2.ensures.ran (cc) (λ x q k. search (rules, tests)) (λ x q k. (search (rules, tests), search (rules, tests))) in
    let v : c.vka_of.result ≡ vka_of (block_at p 0) = cc in
    rw (periods, v, sym (dosed (goal.at.returns c).After-any) ∙ c.if-any.false)
