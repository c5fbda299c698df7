use Rattle.std.proofs.Common.{rules, tests}
use Rattle.form.proofs.Ranges.{any_in_range}
use Rattle.plan.specs.Periods.{blocks_of}
use Rattle.split.specs.Code.Wanted.{is_need, is_other, is_alone}
use Rattle.split.proofs.periods.is_alone.Goals as goal

pub returns : goal.returns
unfolding is_alone
returns c =
    let p = c.args.classed.plan.now in
    rw (any_in_range (blocks_of p) (is_other (is_need c.args.part) p) _ _ _ _ c.any.ensures.ran (cc) (λ x q k. search (rules, tests)) (λ x q k. (search (rules, tests), search (rules, tests))))
