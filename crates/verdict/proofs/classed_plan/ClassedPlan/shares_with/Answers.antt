use native.Mathlib.Omega.{arith}
use mathlib.Core.Path.{◌≡◌}
use Rattle.plan.specs.Fields.{first_of, last_of}
use Rattle.plan.specs.Periods.{block_at}
use Rattle.verdict.specs.Coverage.{has_days}
use Rattle.verdict.proofs.Apart.{shares_by_classes}
use Rattle.verdict.proofs.classed_plan.ClassedPlan.shares_with.Goals as goal

pub returns : goal.returns
returns c =
    let p = c.args.self.plan.now in
    let r = block_at p c.args.b in
    let days : c.has_days.result ≡ has_days p (first_of r) (last_of r) c.args.a = cc in
    rw (c.is_period.ensures, days, c.may_share.ensures)
    (shares_by_classes p c.args.a c.args.b (c.class_at.ensures.known (omega (arith, c.requires.0, c.requires.2))) (c.class_at-2.ensures.known c.requires.0 c.requires.1))
