use mathlib.Core.Path.{◌≡◌}
use native.Mathlib.Omega.{arith}
use Rattle.plan.specs.Periods.{blocks_of}
use Rattle.verdict.proofs.Passing.{judged_zero}
use borrow.Author.Rules.{rules}
use Rattle.verdict.proofs.order.judge_periods.Goals as goal

pub loop-b-init : goal.loop-b-init
loop-b-init c = (search rules, search rules, judged_zero _ _ c.requires.1)

pub loop-b-preserved : goal.loop-b-preserved
loop-b-preserved c = (search rules, search rules, c.with_block-found.ensures)

pub returns : goal.returns
returns c = let l = c.loop-b in
    let e : l.b ≡ blocks_of c.args.plan.now = omega arith in
    rw e at l.invariant.2
