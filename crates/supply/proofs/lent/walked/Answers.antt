use Rattle.std.proofs.Common.{arith}
use Rattle.pause.proofs.InSight.{sight_on_lem}
use Rattle.supply.specs.Code.Walking.{Seen}
use Rattle.supply.proofs.Walking.{turns, seen_from}
use Rattle.supply.proofs.lent.walked.Goals as goal
use Rattle.supply.proofs.lent.walked.Goals.{In-loop-w}

-- what is asked of the list is what the walk has in sight
in_sight : (c : In-loop-w) → Seen c.args.pauses.now c.loop-w.w.day c.loop-w.s
in_sight c =
    let g = (c.loop-w.invariant.0.at c.loop-w-test.true).looks in
    seen_from c.args.pauses.now c.loop-w.w.day (omega (arith, g.within, g.dated)) c.loop-w.invariant.1

pub step-w-requires : goal.step-w-requires
step-w-requires c =
    let o = (goal.at.step-w-requires c).In-loop-w in
    (c.loop-w.invariant.0.at c.loop-w-test.true, (in_sight o).reached)

pub loop-w-preserved : goal.loop-w-preserved
loop-w-preserved c =
    let a = c.args in
    let o = (goal.at.loop-w-preserved c).In-loop-w in
    let inv = c.loop-w.invariant.0 in
    (turns a.choice a.plan.now a.pauses.now a.begun inv (in_sight o) c.step-w.ensures, sight_on_lem a.pauses.now c.loop-w.w.day c.step-w.ensures.no_earlier c.loop-w.invariant.1 c.sight_on-s.ensures)
