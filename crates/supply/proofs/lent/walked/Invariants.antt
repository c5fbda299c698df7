use Rattle.std.proofs.Common.{◌≡◌}
use Rattle.pause.specs.Sight.{sight_of}
use Rattle.supply.specs.Code.Walking.{left}
use Rattle.supply.proofs.Walking.{Inv}
use Rattle.supply.proofs.lent.walked.Given as goal

abbrev pub invariant-loop-w : goal.invariant-loop-w
invariant-loop-w l = Inv l.choice l.plan l.pauses l.fn.begun l.w × (l.s ≡ sight_of l.pauses l.w.day)

abbrev pub decreases-loop-w : goal.decreases-loop-w
decreases-loop-w l = left l.w
