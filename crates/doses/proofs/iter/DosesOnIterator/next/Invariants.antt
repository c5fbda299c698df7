use Rattle.std.proofs.Common.{◌≡◌, ◌-◌, min}
use Rattle.plan.specs.Periods.{blocks_of}
use Rattle.doses.proofs.Left.{Found}
use Rattle.doses.proofs.iter.DosesOnIterator.next.Given as goal

abbrev pub invariant-loop-found : goal.invariant-loop-found
invariant-loop-found l = (l.blocks ≡ min (blocks_of l.self-inside.plan.now) 64) × Found l.fn.self l.self-inside l.found

abbrev pub decreases-loop-found : goal.decreases-loop-found
decreases-loop-found l = l.blocks - l.self-inside.block
