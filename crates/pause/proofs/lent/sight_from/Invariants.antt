use Rattle.std.proofs.Common.{◌≡◌}
use Rattle.pause.proofs.InSight.{seen_of}
use Rattle.pause.proofs.lent.sight_from.Given as goal

abbrev pub invariant-loop-p : goal.invariant-loop-p
invariant-loop-p l = l.s ≡ seen_of l.ps l.day l.p-index
