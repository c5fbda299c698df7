use Prim.Native.Nat.{◌-◌}
use Rattle.supply.proofs.Range.{Sums}
use Rattle.supply.proofs.position.due_at.Given as goal

abbrev pub invariant-loop-j : goal.invariant-loop-j
invariant-loop-j l = Sums l.choice l.plan l.b l.position l.n l.j l.need

abbrev pub decreases-loop-j : goal.decreases-loop-j
decreases-loop-j l = l.n - l.j
