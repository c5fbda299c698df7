use Prim.Native.Nat.{◌+◌, ◌*◌}
use Rattle.period.specs.Code.Turn.{Passed}
use Rattle.period.proofs.walk.walk_block.Given as goal

abbrev pub invariant-loop-i : goal.invariant-loop-i
invariant-loop-i l = Passed l.plan l.b (l.q * 20 + l.i) l.s
