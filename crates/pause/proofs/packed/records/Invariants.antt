use Prim.Native.Nat.{◌≤◌}
use Rattle.pause.specs.Pauses.{pauses_in}
use Rattle.pause.proofs.Filled.{Filled}
use Rattle.pause.proofs.packed.records.Given as goal

abbrev pub invariant-loop-i : goal.invariant-loop-i
invariant-loop-i l = (l.i ≤ 32) × Filled (pauses_in l.s) l.i l.at
