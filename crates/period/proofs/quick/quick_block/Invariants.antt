use Prim.Native.Nat.{◌+◌, ◌*◌}
use Rattle.plan.specs.Periods.{dose_in}
use Rattle.period.specs.Code.Quick.{Quickly}
use Rattle.period.proofs.quick.quick_block.Given as goal

abbrev pub invariant-loop-i : goal.invariant-loop-i
invariant-loop-i l = Quickly (dose_in l.plan l.b) (l.q * 20 + l.i) l.s
