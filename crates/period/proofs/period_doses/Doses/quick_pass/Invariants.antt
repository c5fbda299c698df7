use Prim.Native.Nat.{◌*◌, min}
use Rattle.plan.specs.Periods.{dose_in}
use Rattle.period.specs.Code.Quick.{Quickly}
use Rattle.period.proofs.period_doses.Doses.quick_pass.Given as goal

abbrev pub invariant-loop-q : goal.invariant-loop-q
invariant-loop-q l = Quickly (dose_in l.self.plan.now l.self.b) (min l.self.n (l.q * 20)) l.s
