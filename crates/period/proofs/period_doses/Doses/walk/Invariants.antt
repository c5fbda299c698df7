use Prim.Native.Nat.{◌*◌, ◌-◌, ◌≤◌, min}
use Rattle.period.specs.Code.Turn.{Passed}
use Rattle.period.proofs.period_doses.Doses.walk.Given as goal

abbrev pub invariant-loop-q : goal.invariant-loop-q
invariant-loop-q l = (l.q ≤ 76) × Passed l.self.plan.now l.self.b (min l.self.n (l.q * 20)) l.s

abbrev pub decreases-loop-q : goal.decreases-loop-q
decreases-loop-q l = 76 - l.q
