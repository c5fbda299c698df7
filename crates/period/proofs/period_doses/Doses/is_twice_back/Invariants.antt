use Prim.Native.Nat.{◌-◌, ◌≤◌}
use Rattle.below.proofs.Search.{NoneBelow}
use Rattle.plan.specs.Periods.{dose_in}
use Rattle.period.specs.Doses.{twice}
use Rattle.period.proofs.period_doses.Doses.is_twice_back.Given as goal

abbrev pub invariant-loop-i : goal.invariant-loop-i
invariant-loop-i l = (l.i ≤ l.j) × NoneBelow (λ k. twice (dose_in l.self.plan.now l.self.b (l.j - 1 - k)) (dose_in l.self.plan.now l.self.b l.j)) l.i

abbrev pub decreases-loop-i : goal.decreases-loop-i
decreases-loop-i l = l.j - l.i
