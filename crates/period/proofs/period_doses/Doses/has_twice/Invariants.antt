use Prim.Native.Nat.{◌-◌, ◌≤◌}
use Rattle.below.proofs.Search.{NoneBelow}
use Rattle.plan.specs.Periods.{dose_in}
use Rattle.period.specs.Code.Twice.{twice_at, Seen}
use Rattle.period.proofs.period_doses.Doses.has_twice.Given as goal

abbrev pub invariant-loop-j : goal.invariant-loop-j
invariant-loop-j l = (l.j ≤ l.self.n) × Seen (dose_in l.self.plan.now l.self.b) l.j l.day l.tag l.last × NoneBelow (twice_at (dose_in l.self.plan.now l.self.b)) l.j

abbrev pub decreases-loop-j : goal.decreases-loop-j
decreases-loop-j l = l.self.n - l.j
