use Prim.Native.Nat.{◌≤◌, ◌-◌}
use Rattle.verdict.specs.declared.Group.TheVariants.{All}
use Rattle.verdict.proofs.Alike.{Alike}
use Rattle.verdict.proofs.Apart.{Walks}
use Rattle.verdict.proofs.Reach.{Reaches}
use Rattle.verdict.proofs.classed_plan.ClassedPlan.is_alike.Given as goal

abbrev pub invariant-loop-b : goal.invariant-loop-b
invariant-loop-b l = (l.b ≤ l.n) × Walks All l.self.plan.now l.b l.free × Reaches All l.self.plan.now l.b l.all × Alike l.self.plan.now l.b l.class

abbrev pub decreases-loop-b : goal.decreases-loop-b
decreases-loop-b l = l.n - l.b
