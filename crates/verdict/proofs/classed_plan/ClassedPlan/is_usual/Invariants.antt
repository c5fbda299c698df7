use Prim.Native.Nat.{◌≤◌, ◌-◌}
use Rattle.verdict.specs.declared.Group.TheVariants.{All, Fixed, Need, FixedOrEmpty}
use Rattle.verdict.proofs.Apart.{Walks}
use Rattle.verdict.proofs.Reach.{Reaches}
use Rattle.verdict.proofs.classed_plan.ClassedPlan.is_usual.Given as goal

abbrev pub invariant-loop-b : goal.invariant-loop-b
invariant-loop-b l = (l.b ≤ l.n) × Walks FixedOrEmpty l.self.plan.now l.b l.fixed_free × Walks Need l.self.plan.now l.b l.need_free × Reaches All l.self.plan.now l.b l.all × Reaches Fixed l.self.plan.now l.b l.fixed × Reaches Need l.self.plan.now l.b l.need

abbrev pub decreases-loop-b : goal.decreases-loop-b
decreases-loop-b l = l.n - l.b
