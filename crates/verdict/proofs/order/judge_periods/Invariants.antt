use Prim.Native.Nat.{◌≤◌, ◌-◌}
use mathlib.Core.Path.{◌≡◌}
use Rattle.plan.specs.Periods.{blocks_of}
use Rattle.verdict.specs.Code.Judging.{Judged}
use Rattle.verdict.proofs.order.judge_periods.Given as goal

abbrev pub invariant-loop-b : goal.invariant-loop-b
invariant-loop-b l = (l.b ≤ l.n) × (l.n ≡ blocks_of l.plan) × Judged l.plan l.b l.found l.cs

abbrev pub decreases-loop-b : goal.decreases-loop-b
decreases-loop-b l = l.n - l.b
