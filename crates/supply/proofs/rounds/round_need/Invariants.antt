use Prim.Native.Nat.{◌-◌, ◌≤◌}
use mathlib.Core.Path.{◌≡◌}
use Rattle.below.specs.Below.{sum_below}
use Rattle.need.specs.Need.{chosen}
use Rattle.plan.specs.Periods.{dose_in}
use Rattle.supply.proofs.rounds.round_need.Given as goal

abbrev pub invariant-loop-j : goal.invariant-loop-j
invariant-loop-j l = (l.j ≤ l.n) × (l.need ≡ sum_below l.j (λ i. chosen l.choice (dose_in l.plan l.b i)))

abbrev pub decreases-loop-j : goal.decreases-loop-j
decreases-loop-j l = l.n - l.j
