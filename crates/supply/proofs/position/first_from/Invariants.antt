use Prim.Native.Nat.{ℕ, ◌≤◌, ◌<◌, ◌-◌}
use Rattle.plan.specs.Periods.{dose_in}
use Rattle.supply.proofs.position.first_from.Given as goal

abbrev pub invariant-loop-lo : goal.invariant-loop-lo
invariant-loop-lo l = (l.lo ≤ l.hi) × (l.hi ≤ l.n) × ((i : ℕ) → i < l.lo → (dose_in l.plan l.b i).day < l.x) × ((i : ℕ) → l.hi ≤ i → i < l.n → l.x ≤ (dose_in l.plan l.b i).day)

abbrev pub decreases-loop-lo : goal.decreases-loop-lo
decreases-loop-lo l = l.hi - l.lo
