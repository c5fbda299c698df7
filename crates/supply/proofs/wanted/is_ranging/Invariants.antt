use Prim.Native.Nat.{◌-◌, ◌≤◌}
use mathlib.Core.Bool.{◌&&◌}
use mathlib.Core.Path.{◌≡◌}
use Rattle.below.proofs.Search.{NoneBelow}
use Rattle.need.proofs.Telling.{Behind}
use Rattle.need.specs.Need.{fixed_or_mixed}
use Rattle.plan.specs.Periods.{blocks_of}
use Rattle.supply.specs.Dates.{ends_from, has_interval}
use Rattle.supply.proofs.wanted.is_ranging.Given as goal

abbrev pub invariant-loop-b : goal.invariant-loop-b
invariant-loop-b l = (l.b ≤ l.n) × (l.n ≡ blocks_of l.plan) × Behind l.chosen l.b l.bits × NoneBelow (λ k. ends_from fixed_or_mixed l.start l.plan k && has_interval l.plan k) l.b

abbrev pub decreases-loop-b : goal.decreases-loop-b
decreases-loop-b l = l.n - l.b
