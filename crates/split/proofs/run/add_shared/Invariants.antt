use Prim.Native.Nat.{◌≤◌}
use mathlib.Core.Path.{◌≡◌}
use lib.ListN.{length}
use Rattle.below.specs.Lists.{join_below}
use Rattle.plan.specs.Periods.{blocks_of}
use Rattle.split.specs.Parts.{shared_by}
use Rattle.split.specs.Code.Adding.{Adds}
use Rattle.split.proofs.run.add_shared.Given as goal

abbrev pub invariant-loop-e : goal.invariant-loop-e
invariant-loop-e l = (l.e ≤ l.e-end) × (l.e-end ≡ blocks_of l.classed.plan.now) × (length l.out ≡ length l.initial.out) × Adds (join_below l.e (shared_by l.classed.plan.now l.run.first l.run.last)) l.initial.place l.initial.out l.place l.out
