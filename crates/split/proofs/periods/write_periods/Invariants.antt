use mathlib.Core.Path.{◌≡◌}
use Prim.Native.Nat.{◌≤◌}
use lib.ListN.{length}
use Rattle.below.specs.Lists.{join_below}
use Rattle.plan.specs.Periods.{blocks_of}
use Rattle.split.specs.Code.Wanted.{is_need}
use Rattle.split.specs.Parts.{brought_by}
use Rattle.split.specs.Code.Adding.{Adds}
use Rattle.split.proofs.periods.write_periods.Given as goal

abbrev pub invariant-loop-b : goal.invariant-loop-b
invariant-loop-b l = (l.b ≤ l.b-end) × (l.b-end ≡ blocks_of l.classed.plan.now) × (length l.out ≡ length l.initial.out) × Adds (join_below l.b (brought_by (is_need l.part) l.classed.plan.now)) l.initial.at l.initial.out l.at l.out
