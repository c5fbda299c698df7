use Prim.Native.Nat.{◌+◌, ◌-◌, ◌*◌, ◌/◌, ◌≤◌, min}
use mathlib.Core.Bool.{not}
use mathlib.Core.Path.{◌≡◌}
use Rattle.below.specs.Below.{any_below}
use Rattle.plan.specs.Fields.{is_marked}
use Rattle.plan.specs.Periods.{dose_in}
use Rattle.plan.proofs.periods.class_by_blocks.Given as goal

abbrev pub invariant-loop-i : goal.invariant-loop-i
invariant-loop-i l = (l.i ≤ l.i-end) × (l.i-end ≡ (l.n + 19) / 20) × (l.m.unmarked ≡ any_below (min (l.i * 20) l.n) (λ j. not (is_marked (dose_in l.plan l.b j)))) × (l.m.marked ≡ any_below (min (l.i * 20) l.n) (λ j. is_marked (dose_in l.plan l.b j)))

abbrev pub decreases-loop-i : goal.decreases-loop-i
decreases-loop-i l = l.i-end - l.i
