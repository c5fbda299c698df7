use Prim.Native.Nat.{◌-◌, ◌≤◌}
use mathlib.Core.Bool.{not, ◌||◌}
use mathlib.Core.Path.{◌≡◌}
use Rattle.below.specs.Below.{any_below}
use Rattle.plan.specs.Fields.{record_at, dose_of, is_marked}
use Rattle.plan.proofs.periods.with_marks.Given as goal

abbrev pub invariant-loop-i : goal.invariant-loop-i
invariant-loop-i l = (l.i ≤ l.n) × (l.unmarked ≡ (l.initial.unmarked || any_below l.i (λ k. not (is_marked (dose_of (record_at l.r k)))))) × (l.marked ≡ (l.initial.marked || any_below l.i (λ k. is_marked (dose_of (record_at l.r k)))))

abbrev pub decreases-loop-i : goal.decreases-loop-i
decreases-loop-i l = l.n - l.i
