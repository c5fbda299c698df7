use Prim.Native.Nat.{◌+◌, ◌*◌, ◌/◌, ◌≤◌, min}
use mathlib.Core.Path.{◌≡◌}
use lib.ListN.{length}
use Rattle.below.specs.Lists.{list_below, keep}
use Rattle.plan.specs.Periods.{dose_in}
use Rattle.split.specs.Code.Wanted.{is_need}
use Rattle.split.specs.Parts.{is_of_part}
use Rattle.split.specs.Code.Adding.{AddsDoses}
use Rattle.split.proofs.periods.add_doses.Given as goal

abbrev pub invariant-loop-i : goal.invariant-loop-i
invariant-loop-i l = (l.i ≤ l.i-end) × (l.i-end ≡ (l.n + 19) / 20) × (length l.out ≡ length l.initial.out) × AddsDoses (keep (is_of_part (is_need l.part)) (list_below (min (l.i * 20) l.n) (dose_in l.plan l.b))) l.initial.place l.initial.out l.place l.out
