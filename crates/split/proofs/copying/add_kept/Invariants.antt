use Prim.Native.Nat.{◌≤◌}
use mathlib.Core.Path.{◌≡◌}
use lib.ListN.{length}
use Rattle.split.specs.Code.Wanted.{is_need}
use Rattle.split.specs.Code.Adding.{AddsDoses, kept_in}
use Rattle.split.proofs.copying.add_kept.Given as goal

abbrev pub invariant-loop-i : goal.invariant-loop-i
invariant-loop-i l = (l.i ≤ l.n) × (length l.out ≡ length l.initial.out) × AddsDoses (kept_in (is_need l.part) l.r 0 l.i) l.initial.place l.initial.out l.place l.out
