use Prim.Native.Nat.{◌-◌, ◌*◌, ◌≤◌}
use mathlib.Core.List.{◌++◌}
use mathlib.Core.Path.{◌≡◌}
use lib.ListN.{length, drop}
use Rattle.register.specs.Slots.{slots_of}
use Rattle.register.proofs.Clearing.{freed}
use Rattle.register.proofs.change.clear.Given as goal

abbrev pub invariant-loop-i : goal.invariant-loop-i
invariant-loop-i l = (l.i ≤ l.n) × (l.n ≡ slots_of l.initial.register) × (length l.register ≡ length l.initial.register) × (l.register ≡ freed l.i ++ drop (l.i * 16896) l.initial.register)

abbrev pub decreases-loop-i : goal.decreases-loop-i
decreases-loop-i l = l.n - l.i
