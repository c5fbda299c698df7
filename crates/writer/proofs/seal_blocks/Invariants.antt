use Prim.Native.Nat.{◌-◌, ◌≤◌}
use mathlib.Core.Path.{◌≡◌}
use lib.ListN.{length}
use Rattle.writer.specs.Steps.{sealed_from}
use Rattle.writer.proofs.seal_blocks.Given as goal

abbrev pub invariant-loop-b : goal.invariant-loop-b
invariant-loop-b l = (l.b ≤ l.n) × (length l.out ≡ length l.initial.out) × (sealed_from l.n 0 l.initial.out ≡ sealed_from (l.n - l.b) l.b l.out)

abbrev pub decreases-loop-b : goal.decreases-loop-b
decreases-loop-b l = l.n - l.b
