use Prim.Native.Nat.{◌+◌, ◌-◌, ◌≤◌}
use mathlib.Core.Path.{◌≡◌}
use lib.ListN.{length}
use Rattle.split.specs.Code.Wanted.{is_need}
use Rattle.split.specs.Code.Adding.{kept_in, records_put}
use Rattle.split.proofs.copying.put_all_kept.Given as goal

abbrev pub invariant-loop-i : goal.invariant-loop-i
invariant-loop-i l = (l.from ≤ l.i) × (l.i ≤ l.n) × (length l.out ≡ length l.initial.out) × (l.m ≤ l.held + (l.i - l.from)) × (l.m ≡ l.held + length (kept_in (is_need l.part) l.r l.from l.i)) × (l.out ≡ records_put l.initial.out l.block l.held (kept_in (is_need l.part) l.r l.from l.i))
