use Prim.Native.Nat.{ℕ, ◌+◌}
use mathlib.Core.Path.{ap}
use native.Mathlib.Omega.{arith}
use Rattle.plan.specs.Fields.{end_of}
use Rattle.verdict.proofs.Members.{closed_not_open}
use Rattle.verdict.proofs.coverage.day_after.Goals as goal

pub overflow_add-result : goal.overflow_add-result
overflow_add-result c = omega (arith, c.last_of.type_inv, closed_not_open (end_of c.args.block.now), c.last_of.ensures)

pub returns : goal.returns
returns c = ap (λ (n : ℕ). n + 1) c.last_of.ensures
