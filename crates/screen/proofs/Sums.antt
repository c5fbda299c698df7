-- The four sums of an accepted plan's day drop nothing. Assumes nothing.
use Prim.Native.Nat.{ℕ}
use mathlib.Core.List.{List}
use mathlib.Core.Path.{◌≡◌}
use Rattle.doses.proofs.Exact.{day_exact}
use Rattle.doses.specs.Doses.{doses_on, day_sums, exact_sums}
use Rattle.need.proofs.Bound.{in_range}
use Rattle.verdict.proofs.Exactly.{NoRuleBroken}

pub sums_whole : (p : List ℕ) → NoRuleBroken p → (d : ℕ) → day_sums p d ≡ exact_sums (doses_on p d)
sums_whole p n d = day_exact p d (in_range p n)
