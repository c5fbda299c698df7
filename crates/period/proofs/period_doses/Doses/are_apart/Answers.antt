use Prim.Native.Nat.{◌+◌, ◌*◌}
use mathlib.Core.Path.{◌≡◌}
use native.Mathlib.Omega.{arith}
use borrow.Author.Rules.{rules}
use Rattle.std.proofs.Common.{tests}
use Rattle.plan.specs.Periods.{dose_in}
use Rattle.period.proofs.Ranges.{all_from_Range}
use Rattle.period.proofs.period_doses.Doses.are_apart.Goals as goal

pub returns : goal.returns
returns c = let a = c.args in
    let D = dose_in a.self.plan.now a.self.b in
    let none = all_from_Range _ _ _ _ (λ q. (D (q * 20)).day ≡ (D (q * 20 + 80)).day → ⊥) c.all.ensures.ran (λ x q k. (search (rules, tests), λ e. grind (arith, tests, k))) in
    λ e l q m. none e q (omega arith) (omega (arith, c.div_ceil.ensures))
