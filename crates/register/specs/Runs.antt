-- Calls on one register, one behind the other, the first call first: the numbers that they answer.
use Rattle.std.specs.Prelude.{ℕ, List, [], ◌∷◌}
use Rattle.register.specs.Steps.{Call, answered, after}

unfoldable pub numbers_of : List ℕ → List Call → List ℕ
numbers_of r [] = []
numbers_of r (c ∷ cs) = (answered r c).refusal.number ∷ numbers_of (after r c) cs
