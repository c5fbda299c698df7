-- The answer of the verdict.
use Rattle.std.specs.Prelude.{ℕ, Result}
use Rattle.refusal.specs.declared.Refusal.{Refusal}

-- "An answer is either the plan or its first broken rule (the plan by its length)."
abbrev pub Answer : Type 0
Answer = Result ℕ Refusal
