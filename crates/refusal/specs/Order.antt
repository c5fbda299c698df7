-- The order in which broken rules are named, over any table: `breaks k b` says that block b, of n, breaks rule k.
use Rattle.std.specs.Prelude.{ℕ, Bool}
use Rattle.below.specs.Below.{any_below, first_below}

-- "the lowest broken number" below `end`, or `end` where none is broken
unfoldable pub lowest_rule : ℕ → ℕ → (ℕ → ℕ → Bool) → ℕ
lowest_rule end n breaks = first_below end (λ k. any_below n (breaks k))

-- "then the lowest block that breaks it"
unfoldable pub lowest_block : ℕ → (ℕ → ℕ → Bool) → ℕ → ℕ
lowest_block n breaks k = first_below n (breaks k)
