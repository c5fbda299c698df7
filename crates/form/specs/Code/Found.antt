-- What a search finds.
use Rattle.std.specs.Prelude.{ℕ, Bool, cond, Option, Some, None}
use Rattle.below.specs.Below.{any_below, first_below}

-- the least i below n that has p, if one has it
unfoldable pub found_below : ℕ → (ℕ → Bool) → Option ℕ
found_below n p = cond (any_below n p) (Some (first_below n p)) None
