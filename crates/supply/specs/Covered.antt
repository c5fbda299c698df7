-- How far a pack goes, where each day has a need.
use Rattle.std.specs.Prelude.{ℕ, ◌+◌, ltb}
use Rattle.below.specs.Below.{first_below, sum_below}

-- the summed need of n days from the start on
abbrev pub summed : (ℕ → ℕ) → ℕ → ℕ → ℕ
summed need start n = sum_below n (λ i. need (start + i))

-- "Covered days run from the start to the greatest day, not past the stop day, whose summed need is at most the pack amount.":
-- of k days, as many as come before the first whose summed need is more
unfoldable pub covered : (ℕ → ℕ) → ℕ → ℕ → ℕ → ℕ
covered need start k pack = first_below k (λ n. ltb pack (summed need start (n + 1)))
