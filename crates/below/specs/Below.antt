-- Searches, counts and sums over the numbers 0, 1, .., n - 1: the words "first", "a", "every", "more than", "sum" and "largest" of the rules.
use Rattle.std.specs.Prelude.{ℕ, zero, suc, ◌+◌, max, Bool, true, cond, ◌&&◌, ltb}

-- the least of i, i + 1, .., i + n - 1 that has p, or i + n where none has it
unfoldable pub first_from : ℕ → ℕ → (ℕ → Bool) → ℕ
first_from zero i p = i
first_from (suc n) i p = let later = first_from n (suc i) p in cond (p i) i later

-- the least i below n that has p, or n where none has it
unfoldable pub first_below : ℕ → (ℕ → Bool) → ℕ
first_below n p = first_from n 0 p

-- some i below n has p
unfoldable pub any_below : ℕ → (ℕ → Bool) → Bool
any_below n p = ltb (first_below n p) n

-- every i below n has p
unfoldable pub all_below : ℕ → (ℕ → Bool) → Bool
all_below zero p = true
all_below (suc n) p = all_below n p && p n

-- how many i below n have p
unfoldable pub count_below : ℕ → (ℕ → Bool) → ℕ
count_below zero p = 0
count_below (suc n) p = count_below n p + cond (p n) 1 0

-- f 0 + f 1 + .. + f (n - 1)
unfoldable pub sum_below : ℕ → (ℕ → ℕ) → ℕ
sum_below zero f = 0
sum_below (suc n) f = sum_below n f + f n

-- the largest of f 0, f 1, .., f (n - 1), or 0 where n is 0
unfoldable pub largest_below : ℕ → (ℕ → ℕ) → ℕ
largest_below zero f = 0
largest_below (suc n) f = max (largest_below n f) (f n)
