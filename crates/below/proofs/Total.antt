-- Laws of counts, sums and the largest: each loop's turn, its end, and bounds. Assumes nothing.
use Prim.Native.Nat.{ℕ, zero, suc, ◌+◌, ◌*◌, ◌≤◌, ◌<◌, max}
use mathlib.Core.Bool.{Bool, true, false, cond}
use mathlib.Core.Logic.{⊎_elim}
use mathlib.Core.Path.{◌≡◌, refl}
use native.Mathlib.Nat.{eq-or-lt_of_le, not-suc-le-zero, suc-mul}
use native.Mathlib.Numerals.{add-one}
use native.Mathlib.Omega.{arith}
use Rattle.below.specs.Below.{count_below, sum_below, largest_below}

module _ (p : ℕ → Bool) where
  pub count_zero : count_below 0 p ≡ 0
  unfolding count_below
  count_zero = refl

  pub count_more : (i : ℕ) → count_below (i + 1) p ≡ count_below i p + cond (p i) 1 0
  unfolding count_below
  count_more i = rw add-one

  -- a counting loop's turn: the index was counted, or it was not
  pub count_hit : {i n m : ℕ} → n ≡ count_below i p → p i ≡ true → m ≡ n + 1 → m ≡ count_below (i + 1) p
  count_hit {i} {n} {m} e h q = rw (count_more i, h, ← e) q

  pub count_miss : {i n m : ℕ} → n ≡ count_below i p → p i ≡ false → m ≡ n → m ≡ count_below (i + 1) p
  count_miss {i} {n} {m} e h q = rw (count_more i, h, ← e) (omega arith)

  one : (b : Bool) → cond b 1 0 ≤ 1
  one true = omega arith
  one false = omega arith

  pub count_le : (n : ℕ) → count_below n p ≤ n
  unfolding count_below
  count_le zero = omega arith
  count_le (suc n) = omega (arith, count_le n, one (p n))

module _ (f : ℕ → ℕ) where
  pub sum_zero : sum_below 0 f ≡ 0
  unfolding sum_below
  sum_zero = refl

  pub sum_more : (i : ℕ) → sum_below (i + 1) f ≡ sum_below i f + f i
  unfolding sum_below
  sum_more i = rw add-one

  -- terms of at most c sum to at most n of c: why a sum fits its type
  pub sum_le : (c n : ℕ) → ((k : ℕ) → k < n → f k ≤ c) → sum_below n f ≤ n * c
  unfolding sum_below
  sum_le c zero h = omega arith
  sum_le c (suc n) h = omega (arith, sum_le c n (λ k l. h k (omega arith)), h n (omega arith), suc-mul n c)

  pub largest_zero : largest_below 0 f ≡ 0
  unfolding largest_below
  largest_zero = refl

  pub largest_more : (i : ℕ) → largest_below (i + 1) f ≡ max (largest_below i f) (f i)
  unfolding largest_below
  largest_more i = rw add-one

  -- no term is larger
  pub largest_bounds : (n k : ℕ) → k < n → f k ≤ largest_below n f
  unfolding largest_below
  largest_bounds zero k l = absurd (not-suc-le-zero l)
  largest_bounds (suc n) k l =
      ⊎_elim
      (λ (x : k ≡ n). rw x (omega arith))
      (λ x. omega (arith, largest_bounds n k x))
      (eq-or-lt_of_le (let z : k ≤ n = omega arith in z))

  -- and it is no larger than what bounds every term
  pub largest_least : (c n : ℕ) → ((k : ℕ) → k < n → f k ≤ c) → largest_below n f ≤ c
  unfolding largest_below
  largest_least c zero h = omega arith
  largest_least c (suc n) h = omega (arith, largest_least c n (λ k l. h k (omega arith)), h n (omega arith))

-- terms that agree below n
module _ (f g : ℕ → ℕ) where
  pub sum_same : (n : ℕ) → ((k : ℕ) → k < n → f k ≡ g k) → sum_below n f ≡ sum_below n g
  unfolding sum_below
  sum_same zero h = refl
  sum_same (suc n) h = rw (sum_same n (λ k l. h k (omega arith)), h n (omega arith))

  -- terms that are no larger sum to no more
  pub sum_below_lem : (n : ℕ) → ((k : ℕ) → k < n → f k ≤ g k) → sum_below n f ≤ sum_below n g
  unfolding sum_below
  sum_below_lem zero h = omega arith
  sum_below_lem (suc n) h = omega (arith, sum_below_lem n (λ k l. h k (omega arith)), h n (omega arith))

  -- the sum of two terms each is the two sums
  pub sum_both : (n : ℕ) → sum_below n (λ k. f k + g k) ≡ sum_below n f + sum_below n g
  unfolding sum_below
  sum_both zero = refl
  sum_both (suc n) = rw (sum_both n) (omega arith)

-- m terms and then n more
pub sum_plus : (f : ℕ → ℕ) (m n : ℕ) → sum_below (m + n) f ≡ sum_below m f + sum_below n (λ k. f (m + k))
unfolding sum_below
sum_plus f m zero = let e : m + 0 ≡ m = omega arith in rw e (omega arith)
sum_plus f m (suc n) =
    let more : sum_below (suc (m + n)) f ≡ sum_below (m + n) f + f (m + n) = refl in
    let e : m + suc n ≡ suc (m + n) = omega arith in
    rw e (omega (arith, sum_plus f m n, more))

-- n times one number
pub sum_each : (c n : ℕ) → sum_below n (λ k. c) ≡ n * c
unfolding sum_below
sum_each c zero = omega arith
sum_each c (suc n) = omega (arith, sum_each c n, suc-mul n c)
