-- Sums in numbers of 64 bits: a turn of each loop, and what they are once all is added; and what a fold that adds comes to. Assumes nothing.
use Rattle.std.proofs.Common.{◌≡◌, ℕ, ◌+◌, ◌%◌, ◌^◌, ◌<◌, Bool, true, false, cond, List, [], ◌∷◌, ⊎_elim, arith}
use Rattle.std.specs.List.{FoldsTo}
use Rattle.below.proofs.Tests.{bool_cases}
use Rattle.below.proofs.Total.{sum_zero, sum_more, sum_same}
use Rattle.below.specs.Below.{sum_below}
use Rattle.below.specs.Lists.{sum_over}

-- s is what was there and the amounts of the first j that count
module _ (counts : ℕ → Bool) (amount : ℕ → ℕ) (before : ℕ) where
  abbrev term : ℕ → ℕ
  term k = cond (counts k) (amount k) 0

  pub record Sums (j s : ℕ) : Type 0 where
    pub sum : s ≡ (before + sum_below j term) % 2 ^ 64

  pub sums_begin : before < 2 ^ 64 → Sums 0 before
  sums_begin l = record { sum = omega (arith, sum_zero term) }

  module _ {j s : ℕ} (w : Sums j s) where
    pub sums_hit : {t : ℕ} → counts j ≡ true → t ≡ (s + amount j) % 2 ^ 64 → Sums (j + 1) t
    sums_hit h e = let z : term j ≡ amount j = rw h in record { sum = omega (arith, w.sum, sum_more term j) }

    pub sums_miss : {t : ℕ} → counts j ≡ false → t ≡ s → Sums (j + 1) t
    sums_miss h e = let z : term j ≡ 0 = rw h in record { sum = omega (arith, w.sum, sum_more term j) }

-- periods that have the day, each with its doses' sum: the sum over what they give
module _ {A : Type 0} (g : A → ℕ) (has : ℕ → Bool) (f : ℕ → List A) where
  given : (k : ℕ) → sum_over g (cond (has k) (f k) []) ≡ cond (has k) (sum_over g (f k)) 0
  unfolding sum_over
  given k = ⊎_elim (λ (t : has k ≡ true). rw t) (λ (t : has k ≡ false). rw t) (bool_cases (has k))

  pub sums_picked : {b s : ℕ} → Sums has (λ k. sum_over g (f k)) 0 b s → s ≡ sum_below b (λ k. sum_over g (cond (has k) (f k) [])) % 2 ^ 64
  sums_picked {b} w = rw (sum_same _ _ b (λ k l. given k)) (omega (arith, w.sum))

-- what adds each element's amount
module _ {A : Type 0} (g : A → ℕ) {R : ℕ → A → ℕ → Type 0} (adds : (s : ℕ) (x : A) (t : ℕ) → R s x t → t ≡ (s + g x) % 2 ^ 64) where
  folds_from : (xs : List A) (n s t : ℕ) → s ≡ n % 2 ^ 64 → FoldsTo R s xs t → t ≡ (n + sum_over g xs) % 2 ^ 64
  unfolding sum_over
  folds_from [] n s t h e = omega (arith, h, e)
  folds_from (x ∷ xs) n s t h e =
      let f = folds_from xs (n + g x) e.0 t (omega (arith, h, adds s x e.0 e.1)) e.2 in
      omega (arith, f)

  -- gives the sum of all
  pub sum_folds : (xs : List A) (t : ℕ) → FoldsTo R 0 xs t → t ≡ sum_over g xs % 2 ^ 64
  sum_folds xs t e = omega (arith, folds_from xs 0 0 t (omega arith) e)
