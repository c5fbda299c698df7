-- What "every byte is zero" says of a list. Assumes nothing.
use Rattle.std.proofs.Common.{◌≡◌, ℕ, ◌<◌, Bool, true, false, ◌&&◌, eqb, List, [], ◌∷◌, length, replicate, sym, ◌∙◌, ext_get_or, eq-eqb, eqb-true, fold, ⊎_elim, refl, suc, arith}
use Rattle.std.proofs.Math.Bool.{and_assoc}
use Rattle.std.specs.List.{list_all}
use Rattle.std.proofs.lemmas.List.Folds.{list_all_at}
use Rattle.below.proofs.Tests.{bool_cases, bool_iff, true_not_false}
use lib.ListN.{length-replicate, get_or-replicate}
use Rattle.below.proofs.Search.{all_at, all_every}
use Rattle.block.specs.Bytes.{byte_at, is_zero}

module _ (s : List ℕ) where
  pub zero_at : is_zero s ≡ true → (i : ℕ) → i < length s → byte_at s i ≡ 0
  unfolding is_zero
  zero_at e i l = eqb-true _ _ (all_at (λ (i : ℕ). eqb (byte_at s i) 0) (length s) e i l)

  pub at_zero : ((i : ℕ) → i < length s → byte_at s i ≡ 0) → is_zero s ≡ true
  unfolding is_zero
  at_zero h = all_every (λ (i : ℕ). eqb (byte_at s i) 0) (length s) (λ k l. eq-eqb _ _ (h k l))

  pub zeros : is_zero s ≡ true → s ≡ replicate (length s) 0
  zeros e =
      ext_get_or 0 s (replicate (length s) 0) (sym (length-replicate (length s) 0))
      (λ i l. zero_at e i l ∙ sym (get_or-replicate (length s) i 0 0 l))

pub zeros_zero : (n : ℕ) → is_zero (replicate n 0) ≡ true
zeros_zero n =
    at_zero (replicate n 0)
    (λ i l. get_or-replicate n i 0 0 (rw length-replicate at l))

-- std's own words for it
each_passes : (p : ℕ → Bool) (s : List ℕ) → ((i : ℕ) → i < length s → p (byte_at s i) ≡ true) → list_all p s ≡ true
each_passes p [] h = refl
each_passes p (x ∷ xs) h =
    rw (h 0 (omega arith), each_passes p xs (λ i l. h (suc i) (omega arith))) refl

pub all_zero : (s : List ℕ) → list_all (λ x. eqb x 0) s ≡ is_zero s
all_zero s =
    bool_iff _ _
    (λ t. at_zero s (λ i l. eqb-true _ _ (⊎_elim (λ h. h) (λ f. absurd (true_not_false t (list_all_at (λ x. eqb x 0) s i 0 l f))) (bool_cases (eqb (byte_at s i) 0)))))
    (λ t. each_passes (λ x. eqb x 0) s (λ i l. eq-eqb _ _ (zero_at s t i l)))

-- a fold goes to the end, and comes to the same
pub fold_all : {A : Type 0} (p : A → Bool) (b : Bool) (xs : List A) → fold (λ z x. z && p x) b xs ≡ (b && list_all p xs)
fold_all p false [] = refl
fold_all p true [] = refl
fold_all p b (x ∷ xs) = fold_all p (b && p x) xs ∙ and_assoc b (p x) (list_all p xs)
