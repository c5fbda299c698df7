-- The doses of a choice need what all doses of the day count. Assumes nothing.
use Rattle.std.proofs.Common.{◌≡◌, ℕ, Bool, true, false, cond, List, [], ◌∷◌, refl, ⊎_elim, arith}
use Rattle.below.proofs.Tests.{bool_cases}
use Rattle.below.specs.Lists.{keep, sum_over}
use Rattle.doses.specs.Doses.{doses_on}
use Rattle.need.specs.Need.{choice_of, chosen, due_on}

-- the sum over the elements that are kept
sum_kept : {A : Type 0} (p : A → Bool) (f : A → ℕ) (xs : List A) → sum_over f (keep p xs) ≡ sum_over (λ x. cond (p x) (f x) 0) xs
unfolding sum_over keep
sum_kept p f [] = refl
sum_kept p f (x ∷ xs) =
    ⊎_elim
    (λ (t : p x ≡ true). rw t (omega (arith, sum_kept p f xs)))
    (λ (t : p x ≡ false). rw t (omega (arith, sum_kept p f xs)))
    (bool_cases (p x))

pub due_chosen : (choice : ℕ) (p : List ℕ) (d : ℕ) → due_on choice p d ≡ sum_over (chosen choice) (doses_on p d)
unfolding due_on
due_chosen choice p d = sum_kept (choice_of choice).counts (choice_of choice).amount (doses_on p d)
