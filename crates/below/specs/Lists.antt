-- Lists made of the numbers 0, 1, .., n - 1, in that order, and of the elements of a list.
use Rattle.std.specs.Prelude.{ℕ, zero, suc, ◌+◌, Bool, cond, List, [], ◌∷◌, ◌++◌}

-- f 0, f 1, .., f (n - 1)
unfoldable pub list_below : {A : Type 0} → ℕ → (ℕ → A) → List A
list_below zero f = []
list_below (suc n) f = list_below n f ++ (f n ∷ [])

-- f i for each i below n that has p
unfoldable pub pick_below : {A : Type 0} → ℕ → (ℕ → Bool) → (ℕ → A) → List A
pick_below zero p f = []
pick_below (suc n) p f = pick_below n p f ++ cond (p n) (f n ∷ []) []

-- the lists f 0, f 1, .., f (n - 1), one behind the other
unfoldable pub join_below : {A : Type 0} → ℕ → (ℕ → List A) → List A
join_below zero f = []
join_below (suc n) f = join_below n f ++ f n

-- the elements of a list that have p, in their order
unfoldable pub keep : {A : Type 0} → (A → Bool) → List A → List A
keep p [] = []
keep p (x ∷ xs) = cond (p x) (x ∷ keep p xs) (keep p xs)

-- the lists f x of its elements x, one behind the other
unfoldable pub join_over : {A B : Type 0} → (A → List B) → List A → List B
join_over f [] = []
join_over f (x ∷ xs) = f x ++ join_over f xs

-- the sum of f over a list
unfoldable pub sum_over : {A : Type 0} → (A → ℕ) → List A → ℕ
sum_over f [] = 0
sum_over f (x ∷ xs) = f x + sum_over f xs

-- each element of a list has P
pub data Every {A : Type 0} (P : A → Type 0) : List A → Type 0 where
  none : Every P []
  more : {x : A} {xs : List A} → P x → Every P xs → Every P (x ∷ xs)
