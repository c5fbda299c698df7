-- Laws of "each element of a list has P": at an index, and for the lists that are made of other lists. Assumes nothing.
use Prim.Native.Nat.{ℕ, zero, suc, ◌<◌}
use mathlib.Core.Bool.{Bool, true, false, cond}
use mathlib.Core.List.{List, [], ◌∷◌, ◌++◌}
use native.Mathlib.Nat.{not-suc-le-zero, le_of_suc-le-suc}
use native.Mathlib.Omega.{arith}
use lib.ListN.{length, get_or, take, drop}
use Rattle.below.specs.Lists.{list_below, pick_below, join_below, keep, join_over, Every, Every.none, Every.more}
use mathlib.Core.Path.{◌≡◌, refl}

module _ {A : Type 0} {P : A → Type 0} where
  pub every_at : {xs : List A} → Every P xs → (d : A) (i : ℕ) → i < length xs → P (get_or xs i d)
  every_at none d i l = absurd (not-suc-le-zero l)
  every_at (more p ps) d zero l = p
  every_at (more p ps) d (suc i) l = every_at ps d i (le_of_suc-le-suc l)

  pub at_every : (xs : List A) (d : A) → ((i : ℕ) → i < length xs → P (get_or xs i d)) → Every P xs
  at_every [] d h = none
  at_every (x ∷ xs) d h = more (h 0 (omega arith)) (at_every xs d (λ i l. h (suc i) (omega arith)))

  pub every_all : ((x : A) → P x) → (xs : List A) → Every P xs
  every_all h [] = none
  every_all h (x ∷ xs) = more (h x) (every_all h xs)

  pub every_map : {Q : A → Type 0} {xs : List A} → ((x : A) → P x → Q x) → Every P xs → Every Q xs
  every_map h none = none
  every_map h (more {x = x} p ps) = more (h x p) (every_map h ps)

  pub every_both : {Q : A → Type 0} {xs : List A} → Every P xs → Every Q xs → Every (λ x. P x × Q x) xs
  every_both none qs = none
  every_both (more p ps) (more q qs) = more (p, q) (every_both ps qs)

  pub every_append : {xs ys : List A} → Every P xs → Every P ys → Every P (xs ++ ys)
  every_append none qs = qs
  every_append (more p ps) qs = more p (every_append ps qs)

  pub every_take : {xs : List A} (n : ℕ) → Every P xs → Every P (take n xs)
  every_take zero ps = none
  every_take (suc n) none = none
  every_take (suc n) (more {x = x} {xs = xs} p ps) = more p (every_take {xs = xs} n ps)

  pub every_drop : {xs : List A} (n : ℕ) → Every P xs → Every P (drop n xs)
  every_drop zero ps = ps
  every_drop (suc n) none = none
  every_drop (suc n) (more {x = x} {xs = xs} p ps) = every_drop {xs = xs} n ps

  pub every_cond : (t : Bool) {xs ys : List A} → (t ≡ true → Every P xs) → (t ≡ false → Every P ys) → Every P (cond t xs ys)
  every_cond true f g = f refl
  every_cond false f g = g refl

  pub every_list : (n : ℕ) (f : ℕ → A) → ((i : ℕ) → i < n → P (f i)) → Every P (list_below n f)
  unfolding list_below
  every_list zero f h = none
  every_list (suc n) f h = every_append (every_list n f (λ i l. h i (omega arith))) (more (h n (omega arith)) none)

  pub every_pick : (n : ℕ) (p : ℕ → Bool) (f : ℕ → A) → ((i : ℕ) → i < n → p i ≡ true → P (f i)) → Every P (pick_below n p f)
  unfolding pick_below
  every_pick zero p f h = none
  every_pick (suc n) p f h =
      every_append
      (every_pick n p f (λ i l e. h i (omega arith) e))
      (every_cond (p n) (λ e. more (h n (omega arith) e) none) (λ e. none))

  pub every_join : (n : ℕ) (f : ℕ → List A) → ((i : ℕ) → i < n → Every P (f i)) → Every P (join_below n f)
  unfolding join_below
  every_join zero f h = none
  every_join (suc n) f h = every_append (every_join n f (λ i l. h i (omega arith))) (h n (omega arith))

  pub every_keep : (p : A → Bool) {xs : List A} → Every P xs → Every P (keep p xs)
  unfolding keep
  every_keep p none = none
  every_keep p (more {x = x} q qs) = every_cond (p x) (λ e. more q (every_keep p qs)) (λ e. every_keep p qs)

-- .. and for lists of lists
module _ {A B : Type 0} {Q : B → Type 0} where
  pub all_over : (f : A → List B) → ((x : A) → Every Q (f x)) → (xs : List A) → Every Q (join_over f xs)
  unfolding join_over
  all_over f h [] = none
  all_over f h (x ∷ xs) = every_append (h x) (all_over f h xs)

module _ {A B : Type 0} {P : A → Type 0} {Q : B → Type 0} where
  pub every_over : (f : A → List B) {xs : List A} → ((x : A) → P x → Every Q (f x)) → Every P xs → Every Q (join_over f xs)
  unfolding join_over
  every_over f h none = none
  every_over f h (more {x = x} p ps) = every_append (h x p) (every_over f h ps)
