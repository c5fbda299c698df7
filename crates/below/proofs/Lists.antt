-- Laws of lists that are made of 0, 1, .., n - 1, and of the elements of a list: one more, one list behind another, and sums
-- over them. Assumes nothing.
use Prim.Native.Nat.{ℕ, zero, suc, ◌+◌, ◌≤◌, ◌<◌, ◌*◌}
use mathlib.Core.Bool.{Bool, true, false, cond}
use mathlib.Core.List.{List, [], ◌∷◌, ◌++◌, append_assoc, append-nil}
use mathlib.Core.Path.{◌≡◌, refl, sym, ap, ◌∙◌}
use native.Mathlib.Nat.{add-zero, add-suc, suc-mul, zero-mul}
use native.Mathlib.Numerals.{add-one}
use native.Mathlib.Omega.{arith}
use lib.ListN.{length, get_or, take, drop, length-append, length-drop, get_or-append}
use lib.Seq.{get_or-append-add, get_or-take, get_or-drop, length-take-le, ext_get_or, take_at, drop_at}
use borrow.Author.Count.{below_more}
use Rattle.below.specs.Below.{sum_below}
use Rattle.below.specs.Lists.{list_below, pick_below, join_below, keep, join_over, sum_over}

module _ {A : Type 0} where
  pub pick_zero : (p : ℕ → Bool) (f : ℕ → A) → pick_below 0 p f ≡ []
  unfolding pick_below
  pick_zero p f = refl

  pub pick_more : (i : ℕ) (p : ℕ → Bool) (f : ℕ → A) → pick_below (i + 1) p f ≡ pick_below i p f ++ cond (p i) (f i ∷ []) []
  unfolding pick_below
  pick_more i p f = rw add-one

  pub join_zero : (f : ℕ → List A) → join_below 0 f ≡ []
  unfolding join_below
  join_zero f = refl

  pub join_more : (i : ℕ) (f : ℕ → List A) → join_below (i + 1) f ≡ join_below i f ++ f i
  unfolding join_below
  join_more i f = rw add-one

  -- sums over such lists are sums below n
  sum_append : (g : A → ℕ) (xs ys : List A) → sum_over g (xs ++ ys) ≡ sum_over g xs + sum_over g ys
  unfolding sum_over
  sum_append g [] ys = omega arith
  sum_append g (x ∷ xs) ys = omega (arith, sum_append g xs ys)

  one : (g : A → ℕ) (t : Bool) (x : A) → sum_over g (cond t (x ∷ []) []) ≡ cond t (g x) 0
  unfolding sum_over
  one g true x = omega arith
  one g false x = refl

  pub sum_pick : (g : A → ℕ) (n : ℕ) (p : ℕ → Bool) (f : ℕ → A) → sum_over g (pick_below n p f) ≡ sum_below n (λ j. cond (p j) (g (f j)) 0)
  unfolding pick_below sum_below sum_over
  sum_pick g zero p f = refl
  sum_pick g (suc n) p f = sum_append g (pick_below n p f) _ ∙ rw (sum_pick g n p f, one g (p n) (f n))

  pub sum_join : (g : A → ℕ) (n : ℕ) (f : ℕ → List A) → sum_over g (join_below n f) ≡ sum_below n (λ b. sum_over g (f b))
  unfolding join_below sum_below sum_over
  sum_join g zero f = refl
  sum_join g (suc n) f = sum_append g (join_below n f) (f n) ∙ rw (sum_join g n f)

module _ {A : Type 0} where
  pub list_zero : (f : ℕ → A) → list_below 0 f ≡ []
  unfolding list_below
  list_zero f = refl

  pub list_more : (i : ℕ) (f : ℕ → A) → list_below (i + 1) f ≡ list_below i f ++ (f i ∷ [])
  unfolding list_below
  list_more i f = rw add-one

  pub length_list : (n : ℕ) (f : ℕ → A) → length (list_below n f) ≡ n
  unfolding list_below
  length_list zero f = refl
  length_list (suc n) f = rw (length-append, length_list n f) (omega arith)

  -- element i is f i
  pub get_d_list : (n : ℕ) (f : ℕ → A) (x : A) (i : ℕ) → i < n → get_or (list_below n f) i x ≡ f i
  unfolding list_below
  get_d_list zero f x i l = absurd (omega arith)
  get_d_list (suc n) f x i l =
      let e : n + 0 ≡ n = omega arith in
      below_more (λ (i : ℕ). get_or (list_below n f ++ (f n ∷ [])) i x ≡ f i) n
      (λ i l.
      let h : i < length (list_below n f) = rw (length_list n f) l in
      rw (get_or-append (list_below n f) (f n ∷ []) x i h) (get_d_list n f x i l))
      (ap (λ (m : ℕ). get_or (list_below n f ++ (f n ∷ [])) m x) (sym (rw (length_list n f) e)) ∙ get_or-append-add (list_below n f) (f n ∷ []) 0 x)
      i (rw (← add-one n) at l)

  -- equal elements make equal lists
  pub list_same : (n : ℕ) (f g : ℕ → A) → ((i : ℕ) → i < n → f i ≡ g i) → list_below n f ≡ list_below n g
  unfolding list_below
  list_same zero f g h = refl
  list_same (suc n) f g h = rw (list_same n f g (λ i l. h i (omega arith)), h n (omega arith))

  pub join_same : (n : ℕ) (f g : ℕ → List A) → ((i : ℕ) → i < n → f i ≡ g i) → join_below n f ≡ join_below n g
  unfolding join_below
  join_same zero f g h = refl
  join_same (suc n) f g h = rw (join_same n f g (λ i l. h i (omega arith)), h n (omega arith))

  -- the first m of them, and the n behind
  pub join_split : (m n : ℕ) (f : ℕ → List A) → join_below (m + n) f ≡ join_below m f ++ join_below n (λ i. f (m + i))
  unfolding join_below
  join_split m zero f = rw add-zero (sym (append-nil (join_below m f)))
  join_split m (suc n) f = rw (add-suc, join_split m n f) (append_assoc (join_below m f) (join_below n (λ i. f (m + i))) (f (m + n)))

  -- nothing but empty lists
  pub join_none : (n : ℕ) (f : ℕ → List A) → ((i : ℕ) → i < n → f i ≡ []) → join_below n f ≡ []
  unfolding join_below
  join_none zero f h = refl
  join_none (suc n) f h = rw (join_none n f (λ i l. h i (omega arith)), h n (omega arith))

  -- a list is made of its own elements
  pub list_of : (xs : List A) (x : A) → list_below (length xs) (λ i. get_or xs i x) ≡ xs
  list_of xs x =
      let n = length_list (length xs) (λ i. get_or xs i x) in
      ext_get_or x (list_below (length xs) (λ i. get_or xs i x)) xs n
      (λ i l. get_d_list (length xs) (λ i. get_or xs i x) x i (rw n at l))

  -- a part of such a list is such a list
  pub part_list : (m a n : ℕ) (f : ℕ → A) → a + n ≤ m → take n (drop a (list_below m f)) ≡ list_below n (λ i. f (a + i))
  part_list m a n f h =
      let l = list_below m f in
      let long : length (take n (drop a l)) ≡ n = length-take-le n (drop a l) (rw (length-drop, length_list m f) (omega arith)) in
      ext_get_or (f 0) (take n (drop a l)) (list_below n (λ i. f (a + i))) (long ∙ sym (length_list n (λ i. f (a + i))))
      (λ i q.
      let k : i < n = rw long at q in
      get_or-take n (drop a l) i (f 0) k ∙ get_or-drop a l i (f 0) ∙ get_d_list m f (f 0) (a + i) (omega arith) ∙ sym (get_d_list n (λ i. f (a + i)) (f 0) i k))

  -- what has a test, of two lists
  pub keep_append : (p : A → Bool) (xs ys : List A) → keep p (xs ++ ys) ≡ keep p xs ++ keep p ys
  unfolding keep
  keep_append p [] ys = refl
  keep_append p (x ∷ xs) ys = rw (keep_append p xs ys) (ahead (p x) x (keep p xs) (keep p ys))
    where
      ahead : (t : Bool) (x : A) (xs ys : List A) → cond t (x ∷ (xs ++ ys)) (xs ++ ys) ≡ cond t (x ∷ xs) xs ++ ys
      ahead true x xs ys = refl
      ahead false x xs ys = refl

  pub keep_join : (p : A → Bool) (n : ℕ) (f : ℕ → List A) → keep p (join_below n f) ≡ join_below n (λ i. keep p (f i))
  unfolding join_below keep
  keep_join p zero f = refl
  keep_join p (suc n) f = keep_append p (join_below n f) (f n) ∙ rw (keep_join p n f)

-- lists of lists
module _ {A B : Type 0} (f : A → List B) where
  pub over_append : (xs ys : List A) → join_over f (xs ++ ys) ≡ join_over f xs ++ join_over f ys
  unfolding join_over
  over_append [] ys = refl
  over_append (x ∷ xs) ys = rw (over_append xs ys) (sym (append_assoc (f x) (join_over f xs) (join_over f ys)))

  pub over_nil : join_over f [] ≡ []
  unfolding join_over
  over_nil = refl

  pub over_one : (x : A) → join_over f (x ∷ []) ≡ f x
  unfolding join_over
  over_one x = append-nil (f x)

  pub over_list : (n : ℕ) (g : ℕ → A) → join_over f (list_below n g) ≡ join_below n (λ i. f (g i))
  unfolding list_below join_below
  over_list zero g = over_nil
  over_list (suc n) g = over_append (list_below n g) (g n ∷ []) ∙ rw (over_list n g, over_one (g n))

  pub over_join : (n : ℕ) (g : ℕ → List A) → join_over f (join_below n g) ≡ join_below n (λ i. join_over f (g i))
  unfolding join_below join_over
  over_join zero g = refl
  over_join (suc n) g = over_append (join_below n g) (g n) ∙ rw (over_join n g)

-- keeping what has one test and then what has another
module _ {A : Type 0} where
  keep_both : (p q : A → Bool) (x : A) (xs ys : List A) → keep p xs ≡ keep q ys → (s t : Bool) → p x ≡ s → q x ≡ t → keep p (cond t (x ∷ xs) xs) ≡ keep q (cond s (x ∷ ys) ys)
  unfolding keep
  keep_both p q x xs ys h true true e f = rw (e, f) (ap (λ (l : List A). x ∷ l) h)
  keep_both p q x xs ys h true false e f = rw f h
  keep_both p q x xs ys h false true e f = rw e h
  keep_both p q x xs ys h false false e f = h

  pub keep_swap : (p q : A → Bool) (xs : List A) → keep p (keep q xs) ≡ keep q (keep p xs)
  unfolding keep
  keep_swap p q [] = refl
  keep_swap p q (x ∷ xs) = keep_both p q x (keep q xs) (keep p xs) (keep_swap p q xs) (p x) (q x) refl refl

  -- a list with a test, made in one go
  pub pick_keep : (n : ℕ) (p : A → Bool) (f : ℕ → A) → pick_below n (λ j. p (f j)) f ≡ keep p (list_below n f)
  unfolding pick_below list_below keep
  pick_keep zero p f = refl
  pick_keep (suc n) p f = rw (pick_keep n p f) (sym (keep_append p (list_below n f) (f n ∷ [])))

  -- none has it
  pub keep_none : (n : ℕ) (p : A → Bool) (f : ℕ → A) → ((j : ℕ) → j < n → p (f j) ≡ false) → keep p (list_below n f) ≡ []
  unfolding list_below keep
  keep_none zero p f h = refl
  keep_none (suc n) p f h =
      keep_append p (list_below n f) (f n ∷ []) ∙ rw (keep_none n p f (λ j l. h j (omega arith)), h n (omega arith))

  pub keep_cond : (p : A → Bool) (t : Bool) (xs : List A) → keep p (cond t xs []) ≡ cond t (keep p xs) []
  unfolding keep
  keep_cond p true xs = refl
  keep_cond p false xs = refl

-- lists of one length, one behind the other: how long they are together, and the one at i
module _ {A : Type 0} (m : ℕ) (f : ℕ → List A) where
  pub length_join : (n : ℕ) → ((i : ℕ) → i < n → length (f i) ≡ m) → length (join_below n f) ≡ n * m
  unfolding join_below
  length_join zero h = sym (zero-mul m)
  length_join (suc n) h =
      rw (length-append, length_join n (λ i l. h i (omega arith)), h n (omega arith)) (sym (suc-mul n m))

  pub part_join : (n : ℕ) → ((i : ℕ) → i < n → length (f i) ≡ m) → (i : ℕ) → i < n → (t : List A) → take m (drop (i * m) (join_below n f ++ t)) ≡ f i
  unfolding join_below
  part_join zero h i l t = absurd (omega arith)
  part_join (suc n) h i l t =
      rw (append_assoc (join_below n f) (f n) t)
      (below_more (λ (i : ℕ). take m (drop (i * m) (join_below n f ++ (f n ++ t))) ≡ f i) n
      (λ i q. part_join n (λ i q. h i (omega arith)) i q (f n ++ t))
      (rw (drop_at (join_below n f) (f n ++ t) (n * m) (length_join n (λ i q. h i (omega arith)))) (take_at (f n) t m (h n (omega arith))))
      i (rw (← add-one n) at l))
