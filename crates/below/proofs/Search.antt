-- Laws of "first", "any" and "all". A proof cites these and never opens the definitions. Assumes nothing.
use Prim.Native.Nat.{ℕ, zero, suc, ◌+◌, ◌≤◌, ◌<◌}
use mathlib.Core.Bool.{Bool, true, false, ◌&&◌, ◌||◌}
use mathlib.Core.Logic.{⊎_elim}
use mathlib.Core.Path.{◌≡◌, refl, sym, ◌∙◌}
use native.Mathlib.Nat.{le_refl, eq-or-lt_of_le, not-suc-le-zero}
use native.Mathlib.Numerals.{add-one}
use native.Mathlib.Omega.{arith}
use lib.Dec.{ltb}
use borrow.Author.Count.{below_more}
use borrow.Author.Tests.{lt-ltb, le-ltb, ltb-true, ltb-false}
use Rattle.below.proofs.Tests.{bool_cases, true_not_false, bool_iff, and_both, or_either, or_true, le_or_lt}
use Rattle.below.specs.Below.{first_from, first_below, any_below, all_below}

-- m is the least index below n that has p, or n: what the word "first" means
pub record IsFirst (p : ℕ → Bool) (n m : ℕ) : Type 0 where
  pub within : m ≤ n
  pub before : (k : ℕ) → k < m → p k ≡ false
  pub here : m < n → p m ≡ true

module _ (p : ℕ → Bool) where
  -- no index below i has p: what a search has shown when it stands at i
  abbrev pub NoneBelow : ℕ → Type 0
  NoneBelow i = (k : ℕ) → k < i → p k ≡ false

  pub none_zero : NoneBelow 0
  none_zero k l = absurd (not-suc-le-zero l)

  pub none_more : {i : ℕ} → NoneBelow i → p i ≡ false → NoneBelow (i + 1)
  none_more {i} all here = below_more (λ (k : ℕ). p k ≡ false) i all here

  pub from_hit : (n i m : ℕ) → i ≤ m → m < i + n → ((k : ℕ) → i ≤ k → k < m → p k ≡ false) → p m ≡ true → first_from n i p ≡ m
  unfolding first_from
  from_hit zero i m l h none hit = absurd (let z : m < i = omega arith in omega arith)
  from_hit (suc n) i m l h none hit =
      ⊎_elim
      (λ e. let h : p i ≡ true = rw e hit in rw h e)
      (λ lt. rw (none i (le_refl i) lt) (from_hit n (suc i) m lt (omega arith) (λ k a b. none k (omega arith) b) hit))
      (eq-or-lt_of_le l)

  pub from_none : (n i : ℕ) → ((k : ℕ) → i ≤ k → k < i + n → p k ≡ false) → first_from n i p ≡ i + n
  unfolding first_from
  from_none zero i none = omega arith
  from_none (suc n) i none =
      rw (none i (le_refl i) (omega arith))
      (from_none n (suc i) (λ k a b. none k (omega arith) (omega arith)) ∙ omega arith)

  -- the search ended at i
  pub first_is : {n i : ℕ} → i < n → NoneBelow i → p i ≡ true → first_below n p ≡ i
  unfolding first_below
  first_is {n} {i} l none hit = from_hit n 0 i (omega arith) (omega arith) (λ k a b. none k b) hit

  -- the search found nothing
  pub first_none : (n : ℕ) → NoneBelow n → first_below n p ≡ n
  unfolding first_below
  first_none n none = from_none n 0 (λ k a b. none k (omega arith)) ∙ omega arith

  -- .. as a loop has it at its end, where i has reached n
  pub first_end : {n i : ℕ} → n ≤ i → NoneBelow i → first_below n p ≡ n
  first_end {n} l none = first_none n (λ k q. none k (omega arith))

  -- whatever is the least index is what first_below gives, so there is one such index alone
  pub first_unique : {n m : ℕ} → IsFirst p n m → first_below n p ≡ m
  first_unique {n} {m} f =
      ⊎_elim
      (λ (e : m ≡ n). first_none n (λ k l. f.before k (omega arith)) ∙ sym e)
      (λ l. first_is l f.before (f.here l))
      (eq-or-lt_of_le f.within)

  some_first : (n : ℕ) → (m : ℕ) × IsFirst p n m
  some_first zero = (0, record { within = omega arith; before = none_zero; here = λ x. absurd (omega arith) })
  some_first (suc n) =
      let r = some_first n in
      ⊎_elim
      (λ (l : n ≤ r.0).
      ⊎_elim
      (λ (t : p n ≡ true).
      (n, record { within = omega arith; before = λ k q. r.1.before k (omega arith); here = λ x. t }))
      (λ (t : p n ≡ false).
      let none = none_more {i = n} (λ k q. r.1.before k (omega arith)) t in
      (suc n, record { within = omega arith; before = λ k q. none k (omega arith); here = λ x. absurd (omega arith) }))
      (bool_cases (p n)))
      (λ (l : r.0 < n). (r.0, record { within = omega arith; before = r.1.before; here = λ x. r.1.here l }))
      (le_or_lt n r.0)

  -- and what first_below gives is the least index
  pub first_facts : (n : ℕ) → IsFirst p n (first_below n p)
  first_facts n = let r = some_first n in rw (first_unique r.1) r.1

  pub first_le : (n : ℕ) → first_below n p ≤ n
  first_le n = (first_facts n).within

  -- some index below n has p
  pub any_hit : {n i : ℕ} → i < n → p i ≡ true → any_below n p ≡ true
  unfolding any_below
  any_hit {n} {i} l hit =
      lt-ltb (first_below n p) n
      (⊎_elim
      (λ (t : ltb (first_below n p) n ≡ true). ltb-true _ _ t)
      (λ t. absurd (true_not_false hit ((first_facts n).before i (omega (arith, ltb-false (first_below n p) n t)))))
      (bool_cases (ltb (first_below n p) n)))

  -- none has
  pub any_none : {n : ℕ} → NoneBelow n → any_below n p ≡ false
  unfolding any_below
  any_none {n} none = le-ltb (first_below n p) n (omega (arith, first_none n none))

  pub any_end : {n i : ℕ} → n ≤ i → NoneBelow i → any_below n p ≡ false
  any_end l none = any_none (λ k q. none k (omega arith))

  pub any_not : {n : ℕ} → any_below n p ≡ false → NoneBelow n
  any_not {n} e k l =
      ⊎_elim (λ (t : p k ≡ true). absurd (true_not_false (any_hit l t) e)) (λ t. t) (bool_cases (p k))

  -- the index that any_below found
  pub any_some : (n : ℕ) → any_below n p ≡ true → (k : ℕ) × (k < n) × (p k ≡ true)
  unfolding any_below
  any_some n e = let l : first_below n p < n = ltb-true _ _ e in (first_below n p, l, (first_facts n).here l)

  -- one index more: what a loop without an early way out has
  pub any_zero : any_below 0 p ≡ false
  any_zero = any_none none_zero

  pub any_more : (i : ℕ) → any_below (i + 1) p ≡ (any_below i p || p i)
  any_more i =
      bool_iff (any_below (i + 1) p) (any_below i p || p i)
      (λ e.
      let s = any_some (i + 1) e in
      ⊎_elim
      (λ (x : s.0 ≡ i). let h : p i ≡ true = rw (← x) s.2 in rw (h, or_true))
      (λ x. rw (any_hit {n = i} x s.2))
      (eq-or-lt_of_le (let z : s.0 ≤ i = omega (arith, s.1) in z)))
      (λ e.
      ⊎_elim
      (λ t. let s = any_some i t in any_hit (omega (arith, s.1)) s.2)
      (λ t. any_hit (omega arith) t)
      (or_either (any_below i p) (p i) e))

  -- every index below n has p
  pub all_zero : all_below 0 p ≡ true
  unfolding all_below
  all_zero = refl

  pub all_more : (i : ℕ) → all_below (i + 1) p ≡ (all_below i p && p i)
  unfolding all_below
  all_more i = rw add-one

  pub all_at : (n : ℕ) → all_below n p ≡ true → (k : ℕ) → k < n → p k ≡ true
  unfolding all_below
  all_at zero e k l = absurd (not-suc-le-zero l)
  all_at (suc n) e k l =
      let b = and_both (all_below n p) (p n) e in
      ⊎_elim (λ (x : k ≡ n). rw x b.1) (λ x. all_at n b.0 k x) (eq-or-lt_of_le (let z : k ≤ n = omega arith in z))

  pub all_every : (n : ℕ) → ((k : ℕ) → k < n → p k ≡ true) → all_below n p ≡ true
  unfolding all_below
  all_every zero h = refl
  all_every (suc n) h = rw (all_every n (λ k l. h k (omega arith)), h n (omega arith))

-- tests that agree below n
module _ (p q : ℕ → Bool) (n : ℕ) (same : (k : ℕ) → k < n → p k ≡ q k) where
  pub first_same : first_below n p ≡ first_below n q
  first_same =
      let f = first_facts q n in
      first_unique p (record {
        within = f.within;
        before = λ k l. same k (omega (arith, f.within)) ∙ f.before k l;
        here = λ l. same _ l ∙ f.here l;
      })

  pub any_same : any_below n p ≡ any_below n q
  unfolding any_below
  any_same = rw first_same

-- a test over two indexes: what a table's rule is computed by
pub all_at_2 : (p : ℕ → ℕ → Bool) (m n : ℕ) → all_below m (λ i. all_below n (p i)) ≡ true → (i j : ℕ) → i < m → j < n → p i j ≡ true
all_at_2 p m n e i j h k = all_at (p i) n (all_at (λ (i : ℕ). all_below n (p i)) m e i h) j k
