-- Searches through the numbers of a range, by `any` and `find`. Assumes nothing.
use Prim.Native.Nat.{ℕ, ◌-◌, ◌≤◌, ◌<◌}
use mathlib.Core.Bool.{Bool, true, false}
use mathlib.Core.List.{List}
use mathlib.Core.Logic.{⊎_elim}
use mathlib.Core.Path.{◌≡◌, refl, sym, subst}
use native.Mathlib.Omega.{arith}
use lib.ListN.{length, get_or}
use denote.Param.Members.{Mut}
use denote.Ref.{Bor}
use Rattle.std.specs.Prelude.{Option, Some, None, MatchOption}
use Rattle.std.specs.Bool.{⊤, MatchBool}
use Rattle.std.specs.Fn.{Called, CalledAt}
use Rattle.std.specs.Iterator.{YieldsThen}
use Rattle.std.specs.List.{FoldsTo, AllWithin, HoldsAt, range_with_len}
use Rattle.std.specs.declared.ops.Range.{Range}
use Rattle.std.proofs.iter.Yields.{nat_range_steps}
use Rattle.std.proofs.lemmas.Iterator.{YieldsList-from_range, cases_from_any, first_from_Range}
use Rattle.std.proofs.lemmas.List.FromFn.{length-range_with_len, get_or-range_with_len}
use Rattle.below.specs.Below.{first_below, any_below}
use Rattle.below.proofs.Search.{any_hit, any_none, any_some, first_is, first_none, first_facts, any_not}
use Rattle.below.proofs.Tests.{bool_cases, le_or_lt, true_not_false}
use Rattle.form.specs.Code.Found.{found_below}

some_is_not_none : {m : ℕ} → ◌≡◌ {A = Option ℕ} None (Some m) → ⊥
some_is_not_none e = cc e

module _ (n : ℕ) (p : ℕ → Bool) where
  first_lt : {k : ℕ} → k < n → p k ≡ true → first_below n p < n
  first_lt {k} l hit =
      ⊎_elim
      (λ (e : n ≤ first_below n p). absurd (true_not_false hit ((first_facts p n).before k (omega arith))))
      (λ e. e)
      (le_or_lt n (first_below n p))

  entry : (k : ℕ) → k < length (range_with_len 0 (n - 0)) → (get_or (range_with_len 0 (n - 0)) k 0 ≡ k) × (k < n)
  entry k l =
      let m : k < n = omega (arith, length-range_with_len 0 (n - 0)) in
      (omega (arith, get_or-range_with_len 0 (n - 0) k 0 (omega arith)), m)

  by_any : (r : Bool)
      → MatchBool r ((k : ℕ) × (k < length (range_with_len 0 (n - 0))) × HoldsAt (λ x. p x ≡ true) (range_with_len 0 (n - 0)) k) (AllWithin (λ x. p x ≡ false) (range_with_len 0 (n - 0)) 0 (length (range_with_len 0 (n - 0))))
      → r ≡ any_below n p
  by_any true h =
      let e = entry h.0 h.1 in
      sym (any_hit p e.1 (subst (λ (x : ℕ). p x ≡ true) e.0 (h.2 0)))
  by_any false h =
      sym (any_none p (λ k l.
      let m : k < length (range_with_len 0 (n - 0)) = omega (arith, length-range_with_len 0 (n - 0)) in
      subst (λ (x : ℕ). p x ≡ false) (entry k m).0 (h k 0 (omega arith) m)))

  -- `any` over the numbers below n
  pub any_in_range : {F : Type 0} {g : Mut F (ℕ × Unit {0}) Bool} (s u : Range ℕ) (f : F) (r : Bool)
      → (xs : List ℕ) × (o : Option ℕ) × (j : F) × YieldsThen nat_range_steps s xs o u × FoldsTo (λ a x q. Called g a (x, tt) false q) f xs j × MatchOption o (r ≡ false) (λ x. (r ≡ true) × ((h : F) × Called g j (x, tt) true h))
      → s ≡ record { start = 0; end = n }
      → ((x : ℕ) (q : F) → Called g f (x, tt) true q → p x ≡ true)
      → ((x : ℕ) (q : F) → Called g f (x, tt) false q → (q ≡ f) × (p x ≡ false))
      → r ≡ any_below n p
  any_in_range s u f r ran e hit miss =
      by_any r (cases_from_any u f r (λ x. p x ≡ true) (λ x. p x ≡ false) ran (YieldsList-from_range 0 n (n - 0) e refl) hit miss)

  -- what was found
  pub found_some : {m : ℕ} → m < n → ((k : ℕ) → k < m → p k ≡ false) → p m ≡ true → found_below n p ≡ Some m
  unfolding found_below
  found_some l none hit = rw (any_hit p l hit, first_is p l none hit)

  pub found_none : ((k : ℕ) → k < n → p k ≡ false) → found_below n p ≡ None
  unfolding found_below
  found_none none = rw (any_none p none)

  -- and what that says
  pub some_found : {m : ℕ} → found_below n p ≡ Some m → (m ≡ first_below n p) × (m < n)
  unfolding found_below
  some_found {m} e =
      ⊎_elim
      (λ (t : any_below n p ≡ true).
      let f : m ≡ first_below n p = cc (rw t at e) in
      let k = any_some p n t in
      (f, omega (arith, f, first_lt k.1 k.2)))
      (λ (t : any_below n p ≡ false). absurd (some_is_not_none (rw t at e)))
      (bool_cases (any_below n p))

  pub none_found : found_below n p ≡ None → first_below n p ≡ n
  unfolding found_below
  none_found e =
      ⊎_elim
      (λ (t : any_below n p ≡ true). absurd (some_is_not_none (sym (rw t at e))))
      (λ (t : any_below n p ≡ false). first_none p n (any_not p t))
      (bool_cases (any_below n p))

  by_find : (r : Option ℕ)
      → MatchOption r ((k : ℕ) → 0 ≤ k → k < n → p k ≡ false) (λ i. (0 ≤ i) × (i < n) × (p i ≡ true) × ((k : ℕ) → 0 ≤ k → k < i → p k ≡ false))
      → r ≡ found_below n p
  by_find None h = sym (found_none (λ k l. h k (omega arith) l))
  by_find (Some i) h = sym (found_some h.1 (λ k l. h.3 k (omega arith) l) h.2)

  -- `find` over the numbers below n
  pub find_in_range : {F : Type 0} {g : Mut F (Bor ℕ × Unit {0}) Bool} (s u : Range ℕ) (f : F) (r : Option ℕ)
      → (xs : List ℕ) × (j : F) × YieldsThen nat_range_steps s xs r u × FoldsTo (λ a x q. CalledAt g a x false q) f xs j × MatchOption r ⊤ (λ x. (h : F) × CalledAt g j x true h)
      → s ≡ record { start = 0; end = n }
      → ((x : ℕ) (q : F) → CalledAt g f x true q → p x ≡ true)
      → ((x : ℕ) (q : F) → CalledAt g f x false q → (q ≡ f) × (p x ≡ false))
      → r ≡ found_below n p
  find_in_range s u f r ran e hit miss =
      by_find r (rw e at (first_from_Range s u f r (λ x. p x ≡ true) (λ x. p x ≡ false) ran hit miss))
