-- The slots of a register as a list, and searches through it. Assumes nothing.
use Rattle.std.proofs.Common.{◌≡◌, ℕ, zero, suc, ◌+◌, ◌*◌, ◌/◌, ◌<◌, ◌≤◌, Bool, true, false, cond, ltb, not, ◌&&◌, ◌||◌, List, [], length, get_or, take, drop, refl, sym, ap, ◌∙◌, arith, eqb, eq-eqb, eqb-true, lt-ltb, ⊎_elim, not-suc-le-zero, drop-drop, get_or-take, length-take-le, take_all, add-one, zero-add}
use Rattle.std.specs.Prelude.{Option, Some, None}
use Rattle.std.specs.List.{list_any, list_all, position_or_len, range_with_len}
use Rattle.std.specs.Simd.{first_chunks}
use Rattle.std.proofs.lemmas.List.Sums.{position_or_len_is}
use Rattle.std.proofs.lemmas.List.Folds.{list_any_more, list_all_more}
use Rattle.std.proofs.lemmas.List.FromFn.{length-range_with_len, get_or-range_with_len}
use Rattle.plan.specs.Fields.{plan_number_of}
use Rattle.below.specs.Below.{first_below, any_below, all_below}
use Rattle.below.proofs.Tests.{same_or_not, true_not_false}
use Rattle.below.proofs.Search.{first_facts, any_zero, any_more, all_zero, all_more}
use Rattle.register.specs.Slots.{slots_of, slot_at, is_free, plan_in, holds}
use Rattle.register.specs.Sound.{slot_right, clashes, sound}

-- these are the slots of the register r
pub record AreSlots (r : List ℕ) (slots : List (List ℕ)) : Type 0 where
  pub count : length slots ≡ slots_of r
  pub each : (i : ℕ) → i < slots_of r → get_or slots i [] ≡ slot_at r i

length_chunks : (n k : ℕ) (r : List ℕ) → length (first_chunks n k r) ≡ k
length_chunks n zero r = refl
length_chunks n (suc k) r = ap suc (length_chunks n k (drop n r))

chunk_at : (n k : ℕ) (r : List ℕ) (i : ℕ) → i < k → get_or (first_chunks n k r) i [] ≡ take n (drop (i * n) r)
chunk_at n zero r i l = absurd (not-suc-le-zero l)
chunk_at n (suc k) r zero l = let e : zero * n ≡ 0 = omega arith in rw e
chunk_at n (suc k) r (suc i) l =
    let e : n + i * n ≡ suc i * n = omega arith in
    chunk_at n k (drop n r) i (omega arith) ∙ rw (drop-drop (i * n) n r, e)

-- as the code cuts them
pub slots_cut : (r : List ℕ) {n : ℕ} {chunks : List (List ℕ)} → chunks ≡ first_chunks 16896 (length r / 16896) r → n ≡ slots_of r → AreSlots r (take n chunks)
unfolding slot_at
slots_cut r {n} {chunks} e f =
    let k = length r / 16896 in
    record {
      count = rw e (length-take-le n (first_chunks 16896 k r) (rw (length_chunks 16896 k r) (omega arith))) ∙ f;
      each = λ i l. rw (e, get_or-take n (first_chunks 16896 k r) i [] (omega arith)) (chunk_at 16896 k r i (omega arith));
    }

-- a test on the elements of a list, as one on their indexes
module _ {X : Type 0} (p : X → Bool) (xs : List X) (d : X) (at : ℕ → Bool) where
  pub any_list : (j : ℕ) → j ≤ length xs → ((i : ℕ) → i < j → p (get_or xs i d) ≡ at i) → list_any p (take j xs) ≡ any_below j at
  any_list zero l same = sym (any_zero at)
  any_list (suc j) l same =
      rw (← add-one j)
      (list_any_more p xs j d (omega arith) ∙ rw (any_list j (omega arith) (λ i q. same i (omega arith)), same j (omega arith), any_more at j))

  pub all_list : (j : ℕ) → j ≤ length xs → ((i : ℕ) → i < j → p (get_or xs i d) ≡ at i) → list_all p (take j xs) ≡ all_below j at
  all_list zero l same = sym (all_zero at)
  all_list (suc j) l same =
      rw (← add-one j)
      (list_all_more p xs j d (omega arith) ∙ rw (all_list j (omega arith) (λ i q. same i (omega arith)), same j (omega arith), all_more at j))

-- and one on the numbers below n
pub all_number : (p : ℕ → Bool) (n : ℕ) → list_all p (range_with_len 0 n) ≡ all_below n p
all_number p n =
    let long : length (range_with_len 0 n) ≡ n = length-range_with_len 0 n in
    ap (list_all p) (sym (take_all n (range_with_len 0 n) (omega arith)))
    ∙ all_list p (range_with_len 0 n) 0 p n (omega arith) (λ k l. ap p (get_or-range_with_len 0 n k 0 l ∙ zero-add k))

module _ {r : List ℕ} {slots : List (List ℕ)} (w : AreSlots r slots) (p : List ℕ → Bool) where
  abbrev pub at : ℕ → Bool
  at i = p (slot_at r i)

  -- the first slot that has the test
  pub first_slot : {x : Option ℕ} → x ≡ cond (ltb (position_or_len p slots) (length slots)) (Some (position_or_len p slots)) None →
      x ≡ cond (ltb (first_below (slots_of r) at) (slots_of r)) (Some (first_below (slots_of r) at)) None
  first_slot e =
      let f = first_facts at (slots_of r) in
      let first : position_or_len p slots ≡ first_below (slots_of r) at =
      position_or_len_is p slots (first_below (slots_of r) at) [] (omega (arith, f.within, w.count))
      (λ k l. ap p (w.each k (omega (arith, f.within))) ∙ f.before k l)
      (λ l. ap p (w.each _ (omega (arith, w.count))) ∙ f.here (omega (arith, w.count))) in
      e ∙ rw (first, w.count)

  pub any_ahead : (j : ℕ) → j < slots_of r → list_any p (take j slots) ≡ any_below j at
  any_ahead j l = any_list p slots [] at j (omega (arith, w.count)) (λ k q. ap p (w.each k (omega arith)))

-- slot j and those ahead of it
module _ {r : List ℕ} {slots : List (List ℕ)} (w : AreSlots r slots) (j : ℕ) (l : j < slots_of r) where
  pub no_clash : is_free (get_or slots j []) ≡ true → false ≡ clashes r j
  unfolding clashes
  no_clash e = let free : is_free (slot_at r j) ≡ true = rw (w.each j l) at e in rw free

  pub clash : is_free (get_or slots j []) ≡ false → {number : ℕ} → number ≡ plan_number_of (plan_in (get_or slots j [])) → {found : Bool} →
      found ≡ list_any (λ s. holds s number) (take j slots) → found ≡ clashes r j
  unfolding clashes
  clash e {number} n {found} f =
      let taken : is_free (slot_at r j) ≡ false = rw (w.each j l) at e in
      let own : plan_number_of (plan_in (slot_at r j)) ≡ number = ap (λ s. plan_number_of (plan_in s)) (sym (w.each j l)) ∙ sym n in
      f ∙ any_ahead w (λ s. holds s number) j l ∙ rw (taken, own)

-- slot j is right, and does not clash
abbrev pub fits : List ℕ → ℕ → Bool
fits r j = slot_right (slot_at r j) && not (clashes r j)

both_apart : (a b c d : Bool) → ((a && not b) && (c && not d)) ≡ ((a && c) && not (b || d))
both_apart false b c d = refl
both_apart true false c d = refl
both_apart true true false d = refl
both_apart true true true d = refl

-- all have the one test and none the other: asked in one go
all_apart : (p q : ℕ → Bool) (n : ℕ) → all_below n (λ i. p i && not (q i)) ≡ (all_below n p && not (any_below n q))
all_apart p q zero = rw (all_zero (λ i. p i && not (q i)), all_zero p, any_zero q)
all_apart p q (suc n) =
    rw (← add-one n)
    (all_more (λ i. p i && not (q i)) n
    ∙ rw (all_apart p q n, all_more p n, any_more q n) (both_apart (all_below n p) (any_below n q) (p n) (q n)))

-- a register is sound if it has a slot, and all fit
module _ {r : List ℕ} {slots : List (List ℕ)} (w : AreSlots r slots) {empty : Bool} (e : empty ≡ eqb (length slots) 0) where
  pub no_slot : empty ≡ true → {found : Bool} → found ≡ not empty → found ≡ sound r
  unfolding sound
  no_slot n f =
      let none : slots_of r ≡ 0 = sym w.count ∙ eqb-true (length slots) 0 (sym e ∙ n) in
      f ∙ rw (n, none)

  pub all_fit : empty ≡ false → {m : ℕ} → m ≡ length slots → {found : Bool} → found ≡ list_all (fits r) (range_with_len 0 m) → found ≡ sound r
  unfolding sound
  all_fit n {m} k {found} f =
      let some : ltb 0 (slots_of r) ≡ true =
      lt-ltb 0 (slots_of r)
      (⊎_elim (λ (z : length slots ≡ 0). absurd (true_not_false (e ∙ eq-eqb (length slots) 0 z) n)) (λ q. omega (arith, w.count)) (same_or_not (length slots) 0)) in
      f ∙ all_number (fits r) m ∙ rw (k, w.count) (all_apart (λ i. slot_right (slot_at r i)) (clashes r) (slots_of r) ∙ rw some)
