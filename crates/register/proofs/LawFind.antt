-- What a sound register is, by index; and which slot a number finds, before and after a slot is put in its place. Assumes
-- nothing.
use Prim.Native.Nat.{ℕ, ◌≤◌, ◌<◌}
use mathlib.Core.Bool.{Bool, true, false, cond, not, ◌&&◌}
use mathlib.Core.List.{List}
use mathlib.Core.Logic.{⊎_elim}
use mathlib.Core.Option.{Option, none, some}
use mathlib.Core.Path.{◌≡◌, refl, sym, ap, ◌∙◌}
use native.Mathlib.Omega.{arith}
use lib.Dec.{eqb, ltb}
use lib.ListN.{length}
use borrow.Author.Tests.{eqb-true, eq-eqb, lt-ltb, le-ltb, ltb-true, ltb-false, not-true}
use Rattle.below.proofs.Search.{first_is, first_none, first_facts, any_none, any_not, all_at, all_every}
use Rattle.below.proofs.Tests.{bool_cases, true_not_false, not_true_false, and_both, both_and, le_or_lt, same_or_not}
use Rattle.plan.specs.Fields.{plan_number_of}
use Rattle.register.specs.Slots.{slots_of, slot_at, is_free, plan_in, with_slot, holds_at, held_at, is_held, free_at, slot_under}
use Rattle.register.specs.Sound.{slot_right, clashes, sound}
use Rattle.register.proofs.Update.{slots_with, slot_here, slot_apart}

-- a slot holds a plan with this number
abbrev pub holds : ℕ → List ℕ → Bool
holds n s = not (is_free s) && eqb (plan_number_of (plan_in s)) n

-- a slot holds one number alone
pub holds_one : (m n : ℕ) (s : List ℕ) → holds m s ≡ true → holds n s ≡ true → m ≡ n
holds_one m n s e f =
    sym (eqb-true _ _ (and_both (not (is_free s)) _ e).1) ∙ eqb-true _ _ (and_both (not (is_free s)) _ f).1

-- no two slots hold the same number
abbrev pub Once : List ℕ → Type 0
Once r =
    (n i j : ℕ) → i < slots_of r → j < slots_of r → holds_at r n i ≡ true → holds_at r n j ≡ true → i ≡ j

pub record SoundFacts (r : List ℕ) : Type 0 where
  pub some_slot : 0 < slots_of r
  pub right : (i : ℕ) → i < slots_of r → slot_right (slot_at r i) ≡ true
  pub once : Once r

module _ (r : List ℕ) where
  -- a slot that does not clash holds no number of a slot ahead of it
  ahead : (n i j : ℕ) → i < j → clashes r j ≡ false → holds_at r n j ≡ true → holds_at r n i ≡ false
  unfolding clashes
  ahead n i j l e h =
      let b = and_both (not (is_free (slot_at r j))) (eqb (plan_number_of (plan_in (slot_at r j))) n) h in
      let q : plan_number_of (plan_in (slot_at r j)) ≡ n = eqb-true _ _ b.1 in
      rw q at (any_not (holds_at r (plan_number_of (plan_in (slot_at r j)))) (rw b.0 at e) i l)

  pub sound_facts : sound r ≡ true → SoundFacts r
  unfolding sound
  sound_facts e =
      let a = and_both _ _ e in
      let b = and_both _ _ a.0 in
      let none = any_not (clashes r) (not-true _ a.1) in
      record {
        some_slot = ltb-true _ _ b.0;
        right = all_at (λ (i : ℕ). slot_right (slot_at r i)) (slots_of r) b.1;
        once = λ n i j l k f g.
            ⊎_elim
            (λ (h : i ≤ j).
            ⊎_elim
            (λ (x : j ≤ i). omega arith)
            (λ (x : i < j). absurd (true_not_false f (ahead n i j x (none j k) g)))
            (le_or_lt j i))
            (λ (h : j < i). absurd (true_not_false g (ahead n j i h (none i l) f)))
            (le_or_lt i j);
      }

  pub facts_sound : SoundFacts r → sound r ≡ true
  unfolding sound clashes
  facts_sound f =
      both_and
      (both_and (lt-ltb _ _ f.some_slot) (all_every (λ (i : ℕ). slot_right (slot_at r i)) (slots_of r) f.right))
      (rw (any_none (clashes r) no_clash))
    where
      no_clash : (j : ℕ) → j < slots_of r → clashes r j ≡ false
      no_clash j l =
          ⊎_elim
          (λ (t : not (is_free (slot_at r j)) ≡ true).
          let n = plan_number_of (plan_in (slot_at r j)) in
          let here : holds_at r n j ≡ true = both_and t (eq-eqb n n refl) in
          rw t
          (any_none (holds_at r n)
          (λ i k. not_true_false _ (λ h. let z = f.once n i j (omega arith) l h here in omega arith))))
          (λ (t : not (is_free (slot_at r j)) ≡ false). rw t)
          (bool_cases (not (is_free (slot_at r j))))

-- the slot that a number finds
abbrev pub found : List ℕ → ℕ → Option (List ℕ)
found r n = cond (is_held r n) (some (slot_under r n)) none

pub none_some : {s : List ℕ} → none ≡ some s → ⊥
none_some e = let z : ◌≡◌ {A = ℕ} 0 1 = cc in omega arith

module _ (r : List ℕ) (n : ℕ) where
  pub held_facts : is_held r n ≡ true → (held_at r n < slots_of r) × (holds_at r n (held_at r n) ≡ true)
  unfolding held_at
  held_facts e =
      let l : held_at r n < slots_of r = ltb-true _ _ e in
      (l, (first_facts (holds_at r n) (slots_of r)).here l)

  pub not_held : is_held r n ≡ false → (i : ℕ) → i < slots_of r → holds_at r n i ≡ false
  unfolding held_at
  not_held e i l =
      let h : slots_of r ≤ held_at r n = ltb-false _ _ e in
      (first_facts (holds_at r n) (slots_of r)).before i (omega arith)

  pub held_is : Once r → (i : ℕ) → i < slots_of r → holds_at r n i ≡ true → held_at r n ≡ i
  unfolding held_at
  held_is once i l e =
      first_is (holds_at r n) l
      (λ k q. not_true_false _ (λ h. let z = once n k i (omega arith) l h e in omega arith)) e

  pub found_at : Once r → (i : ℕ) → i < slots_of r → holds_at r n i ≡ true → found r n ≡ some (slot_at r i)
  found_at once i l e = rw (held_is once i l e, lt-ltb _ _ l)

  pub found_none : ((i : ℕ) → i < slots_of r → holds_at r n i ≡ false) → found r n ≡ none
  found_none h = rw (none_at, le-ltb (slots_of r) (slots_of r) (omega arith))
    where
      none_at : held_at r n ≡ slots_of r
      none_at = unfold held_at in first_none (holds_at r n) (slots_of r) h

  pub found_held : is_held r n ≡ true → found r n ≡ some (slot_under r n)
  found_held e = rw e

  pub found_not : is_held r n ≡ false → found r n ≡ none
  found_not e = rw e

  -- and what a number finds says whether it is held, and where
  pub some_held : (s : List ℕ) → found r n ≡ some s → (is_held r n ≡ true) × (slot_under r n ≡ s)
  some_held s e =
      ⊎_elim
      (λ (t : is_held r n ≡ true). let f : some (slot_under r n) ≡ some s = sym (found_held t) ∙ e in (t, cc))
      (λ (t : is_held r n ≡ false). absurd (none_some (sym (found_not t) ∙ e)))
      (bool_cases (is_held r n))

  pub none_held : found r n ≡ none → is_held r n ≡ false
  none_held e = not_true_false _ (λ t. none_some (sym e ∙ found_held t))

-- the lowest free slot is free
pub free_facts : (r : List ℕ) → ltb (free_at r) (slots_of r) ≡ true → (free_at r < slots_of r) × (is_free (slot_at r (free_at r)) ≡ true)
unfolding free_at
free_facts r e =
    let l : free_at r < slots_of r = ltb-true _ _ e in
    (l, (first_facts (λ (i : ℕ). is_free (slot_at r i)) (slots_of r)).here l)

-- slot s is put in the place of slot i
module _ (r : List ℕ) (i : ℕ) (s : List ℕ) (long : length s ≡ 16896) (l : i < slots_of r) where
  abbrev left : List ℕ
  left = with_slot r i s

  count : slots_of left ≡ slots_of r
  count = slots_with r i s long

  -- every number that s holds is held by no other slot
  abbrev pub Room : Type 0
  Room = (m j : ℕ) → holds m s ≡ true → j < slots_of r → (j ≡ i → ⊥) → holds_at r m j ≡ false

  holds_here : (n : ℕ) → holds_at left n i ≡ holds n s
  holds_here n = ap (holds n) (slot_here r i s long l)

  holds_apart : (n j : ℕ) → j < slots_of r → (j ≡ i → ⊥) → holds_at left n j ≡ holds_at r n j
  holds_apart n j q d = ap (holds n) (slot_apart r i s long l j q d)

  pub sound_with : SoundFacts r → slot_right s ≡ true → Room → SoundFacts left
  sound_with f e room =
      record {
        some_slot = rw count f.some_slot;
        right = λ j q.
            let k : j < slots_of r = rw (sym count) q in
            ⊎_elim
            (λ (d : j ≡ i). rw (d, slot_here r i s long l) e)
            (λ d. rw (slot_apart r i s long l j k d) (f.right j k))
            (same_or_not j i);
        once = λ n a b x y g h. once_left n a b (rw count at x) (rw count at y) g h;
      }
    where
      once_left : (n a b : ℕ) → a < slots_of r → b < slots_of r → holds_at left n a ≡ true → holds_at left n b ≡ true → a ≡ b
      once_left n a b x y g h =
          ⊎_elim
          (λ (d : a ≡ i).
          ⊎_elim
          (λ (c : b ≡ i). d ∙ sym c)
          (λ c.
          absurd (true_not_false (sym (holds_apart n b y c) ∙ h) (room n b (sym (holds_here n) ∙ ap (holds_at left n) (sym d) ∙ g) y c)))
          (same_or_not b i))
          (λ d.
          ⊎_elim
          (λ (c : b ≡ i).
          absurd (true_not_false (sym (holds_apart n a x d) ∙ g) (room n a (sym (holds_here n) ∙ ap (holds_at left n) (sym c) ∙ h) x d)))
          (λ c. f.once n a b x y (sym (holds_apart n a x d) ∙ g) (sym (holds_apart n b y c) ∙ h))
          (same_or_not b i))
          (same_or_not a i)

  -- a number that s holds finds s
  pub find_here : Once left → (n : ℕ) → holds n s ≡ true → found left n ≡ some s
  find_here once n e =
      found_at left n once i (rw count l) (holds_here n ∙ e) ∙ ap some (slot_here r i s long l)

  -- a number that neither s holds nor the slot that was there finds what it found
  pub find_apart : Once r → Once left → (n : ℕ) → holds n s ≡ false → holds_at r n i ≡ false → found left n ≡ found r n
  find_apart before after n e f =
      ⊎_elim
      (λ (t : is_held r n ≡ true).
      let h = held_facts r n t in
      let j = held_at r n in
      let d : j ≡ i → ⊥ = λ c. true_not_false h.1 (ap (holds_at r n) c ∙ f) in
      found_at left n after j (rw count h.0) (holds_apart n j h.0 d ∙ h.1) ∙
      ap some (slot_apart r i s long l j h.0 d) ∙
      sym (found_held r n t))
      (λ (t : is_held r n ≡ false).
      let none = not_held r n t in
      found_none left n
      (λ j q.
      let k : j < slots_of r = rw count at q in
      ⊎_elim
      (λ (c : j ≡ i). ap (holds_at left n) c ∙ holds_here n ∙ e)
      (λ c. holds_apart n j k c ∙ none j k)
      (same_or_not j i)) ∙
      sym (found_none r n none))
      (bool_cases (is_held r n))

  -- a number that the slot that was there held, and s does not, finds nothing
  pub find_gone : Once r → (n : ℕ) → holds n s ≡ false → holds_at r n i ≡ true → found left n ≡ none
  find_gone before n e f =
      found_none left n
      (λ j q.
      let k : j < slots_of r = rw count at q in
      ⊎_elim
      (λ (c : j ≡ i). ap (holds_at left n) c ∙ holds_here n ∙ e)
      (λ c. holds_apart n j k c ∙ not_true_false _ (λ h. c (before n j i k l h f)))
      (same_or_not j i))
