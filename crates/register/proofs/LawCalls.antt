-- What each call that is not refused makes of a sound register: it is sound again, and each number finds what the call says.
-- Assumes nothing.
use Prim.Native.Nat.{ℕ, ◌<◌}
use mathlib.Core.Bool.{true, false, cond}
use mathlib.Core.List.{List, []}
use mathlib.Core.Logic.{⊎_elim}
use mathlib.Core.Option.{none, some}
use mathlib.Core.Path.{◌≡◌, refl, sym, ap, ◌∙◌}
use native.Mathlib.Omega.{arith}
use lib.Dec.{eqb, ltb}
use lib.ListN.{length}
use borrow.Author.Tests.{eqb-true, eqb-false, not-false}
use Rattle.below.proofs.Tests.{bool_cases, true_not_false, not_true_false}
use Rattle.block.proofs.Numbers.{AreBytes, number_fits}
use Rattle.plan.specs.Fields.{plan_number_of}
use Rattle.verdict.specs.Verdict.{verdict_of}
use Rattle.register.specs.Slots.{slots_of, slot_at, first_signer, slot_bytes, with_slot, holds_at, held_at, is_held, free_at, slot_under}
use Rattle.register.specs.Sound.{is_accepted, slot_right}
use Rattle.register.specs.Steps.{Call.clear, Call.submit, Call.sign, Call.drop, free_slot, signed_slot, changed}
use Rattle.register.proofs.LawBytes.{bytes_at}
use Rattle.register.proofs.LawDone.{Submitted, Signed, Dropped}
use Rattle.register.proofs.LawFind.{holds, holds_one, Once, SoundFacts, sound_facts, found, held_facts, not_held, found_none, free_facts, sound_with, find_here, find_apart, find_gone}
use Rattle.register.proofs.Own.{pair_right, accepted_whole, accepted_block, length_slot_bytes, held_back, plan_back, encoded_right, empty_whole, free_is_free, free_right}
use Rattle.register.proofs.Update.{slots_cleared, slot_cleared}

-- what an encoded slot holds
pub holds_encoded : (p : List ℕ) (a b : ℕ) → is_accepted (verdict_of p) ≡ true → (m : ℕ) → holds m (slot_bytes p a b) ≡ eqb (plan_number_of p) m
holds_encoded p a b e m = rw (held_back p a b (accepted_block p e), plan_back p a b (accepted_whole p e))

pub holds_free : (m : ℕ) → holds m free_slot ≡ false
holds_free m = rw free_is_free

pub length_free : length free_slot ≡ 16896
length_free = length_slot_bytes [] 0 0 empty_whole

-- slot i is the place for number n: it holds no other, and no other slot holds n
pub record Place (r : List ℕ) (n i : ℕ) : Type 0 where
  pub within : i < slots_of r
  pub mine : (m : ℕ) → holds_at r m i ≡ true → n ≡ m
  pub alone : (j : ℕ) → j < slots_of r → (j ≡ i → ⊥) → holds_at r n j ≡ false

module _ (r : List ℕ) (n : ℕ) where
  pub place_held : Once r → is_held r n ≡ true → Place r n (held_at r n)
  place_held once e =
      let h = held_facts r n e in
      record {
        within = h.0;
        mine = λ m f. holds_one n m (slot_at r (held_at r n)) h.1 f;
        alone = λ j l d. not_true_false _ (λ f. d (once n j (held_at r n) l h.0 f h.1));
      }

  pub place_free : is_held r n ≡ false → ltb (free_at r) (slots_of r) ≡ true → Place r n (free_at r)
  place_free e f =
      let h = free_facts r f in
      record {
        within = h.0;
        mine = λ m g. absurd (true_not_false g (rw h.1));
        alone = λ j l d. not_held r n e j l;
      }

-- a slot that holds n and nothing else, put in that place
module _ (r : List ℕ) (n i : ℕ) (s : List ℕ) (long : length s ≡ 16896) (f : SoundFacts r) (right : slot_right s ≡ true) (place : Place r n i) where
  module _ (only : (m : ℕ) → holds m s ≡ eqb n m) where
    pub put_sound : SoundFacts (with_slot r i s)
    put_sound =
        sound_with r i s long place.within f right
        (λ m j e l d. let q : n ≡ m = eqb-true _ _ (sym (only m) ∙ e) in rw q at (place.alone j l d))

    pub put_found : (m : ℕ) → found (with_slot r i s) m ≡ cond (eqb n m) (some s) (found r m)
    put_found m =
        ⊎_elim
        (λ (t : eqb n m ≡ true). rw t (find_here r i s long place.within put_sound.once m (only m ∙ t)))
        (λ (t : eqb n m ≡ false).
        rw t
        (find_apart r i s long place.within f.once put_sound.once m (only m ∙ t)
        (not_true_false _ (λ h. eqb-false _ _ t (place.mine m h)))))
        (bool_cases (eqb n m))

  -- one that holds nothing
  module _ (nothing : (m : ℕ) → holds m s ≡ false) (was : holds_at r n i ≡ true) where
    pub take_sound : SoundFacts (with_slot r i s)
    take_sound = sound_with r i s long place.within f right (λ m j e l d. absurd (true_not_false e (nothing m)))

    pub take_found : (m : ℕ) → found (with_slot r i s) m ≡ cond (eqb n m) none (found r m)
    take_found m =
        ⊎_elim
        (λ (t : eqb n m ≡ true).
        rw t (find_gone r i s long place.within f.once m (nothing m) (ap (λ (k : ℕ). holds_at r k i) (sym (eqb-true _ _ t)) ∙ was)))
        (λ (t : eqb n m ≡ false).
        rw t
        (find_apart r i s long place.within f.once take_sound.once m (nothing m)
        (not_true_false _ (λ h. eqb-false _ _ t (place.mine m h)))))
        (bool_cases (eqb n m))

-- clear, of any bytes that have a slot
module _ (r : List ℕ) where
  free_at_lem : (i : ℕ) → i < slots_of r → slot_at (changed r clear) i ≡ free_slot
  free_at_lem = slot_cleared r length_free

  none_at : (m i : ℕ) → i < slots_of (changed r clear) → holds_at (changed r clear) m i ≡ false
  none_at m i l = ap (holds m) (free_at_lem i (rw (slots_cleared r length_free) at l)) ∙ holds_free m

  pub clear_sound : 0 < slots_of r → SoundFacts (changed r clear)
  clear_sound l =
      record {
        some_slot = rw (slots_cleared r length_free) l;
        right = λ i q. rw (free_at_lem i (rw (slots_cleared r length_free) at q)) free_right;
        once = λ n i j a b e f. absurd (true_not_false e (none_at n i a));
      }

  pub clear_found : (m : ℕ) → found (changed r clear) m ≡ none
  clear_found m = found_none (changed r clear) m (none_at m)

-- submit
module _ (r p : List ℕ) (d : Submitted r p) where
  abbrev number : ℕ
  number = plan_number_of p

  facts_s : SoundFacts r
  facts_s = sound_facts r d.sound_was

  submit_place : Place r number (cond (is_held r number) (held_at r number) (free_at r))
  submit_place =
      ⊎_elim
      (λ (t : is_held r number ≡ true). rw t (place_held r number facts_s.once t))
      (λ (t : is_held r number ≡ false).
      rw t (place_free r number t (not-false _ (rw t at d.room))))
      (bool_cases (is_held r number))

  submit_long : length (slot_bytes p 0 0) ≡ 16896
  submit_long = length_slot_bytes p 0 0 (accepted_whole p d.accepted)

  submit_right : slot_right (slot_bytes p 0 0) ≡ true
  submit_right = encoded_right p 0 0 (omega arith) (omega arith) d.accepted refl

  pub submit_sound : SoundFacts (changed r (submit p))
  unfolding changed
  submit_sound =
      put_sound r number _ (slot_bytes p 0 0) submit_long facts_s submit_right submit_place (holds_encoded p 0 0 d.accepted)

  pub submit_found : (m : ℕ) → found (changed r (submit p)) m ≡ cond (eqb number m) (some (slot_bytes p 0 0)) (found r m)
  unfolding changed
  submit_found =
      put_found r number _ (slot_bytes p 0 0) submit_long facts_s submit_right submit_place (holds_encoded p 0 0 d.accepted)

-- sign
module _ (r : List ℕ) (signer : ℕ) (p : List ℕ) (d : Signed r signer p) (bytes : AreBytes r) (fits : signer < 4294967296) where
  abbrev signed_number : ℕ
  signed_number = plan_number_of p

  abbrev slot : List ℕ
  slot = slot_under r signed_number

  -- the signers who stand then
  abbrev pub first_then : ℕ
  first_then = cond (eqb (first_signer slot) 0) signer (first_signer slot)

  abbrev pub second_then : ℕ
  second_then = cond (eqb (first_signer slot) 0) 0 signer

  facts_g : SoundFacts r
  facts_g = sound_facts r d.sound_was

  pub signed_is : signed_slot slot signer p ≡ slot_bytes p first_then second_then
  signed_is =
      ⊎_elim
      (λ (t : eqb (first_signer slot) 0 ≡ true). rw t)
      (λ (t : eqb (first_signer slot) 0 ≡ false). rw t)
      (bool_cases (eqb (first_signer slot) 0))

  pub first_fits : first_then < 4294967296
  first_fits =
      ⊎_elim
      (λ (t : eqb (first_signer slot) 0 ≡ true). rw t fits)
      (λ (t : eqb (first_signer slot) 0 ≡ false). rw t (number_fits 4 slot 4 (bytes_at r (held_at r signed_number) bytes)))
      (bool_cases (eqb (first_signer slot) 0))

  pub second_fits : second_then < 4294967296
  second_fits =
      ⊎_elim
      (λ (t : eqb (first_signer slot) 0 ≡ true). rw t (omega arith))
      (λ (t : eqb (first_signer slot) 0 ≡ false). rw t fits)
      (bool_cases (eqb (first_signer slot) 0))

  pair_then : pair_right first_then second_then ≡ true
  pair_then =
      ⊎_elim
      (λ (t : eqb (first_signer slot) 0 ≡ true). rw t)
      (λ (t : eqb (first_signer slot) 0 ≡ false). rw (t, d.somebody, t, d.not_first))
      (bool_cases (eqb (first_signer slot) 0))

  abbrev new_slot : List ℕ
  new_slot = slot_bytes p first_then second_then

  sign_long : length new_slot ≡ 16896
  sign_long = length_slot_bytes p first_then second_then (accepted_whole p d.accepted)

  sign_right : slot_right new_slot ≡ true
  sign_right = encoded_right p first_then second_then first_fits second_fits d.accepted pair_then

  sign_place : Place r signed_number (held_at r signed_number)
  sign_place = place_held r signed_number facts_g.once d.held

  pub sign_changed : changed r (sign signer p) ≡ with_slot r (held_at r signed_number) new_slot
  unfolding changed
  sign_changed = rw signed_is

  pub sign_sound : SoundFacts (changed r (sign signer p))
  sign_sound =
      rw sign_changed
      (put_sound r signed_number _ new_slot sign_long facts_g sign_right sign_place (holds_encoded p first_then second_then d.accepted))

  pub sign_found : (m : ℕ) → found (changed r (sign signer p)) m ≡ cond (eqb signed_number m) (some new_slot) (found r m)
  sign_found m =
      rw sign_changed
      (put_found r signed_number _ new_slot sign_long facts_g sign_right sign_place (holds_encoded p first_then second_then d.accepted) m)

-- drop
module _ (r : List ℕ) (n : ℕ) (d : Dropped r n) where
  facts_d : SoundFacts r
  facts_d = sound_facts r d.sound_was

  pub drop_sound : SoundFacts (changed r (drop n))
  unfolding changed
  drop_sound =
      take_sound r n (held_at r n) free_slot length_free facts_d free_right (place_held r n facts_d.once d.held) holds_free (held_facts r n d.held).1

  pub drop_found : (m : ℕ) → found (changed r (drop n)) m ≡ cond (eqb n m) none (found r m)
  unfolding changed
  drop_found =
      take_found r n (held_at r n) free_slot length_free facts_d free_right (place_held r n facts_d.once d.held) holds_free (held_facts r n d.held).1
