-- The register of slots keeps the laws of History: under each number it finds the plan and the signers that the calls say.
-- Assumes nothing.
use Prim.Native.Nat.{ℕ, ◌≤◌, ◌<◌}
use mathlib.Core.Bool.{Bool, true, false, cond, not, ◌&&◌}
use mathlib.Core.List.Memᴰ
use mathlib.Core.List.{List, [], ◌∷◌, Memᴰ}
use mathlib.Core.Logic.{⊎_elim}
use mathlib.Core.Option.{Option, none, some}
use mathlib.Core.Path.{◌≡◌, refl, sym, ap, ◌∙◌}
use native.Mathlib.Omega.{arith}
use lib.Dec.{eqb}
use lib.ListN.{length, drop as from}
use lib.Seq.{take-append_seam}
use borrow.Author.Tests.{eqb-true, eqb-false, not-true}
use Rattle.below.proofs.Tests.{bool_cases, true_not_false, and_both, or_either}
use Rattle.block.proofs.Numbers.{AreBytes}
use Rattle.plan.specs.Fields.{plan_number_of}
use Rattle.register.specs.History.{Signature, accepted_with, signed_with}
use Rattle.register.specs.Promise.{given_by}
use Rattle.register.specs.Reached.{IsBytes, CanCall}
use Rattle.register.specs.Slots.{first_signer, second_signer, plan_in, slot_bytes, held_at, is_held, slot_under, plan_under}
use Rattle.register.specs.Sound.{sound}
use Rattle.register.specs.Steps.{Call, Call.clear, Call.submit, Call.sign, Call.release, Call.drop, Call.state, is_done, refused_by, changed, after, given, answered, room_after}
use Rattle.register.proofs.AnyRegister.{slot_calls}
use Rattle.register.proofs.History.{TwoSigned, Laws}
use Rattle.register.proofs.Kept.{after_done, after_refused, after_sound, after_bytes, cleared_sound}
use Rattle.register.proofs.LawCalls.{clear_found, submit_found, sign_found, drop_found, first_then, second_then, first_fits, second_fits}
use Rattle.register.proofs.LawDone.{Signed, submitted, signed, Released, released, release_done, dropped, same_eq}
use Rattle.register.proofs.LawFind.{found, found_held, found_not, none_some, held_facts, sound_facts}
use Rattle.register.proofs.Own.{accepted_whole, plan_back, first_back, second_back, right_facts}

-- what stands in a slot that a number finds
abbrev pub plan_of : Option (List ℕ) → Option (List ℕ)
plan_of none = none
plan_of (some s) = some (plan_in s)

abbrev pub signatures_in : List ℕ → List Signature
signatures_in s =
    cond (eqb (first_signer s) 0) []
    (cond (eqb (second_signer s) 0) (record { signer = first_signer s; plan = plan_in s } ∷ [])
    (record { signer = second_signer s; plan = plan_in s } ∷ record { signer = first_signer s; plan = plan_in s } ∷ []))

abbrev pub signatures_of : Option (List ℕ) → List Signature
signatures_of none = []
signatures_of (some s) = signatures_in s

-- a slot without signers
pub unsigned_slot : (p : List ℕ) → signatures_in (slot_bytes p 0 0) ≡ []
unsigned_slot p = rw (first_back p 0 0 (omega arith))

-- a call answers 0 exactly when it is not refused
given_done : (r : List ℕ) (c : Call) → is_done (given r c).refusal ≡ true
unfolding given
given_done r clear = refl
given_done r (submit p) = refl
given_done r (sign signer p) = refl
given_done r (release n room) = refl
given_done r (drop n) = refl
given_done r (state n) = refl

pub answered_done : (r : List ℕ) (c : Call) → is_done (answered r c).refusal ≡ is_done (refused_by r c)
unfolding answered
answered_done r c =
    ⊎_elim
    (λ (t : is_done (refused_by r c) ≡ true). rw t (given_done r c))
    (λ (t : is_done (refused_by r c) ≡ false). rw (t, t))
    (bool_cases (is_done (refused_by r c)))

-- a refused call says nothing
not_accepted : (n : ℕ) (c : Call) (x : Option (List ℕ)) → accepted_with n c false x ≡ x
not_accepted n clear x = refl
not_accepted n (submit p) x = refl
not_accepted n (sign signer p) x = refl
not_accepted n (release m room) x = refl
not_accepted n (drop m) x = refl
not_accepted n (state m) x = refl

not_signed : (n : ℕ) (c : Call) (x : List Signature) → signed_with n c false x ≡ x
not_signed n clear x = refl
not_signed n (submit p) x = refl
not_signed n (sign signer p) x = refl
not_signed n (release m room) x = refl
not_signed n (drop m) x = refl
not_signed n (state m) x = refl

-- the slot with a signer more
module _ (r : List ℕ) (signer : ℕ) (p : List ℕ) (d : Signed r signer p) (bytes : AreBytes r) (fits : signer < 4294967296) where
  abbrev slot : List ℕ
  slot = slot_under r (plan_number_of p)

  abbrev a : ℕ
  a = first_then r signer p d bytes fits

  abbrev b : ℕ
  b = second_then r signer p d bytes fits

  seen_plan : p ≡ plan_in slot
  seen_plan = same_eq p (plan_in slot) d.seen

  plan_then : plan_in (slot_bytes p a b) ≡ p
  plan_then = plan_back p a b (accepted_whole p d.accepted)

  signed_plan_lem : plan_of (some (slot_bytes p a b)) ≡ plan_of (found r (plan_number_of p))
  signed_plan_lem = rw (found_held r (plan_number_of p) d.held) (ap some (plan_then ∙ seen_plan))

  signed_more : signatures_in (slot_bytes p a b) ≡ record { signer = signer; plan = p } ∷ signatures_of (found r (plan_number_of p))
  signed_more =
      rw (found_held r (plan_number_of p) d.held, first_back p a b (first_fits r signer p d bytes fits), second_back p a b (second_fits r signer p d bytes fits), plan_then, ← seen_plan)
      (⊎_elim
      (λ (t : eqb (first_signer slot) 0 ≡ true). simp (t, d.somebody))
      (λ (t : eqb (first_signer slot) 0 ≡ false). simp (t, d.somebody, d.no_second))
      (bool_cases (eqb (first_signer slot) 0)))

-- what a number that finds another slot, or none, stands for then
plan_put : (t : Bool) (s p : List ℕ) (x : Option (List ℕ)) → plan_in s ≡ p → plan_of (cond t (some s) x) ≡ cond t (some p) (plan_of x)
plan_put true s p x e = ap some e
plan_put false s p x e = refl

plan_stays : (t : Bool) (s : List ℕ) (x : Option (List ℕ)) → (t ≡ true → some (plan_in s) ≡ plan_of x) → plan_of (cond t (some s) x) ≡ plan_of x
plan_stays true s x e = e refl
plan_stays false s x e = refl

plan_gone : (t : Bool) (x : Option (List ℕ)) → plan_of (cond t none x) ≡ cond t none (plan_of x)
plan_gone true x = refl
plan_gone false x = refl

signed_put : (t : Bool) (s : List ℕ) (x : Option (List ℕ)) → signatures_in s ≡ [] → signatures_of (cond t (some s) x) ≡ cond t [] (signatures_of x)
signed_put true s x e = e
signed_put false s x e = refl

signed_grows : (t : Bool) (s : List ℕ) (g : Signature) (x : Option (List ℕ)) → (t ≡ true → signatures_in s ≡ g ∷ signatures_of x) →
    signatures_of (cond t (some s) x) ≡ cond t (g ∷ signatures_of x) (signatures_of x)
signed_grows true s g x e = e refl
signed_grows false s g x e = refl

signed_gone : (t : Bool) (x : Option (List ℕ)) → signatures_of (cond t none x) ≡ cond t [] (signatures_of x)
signed_gone true x = refl
signed_gone false x = refl

-- what a number stands for after a call that is not refused
module _ (r : List ℕ) (bytes : AreBytes r) (n : ℕ) where
  plan_changed : (c : Call) → CanCall c → is_done (refused_by r c) ≡ true → plan_of (found (changed r c) n) ≡ accepted_with n c true (plan_of (found r n))
  plan_changed clear can e = ap plan_of (clear_found r n)
  plan_changed (submit p) can e =
      let d = submitted r p e in
      ap plan_of (submit_found r p d n) ∙
      plan_put (eqb (plan_number_of p) n) (slot_bytes p 0 0) p (found r n) (plan_back p 0 0 (accepted_whole p d.accepted))
  plan_changed (sign signer p) can e =
      let d = signed r signer p e in
      ap plan_of (sign_found r signer p d bytes can n) ∙
      plan_stays (eqb (plan_number_of p) n) _ (found r n)
      (λ t. signed_plan_lem r signer p d bytes can ∙ ap (λ (m : ℕ). plan_of (found r m)) (eqb-true (plan_number_of p) n t))
  plan_changed (release m room) can e = unfold changed in refl
  plan_changed (drop m) can e = ap plan_of (drop_found r m (dropped r m e) n) ∙ plan_gone (eqb m n) (found r n)
  plan_changed (state m) can e = unfold changed in refl

  signed_changed : (c : Call) → CanCall c → is_done (refused_by r c) ≡ true → signatures_of (found (changed r c) n) ≡ signed_with n c true (signatures_of (found r n))
  signed_changed clear can e = ap signatures_of (clear_found r n)
  signed_changed (submit p) can e =
      ap signatures_of (submit_found r p (submitted r p e) n) ∙
      signed_put (eqb (plan_number_of p) n) (slot_bytes p 0 0) (found r n) (unsigned_slot p)
  signed_changed (sign signer p) can e =
      let d = signed r signer p e in
      let g : Signature = record { signer = signer; plan = p } in
      ap signatures_of (sign_found r signer p d bytes can n) ∙
      signed_grows (eqb (plan_number_of p) n) _ g (found r n)
      (λ t. signed_more r signer p d bytes can ∙ ap (λ (m : ℕ). g ∷ signatures_of (found r m)) (eqb-true (plan_number_of p) n t))
  signed_changed (release m room) can e = unfold changed in refl
  signed_changed (drop m) can e = ap signatures_of (drop_found r m (dropped r m e) n) ∙ signed_gone (eqb m n) (found r n)
  signed_changed (state m) can e = unfold changed in refl

  -- and after any call
  pub plan_next : (c : Call) → CanCall c → plan_of (found (after r c) n) ≡ accepted_with n c (is_done (answered r c).refusal) (plan_of (found r n))
  plan_next c can =
      rw (answered_done r c)
      (⊎_elim
      (λ (t : is_done (refused_by r c) ≡ true). rw (after_done r c t, t) (plan_changed c can t))
      (λ (t : is_done (refused_by r c) ≡ false). rw (after_refused r c t, t) (sym (not_accepted n c (plan_of (found r n)))))
      (bool_cases (is_done (refused_by r c))))

  pub signed_next : (c : Call) → CanCall c → signatures_of (found (after r c) n) ≡ signed_with n c (is_done (answered r c).refusal) (signatures_of (found r n))
  signed_next c can =
      rw (answered_done r c)
      (⊎_elim
      (λ (t : is_done (refused_by r c) ≡ true). rw (after_done r c t, t) (signed_changed c can t))
      (λ (t : is_done (refused_by r c) ≡ false). rw (after_refused r c t, t) (sym (not_signed n c (signatures_of (found r n)))))
      (bool_cases (is_done (refused_by r c))))

-- what a release gives
module _ (r : List ℕ) (n : ℕ) (room : List ℕ) where
  pub release_gives : is_done (refused_by r (release n room)) ≡ true → given_by r n room ≡ plan_under r n
  unfolding answered given room_after
  release_gives e = rw e (take-append_seam (plan_under r n) (from (length (plan_under r n)) room))

  -- two signers stand in the slot, and they are different
  pub release_two : Released r n room → TwoSigned (plan_under r n) (signatures_of (found r n))
  release_two d =
      let s = slot_under r n in
      let h = held_facts r n d.held in
      let f = right_facts s ((sound_facts r d.sound_was).right (held_at r n) h.0) in
      let e : (not (eqb (first_signer s) 0) && not (eqb (first_signer s) (second_signer s))) ≡ true =
      ⊎_elim
      (λ (t : eqb (second_signer s) 0 ≡ true). absurd (true_not_false t d.second))
      (λ (t : (not (eqb (first_signer s) 0) && not (eqb (first_signer s) (second_signer s))) ≡ true). t)
      (or_either (eqb (second_signer s) 0) _ f.signers) in
      let b = and_both (not (eqb (first_signer s) 0)) _ e in
      let both : signatures_of (found r n) ≡ record { signer = second_signer s; plan = plan_in s } ∷ record { signer = first_signer s; plan = plan_in s } ∷ [] =
      rw (found_held r n d.held, not-true (eqb (first_signer s) 0) b.0, d.second) in
      record {
        one = first_signer s;
        two = second_signer s;
        different = eqb-false _ _ (not-true _ b.1);
        one_signed = rw both (Memᴰ.tail (Memᴰ.head refl));
        two_signed = rw both (Memᴰ.head refl);
      }

  -- a number that stands for a plan finds its slot
  pub plan_found : (p : List ℕ) → plan_of (found r n) ≡ some p → (is_held r n ≡ true) × (plan_under r n ≡ p)
  plan_found p e =
      ⊎_elim
      (λ (t : is_held r n ≡ true). let f : some (plan_under r n) ≡ some p = sym (ap plan_of (found_held r n t)) ∙ e in (t, cc))
      (λ (t : is_held r n ≡ false). absurd (none_some (sym (ap plan_of (found_not r n t)) ∙ e)))
      (bool_cases (is_held r n))

-- two different signers leave no room for a second signer of 0
one_alone : (a b : ℕ) (p : List ℕ) (g : Signature) → Memᴰ (record { signer = a; plan = p }) (g ∷ []) → Memᴰ (record { signer = b; plan = p }) (g ∷ []) → a ≡ b
one_alone a b p g x y =
    let e : record { signer = a; plan = p } ≡ g = Memᴰ.eq_of_singleton x in
    let f : record { signer = b; plan = p } ≡ g = Memᴰ.eq_of_singleton y in
    ap (λ (g : Signature). g.signer) (e ∙ sym f)

second_stands : (s p : List ℕ) → TwoSigned p (signatures_in s) → eqb (second_signer s) 0 ≡ false
second_stands s p t =
    ⊎_elim
    (λ (e : eqb (second_signer s) 0 ≡ true).
    absurd
    (⊎_elim
    (λ (f : eqb (first_signer s) 0 ≡ true). Memᴰ.not-nil (rw f at t.one_signed))
    (λ (f : eqb (first_signer s) 0 ≡ false).
    t.different (one_alone t.one t.two p _ (rw (f, e) at t.one_signed) (rw (f, e) at t.two_signed)))
    (bool_cases (eqb (first_signer s) 0))))
    (λ e. e)
    (bool_cases (eqb (second_signer s) 0))

module _ (r : List ℕ) (is_sound : sound r ≡ true) (n : ℕ) (room p : List ℕ) where
  pub two_release : plan_of (found r n) ≡ some p → TwoSigned p (signatures_of (found r n)) → 16384 ≤ length room → is_done (refused_by r (release n room)) ≡ true
  two_release e t l =
      let h = plan_found r n room p e in
      let two : TwoSigned p (signatures_in (slot_under r n)) = rw (found_held r n h.0) at t in
      release_done r n room
      (record { sound_was = is_sound; long = l; held = h.0; second = second_stands (slot_under r n) p two })

-- what is kept from call to call: the register is sound, and bytes
pub record Good (r : List ℕ) : Type 0 where
  pub is_sound : sound r ≡ true
  pub bytes : AreBytes r

unfoldable pub slot_laws : Laws slot_calls IsBytes CanCall
slot_laws =
    record {
      good = Good;
      plan_under = λ r n. plan_of (found r n);
      signed_under = λ r n. signatures_of (found r n);
      good_cleared = λ r b e. record { is_sound = cleared_sound r (sym (answered_done r clear) ∙ e); bytes = after_bytes r clear b tt };
      plan_cleared = λ r b e n.
          rw (after_done r clear (sym (answered_done r clear) ∙ e)) (ap plan_of (clear_found r n));
      signed_cleared = λ r b e n.
          rw (after_done r clear (sym (answered_done r clear) ∙ e)) (ap signatures_of (clear_found r n));
      good_after = λ r g c can.
          record { is_sound = after_sound r c g.bytes can g.is_sound; bytes = after_bytes r c g.bytes can };
      plan_after = λ r g c can n. plan_next r g.bytes n c can;
      signed_after = λ r g c can n. signed_next r g.bytes n c can;
      released_plan = λ r g n room e.
          let d = sym (answered_done r (release n room)) ∙ e in
          ap plan_of (found_held r n (released r n room d).held) ∙ ap some (sym (release_gives r n room d));
      released_two = λ r g n room e.
          let d = sym (answered_done r (release n room)) ∙ e in
          rw (release_gives r n room d) (release_two r n room (released r n room d));
      releases = λ r g n room p e t l.
          let d = two_release r g.is_sound n room p e t l in
          (answered_done r (release n room) ∙ d, release_gives r n room d ∙ (plan_found r n room p e).1);
    }
