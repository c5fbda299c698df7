-- What each call leaves is sound again, and bytes again; and a clear that is not refused leaves a sound register of any bytes.
-- Assumes nothing.
use Prim.Native.Nat.{ℕ}
use mathlib.Core.Bool.{true, false}
use mathlib.Core.List.{List}
use mathlib.Core.Logic.{⊎_elim}
use mathlib.Core.Path.{◌≡◌, sym, ◌∙◌}
use native.Mathlib.Omega.{arith}
use Rattle.below.proofs.Tests.{bool_cases}
use Rattle.block.proofs.Numbers.{AreBytes}
use Rattle.plan.specs.Fields.{plan_number_of}
use Rattle.register.specs.Reached.{CanCall}
use Rattle.register.specs.Slots.{slot_under, held_at, slot_bytes}
use Rattle.register.specs.Sound.{sound}
use Rattle.refusal.specs.declared.Refusal.{Refusal}
use Rattle.std.specs.Prelude.{Result}
use Rattle.register.specs.Steps.{Call, Call.clear, Call.submit, Call.sign, Call.release, Call.drop, Call.state, Answered, is_done, refused_by, free_slot, changed, after, Called}
use Rattle.register.proofs.LawBytes.{bytes_slot, bytes_with, bytes_at, bytes_plan, bytes_cleared}
use Rattle.register.proofs.LawCalls.{clear_sound, submit_sound, sign_changed, sign_sound, drop_sound}
use Rattle.register.proofs.LawDone.{submitted, signed, dropped, cleared, same_eq}
use Rattle.register.proofs.LawFind.{SoundFacts, sound_facts, facts_sound}
use Rattle.register.proofs.Own.{accepted_whole, empty_whole}

module _ (r : List ℕ) (c : Call) where
  pub after_done : is_done (refused_by r c) ≡ true → after r c ≡ changed r c
  unfolding after
  after_done e = rw e

  pub after_refused : is_done (refused_by r c) ≡ false → after r c ≡ r
  unfolding after
  after_refused e = rw e

-- a call's contract allows one answer and one register alone
pub called_once : {X : Type 0} {give : Answered → X} {r : List ℕ} {c : Call} {a b : Result X Refusal} {s t : List ℕ} → Called r c give a s → Called r c give b t → (a ≡ b) × (s ≡ t)
called_once x y = (x.answer ∙ sym y.answer, x.bytes ∙ sym y.bytes)

-- a call that is not refused
pub changed_sound : (r : List ℕ) (c : Call) → AreBytes r → CanCall c → sound r ≡ true → is_done (refused_by r c) ≡ true → SoundFacts (changed r c)
changed_sound r clear bytes can was e = clear_sound r (cleared r e)
changed_sound r (submit p) bytes can was e = submit_sound r p (submitted r p e)
changed_sound r (sign signer p) bytes can was e = sign_sound r signer p (signed r signer p e) bytes can
changed_sound r (release n room) bytes can was e = unfold changed in sound_facts r was
changed_sound r (drop n) bytes can was e = drop_sound r n (dropped r n e)
changed_sound r (state n) bytes can was e = unfold changed in sound_facts r was

-- any call
pub after_sound : (r : List ℕ) (c : Call) → AreBytes r → CanCall c → sound r ≡ true → sound (after r c) ≡ true
after_sound r c bytes can was =
    ⊎_elim
    (λ (e : is_done (refused_by r c) ≡ true). rw (after_done r c e) (facts_sound (changed r c) (changed_sound r c bytes can was e)))
    (λ (e : is_done (refused_by r c) ≡ false). rw (after_refused r c e) was)
    (bool_cases (is_done (refused_by r c)))

-- "Clear: frees every slot; only 30 if shorter than one slot."
pub cleared_sound : (r : List ℕ) → is_done (refused_by r clear) ≡ true → sound (after r clear) ≡ true
cleared_sound r e = rw (after_done r clear e) (facts_sound (changed r clear) (clear_sound r (cleared r e)))

-- bytes stay bytes
changed_bytes : (r : List ℕ) (c : Call) → AreBytes r → CanCall c → is_done (refused_by r c) ≡ true → AreBytes (changed r c)
changed_bytes r clear bytes can e = bytes_cleared r bytes
changed_bytes r (submit p) bytes can e =
    unfold changed in bytes_with r _ (slot_bytes p 0 0) bytes (bytes_slot p 0 0 (accepted_whole p (submitted r p e).accepted) can)
changed_bytes r (sign signer p) bytes can e =
    let d = signed r signer p e in
    let n = plan_number_of p in
    let plan : AreBytes p = rw (same_eq p _ d.seen) (bytes_plan (slot_under r n) (bytes_at r (held_at r n) bytes)) in
    rw (sign_changed r signer p d bytes can)
    (bytes_with r (held_at r n) _ bytes (bytes_slot p _ _ (accepted_whole p d.accepted) plan))
changed_bytes r (release n room) bytes can e = unfold changed in bytes
changed_bytes r (drop n) bytes can e =
    unfold changed in bytes_with r _ free_slot bytes (bytes_slot _ 0 0 empty_whole (λ i. omega arith))
changed_bytes r (state n) bytes can e = unfold changed in bytes

pub after_bytes : (r : List ℕ) (c : Call) → AreBytes r → CanCall c → AreBytes (after r c)
after_bytes r c bytes can =
    ⊎_elim
    (λ (e : is_done (refused_by r c) ≡ true). rw (after_done r c e) (changed_bytes r c bytes can e))
    (λ (e : is_done (refused_by r c) ≡ false). rw (after_refused r c e) bytes)
    (bool_cases (is_done (refused_by r c)))
