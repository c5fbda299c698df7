-- P14 of document 01, for any two revisions of any plan and any signers: a new revision wipes the signer of the old one, so one
-- signature more does not release it. Assumes nothing.
use Prim.Native.Nat.{ℕ, ◌≤◌, ◌<◌}
use mathlib.Core.Bool.{true}
use mathlib.Core.List.{List, [], ◌∷◌}
use mathlib.Core.Logic.{⊎_elim}
use mathlib.Core.Option.{none, some}
use mathlib.Core.Path.{◌≡◌, refl, sym, ap, ◌∙◌}
use native.Mathlib.Omega.{arith}
use lib.Dec.{ltb}
use lib.ListN.{length}
use borrow.Author.Tests.{eqb-true, eq-eqb, ne_eqb, lt-ltb}
use Rattle.below.proofs.Search.{first_facts}
use Rattle.below.proofs.Tests.{true_not_false, le_or_lt}
use Rattle.block.proofs.Numbers.{AreBytes}
use Rattle.plan.specs.Fields.{plan_number_of, revision_of}
use Rattle.verdict.specs.Verdict.{verdict_of}
use Rattle.register.specs.Reached.{CanCall}
use Rattle.register.specs.Runs.{numbers_of}
use Rattle.register.specs.Slots.{slots_of, slot_at, first_signer, second_signer, is_free, plan_in, slot_bytes, free_at, slot_under}
use Rattle.register.specs.Sound.{is_accepted}
use Rattle.register.specs.Steps.{Call, Call.clear, Call.submit, Call.sign, Call.release, is_done, refused_by, changed, after, answered}
use Rattle.register.proofs.Kept.{after_done, after_sound, after_bytes, cleared_sound}
use Rattle.register.proofs.LawCalls.{length_free, clear_found, submit_found, sign_found}
use Rattle.register.proofs.LawDone.{submitted, signed, clear_done, submit_done, sign_done, release_few, same_refl}
use Rattle.register.proofs.LawFind.{found, some_held, none_held}
use Rattle.register.proofs.Own.{accepted_whole, plan_back, first_back, second_back, free_is_free}
use Rattle.register.proofs.Reached.{Good, answered_done}
use Rattle.register.proofs.Update.{slots_cleared, slot_cleared}

-- a call that is not refused answers 0
answers_zero : (r : List ℕ) (c : Call) → is_done (refused_by r c) ≡ true → (answered r c).refusal.number ≡ 0
answers_zero r c e = eqb-true _ _ (answered_done r c ∙ e)

-- and leaves a sound register of bytes
pub good_next : (r : List ℕ) (c : Call) → CanCall c → Good r → Good (after r c)
good_next r c can g =
    record { is_sound = after_sound r c g.bytes can g.is_sound; bytes = after_bytes r c g.bytes can }

-- a cleared register has a free slot
pub cleared_free : (r : List ℕ) → 0 < slots_of r → ltb (free_at (changed r clear)) (slots_of (changed r clear)) ≡ true
unfolding free_at
cleared_free r l =
    let t = changed r clear in
    let n = slots_cleared r length_free in
    let here : is_free (slot_at t 0) ≡ true = ap is_free (slot_cleared r length_free 0 l) ∙ free_is_free in
    lt-ltb (free_at t) (slots_of t)
    (⊎_elim
    (λ (h : free_at t ≤ 0). omega arith)
    (λ (h : 0 < free_at t). absurd (true_not_false here ((first_facts (λ (i : ℕ). is_free (slot_at t i)) (slots_of t)).before 0 h)))
    (le_or_lt (free_at t) 0))

-- the first plan under its number
module _ (r p : List ℕ) (g : Good r) (e : is_accepted (verdict_of p) ≡ true) where
  pub submit_new : found r (plan_number_of p) ≡ none → ltb (free_at r) (slots_of r) ≡ true → is_done (refused_by r (submit p)) ≡ true
  submit_new f room =
      let h = none_held r (plan_number_of p) f in
      submit_done r p (record { sound_was = g.is_sound; accepted = e; newer = rw h; room = rw (h, room) })

  -- a later one
  pub submit_later : (q : List ℕ) (a b : ℕ) → is_accepted (verdict_of q) ≡ true → found r (plan_number_of p) ≡ some (slot_bytes q a b) → revision_of q < revision_of p →
      is_done (refused_by r (submit p)) ≡ true
  submit_later q a b x f l =
      let h = some_held r (plan_number_of p) (slot_bytes q a b) f in
      let plan : plan_in (slot_under r (plan_number_of p)) ≡ q = ap plan_in h.1 ∙ plan_back q a b (accepted_whole q x) in
      submit_done r p (record { sound_was = g.is_sound; accepted = e; newer = rw (h.0, plan, lt-ltb _ _ l); room = rw h.0 })

  -- either way it stands there with no signer
  pub submit_stands : is_done (refused_by r (submit p)) ≡ true → found (after r (submit p)) (plan_number_of p) ≡ some (slot_bytes p 0 0)
  submit_stands d =
      let n = plan_number_of p in
      rw (after_done r (submit p) d) (submit_found r p (submitted r p d) n ∙ rw (eq-eqb n n refl))

  -- its first signer
  module _ (signer : ℕ) (somebody : signer ≡ 0 → ⊥) (fits : signer < 4294967296) (f : found r (plan_number_of p) ≡ some (slot_bytes p 0 0)) where
    pub sign_first : is_done (refused_by r (sign signer p)) ≡ true
    sign_first =
        let h = some_held r (plan_number_of p) (slot_bytes p 0 0) f in
        let plan : plan_in (slot_under r (plan_number_of p)) ≡ p = ap plan_in h.1 ∙ plan_back p 0 0 (accepted_whole p e) in
        let first : first_signer (slot_under r (plan_number_of p)) ≡ 0 = ap first_signer h.1 ∙ first_back p 0 0 (omega arith) in
        let second : second_signer (slot_under r (plan_number_of p)) ≡ 0 = ap second_signer h.1 ∙ second_back p 0 0 (omega arith) in
        sign_done r signer p
        (record {
          sound_was = g.is_sound;
          somebody = ne_eqb signer 0 somebody;
          accepted = e;
          held = h.0;
          seen = rw plan (same_refl p);
          no_second = eq-eqb _ _ second;
          not_first = rw first (ne_eqb 0 signer (λ z. somebody (sym z)));
        })

    pub sign_stands : found (after r (sign signer p)) (plan_number_of p) ≡ some (slot_bytes p signer 0)
    sign_stands =
        let n = plan_number_of p in
        let h = some_held r n (slot_bytes p 0 0) f in
        let first : first_signer (slot_under r n) ≡ 0 = ap first_signer h.1 ∙ first_back p 0 0 (omega arith) in
        rw (after_done r (sign signer p) sign_first)
        (sign_found r signer p (signed r signer p sign_first) g.bytes fits n ∙ rw (eq-eqb n n refl, first))

-- one signer does not release it
one_signer : (r : List ℕ) → Good r → (n a : ℕ) (p room : List ℕ) → found r n ≡ some (slot_bytes p a 0) → 16384 ≤ length room →
    (answered r (release n room)).refusal.number ≡ 38
unfolding answered
one_signer r g n a p room f l =
    let h = some_held r n (slot_bytes p a 0) f in
    let second : second_signer (slot_under r n) ≡ 0 = ap second_signer h.1 ∙ second_back p a 0 (omega arith) in
    rw (release_few r n room g.is_sound l h.0 (eq-eqb _ _ second))

-- calls in a row, the first of them not refused
pub zero_then : (r : List ℕ) (c : Call) (cs : List Call) {ns : List ℕ} → is_done (refused_by r c) ≡ true → numbers_of (after r c) cs ≡ ns → numbers_of r (c ∷ cs) ≡ 0 ∷ ns
unfolding numbers_of
zero_then r c cs e f = rw (answers_zero r c e, f)

pub number_last : (r : List ℕ) (c : Call) (k : ℕ) → (answered r c).refusal.number ≡ k → numbers_of r (c ∷ []) ≡ k ∷ []
unfolding numbers_of
number_last r c k e = rw e

module _ (p q : List ℕ) (p-bytes : AreBytes p) (q-bytes : AreBytes q) (p-accepted : is_accepted (verdict_of p) ≡ true) (q-accepted : is_accepted (verdict_of q) ≡ true)
    (same_number : plan_number_of q ≡ plan_number_of p) (later : revision_of p < revision_of q) (a b : ℕ)
    (a-somebody : a ≡ 0 → ⊥) (a-fits : a < 4294967296) (b-somebody : b ≡ 0 → ⊥) (b-fits : b < 4294967296) where
  -- "P14 submit revision 4, A signs, submit 5, B signs it, release: 38."
  pub P14 : (r : List ℕ) → AreBytes r → 16896 ≤ length r → (room : List ℕ) → 16384 ≤ length room →
      numbers_of r (clear ∷ submit p ∷ sign a p ∷ submit q ∷ sign b q ∷ release (plan_number_of p) room ∷ []) ≡ 0 ∷ 0 ∷ 0 ∷ 0 ∷ 0 ∷ 38 ∷ []
  P14 r bytes l room long =
      let n = plan_number_of p in
      let some_slot : 0 < slots_of r = omega arith in
      let d0 = clear_done r some_slot in
      let r1 = after r clear in
      let g1 : Good r1 = record { is_sound = cleared_sound r d0; bytes = after_bytes r clear bytes tt } in
      let f1 : found r1 n ≡ none = rw (after_done r clear d0) (clear_found r n) in
      let free : ltb (free_at r1) (slots_of r1) ≡ true = rw (after_done r clear d0) (cleared_free r some_slot) in
      let d1 = submit_new r1 p g1 p-accepted f1 free in
      let r2 = after r1 (submit p) in
      let g2 = good_next r1 (submit p) p-bytes g1 in
      let f2 = submit_stands r1 p g1 p-accepted d1 in
      let d2 = sign_first r2 p g2 p-accepted a a-somebody a-fits f2 in
      let r3 = after r2 (sign a p) in
      let g3 = good_next r2 (sign a p) a-fits g2 in
      let f3 : found r3 (plan_number_of q) ≡ some (slot_bytes p a 0) =
      rw same_number (sign_stands r2 p g2 p-accepted a a-somebody a-fits f2) in
      let d3 = submit_later r3 q g3 q-accepted p a 0 p-accepted f3 later in
      let r4 = after r3 (submit q) in
      let g4 = good_next r3 (submit q) q-bytes g3 in
      let f4 = submit_stands r3 q g3 q-accepted d3 in
      let d4 = sign_first r4 q g4 q-accepted b b-somebody b-fits f4 in
      let r5 = after r4 (sign b q) in
      let g5 = good_next r4 (sign b q) b-fits g4 in
      let f5 : found r5 n ≡ some (slot_bytes q b 0) =
      rw (← same_number) (sign_stands r4 q g4 q-accepted b b-somebody b-fits f4) in
      zero_then r clear _ d0
      (zero_then r1 (submit p) _ d1
      (zero_then r2 (sign a p) _ d2
      (zero_then r3 (submit q) _ d3
      (zero_then r4 (sign b q) _ d4 (number_last r5 (release n room) 38 (one_signer r5 g5 n b q room f5 long))))))
