-- Two signers release a plan: from a clear, one plan, and two who sign it. Assumes nothing.
use Prim.Native.Nat.{ℕ, ◌≤◌, ◌<◌}
use mathlib.Core.Bool.{true}
use mathlib.Core.List.{List, [], ◌∷◌}
use mathlib.Core.Option.{none, some}
use mathlib.Core.Path.{◌≡◌, refl, ap, ◌∙◌}
use native.Mathlib.Omega.{arith}
use lib.Dec.{ltb}
use lib.ListN.{length}
use borrow.Author.Tests.{eqb-true, eq-eqb, ne_eqb}
use Rattle.block.proofs.Numbers.{AreBytes}
use Rattle.plan.specs.Fields.{plan_number_of}
use Rattle.register.proofs.Kept.{after_done, after_bytes, cleared_sound}
use Rattle.register.proofs.LawCalls.{clear_found, sign_found}
use Rattle.register.proofs.LawDone.{signed, clear_done, sign_done, release_done, same_refl}
use Rattle.register.proofs.LawFind.{found, some_held}
use Rattle.register.proofs.LawRevision.{good_next, cleared_free, submit_new, submit_stands, sign_first, sign_stands, zero_then, number_last}
use Rattle.register.proofs.Own.{accepted_whole, plan_back, first_back, second_back}
use Rattle.register.proofs.Reached.{Good, answered_done, release_gives}
use Rattle.register.specs.History.{is_ok}
use Rattle.register.specs.Promise.{given_by}
use Rattle.register.specs.Reached.{seen}
use Rattle.register.specs.Runs.{numbers_of}
use Rattle.register.specs.Slots.{slots_of, first_signer, second_signer, plan_in, slot_bytes, free_at, slot_under}
use Rattle.register.specs.Sound.{is_accepted}
use Rattle.register.specs.Steps.{Call.clear, Call.submit, Call.sign, Call.release, is_done, refused_by, after}
use Rattle.verdict.specs.Verdict.{verdict_of}

-- the second signer of a plan that stands with its first
module _ (r p : List ℕ) (g : Good r) (e : is_accepted (verdict_of p) ≡ true) (a b : ℕ)
    (a-somebody : a ≡ 0 → ⊥) (a-fits : a < 4294967296) (b-somebody : b ≡ 0 → ⊥) (b-fits : b < 4294967296) (different : a ≡ b → ⊥)
    (f : found r (plan_number_of p) ≡ some (slot_bytes p a 0)) where
  sign_second : is_done (refused_by r (sign b p)) ≡ true
  sign_second =
      let h = some_held r (plan_number_of p) (slot_bytes p a 0) f in
      let plan : plan_in (slot_under r (plan_number_of p)) ≡ p = ap plan_in h.1 ∙ plan_back p a 0 (accepted_whole p e) in
      let first : first_signer (slot_under r (plan_number_of p)) ≡ a = ap first_signer h.1 ∙ first_back p a 0 a-fits in
      let second : second_signer (slot_under r (plan_number_of p)) ≡ 0 = ap second_signer h.1 ∙ second_back p a 0 (omega arith) in
      sign_done r b p
      (record {
        sound_was = g.is_sound;
        somebody = ne_eqb b 0 b-somebody;
        accepted = e;
        held = h.0;
        seen = rw plan (same_refl p);
        no_second = eq-eqb _ _ second;
        not_first = rw first (ne_eqb a b different);
      })

  second_stands : found (after r (sign b p)) (plan_number_of p) ≡ some (slot_bytes p a b)
  second_stands =
      let n = plan_number_of p in
      let h = some_held r n (slot_bytes p a 0) f in
      let first : first_signer (slot_under r n) ≡ a = ap first_signer h.1 ∙ first_back p a 0 a-fits in
      rw (after_done r (sign b p) sign_second)
      (sign_found r b p (signed r b p sign_second) g.bytes b-fits n ∙ rw (eq-eqb n n refl, first, ne_eqb a 0 a-somebody))

-- a release of a plan that two have signed
module _ (r p : List ℕ) (g : Good r) (e : is_accepted (verdict_of p) ≡ true) (n a b : ℕ) (b-somebody : b ≡ 0 → ⊥) (b-fits : b < 4294967296)
    (room : List ℕ) (long : 16384 ≤ length room) (f : found r n ≡ some (slot_bytes p a b)) where
  release_two : is_done (refused_by r (release n room)) ≡ true
  release_two =
      let h = some_held r n (slot_bytes p a b) f in
      let second : second_signer (slot_under r n) ≡ b = ap second_signer h.1 ∙ second_back p a b b-fits in
      release_done r n room (record { sound_was = g.is_sound; long = long; held = h.0; second = rw second (ne_eqb b 0 b-somebody) })

  gives_it : given_by r n room ≡ p
  gives_it =
      let h = some_held r n (slot_bytes p a b) f in
      release_gives r n room release_two ∙ ap plan_in h.1 ∙ plan_back p a b (accepted_whole p e)

module _ (p : List ℕ) (p-bytes : AreBytes p) (e : is_accepted (verdict_of p) ≡ true) (a b : ℕ)
    (a-somebody : a ≡ 0 → ⊥) (a-fits : a < 4294967296) (b-somebody : b ≡ 0 → ⊥) (b-fits : b < 4294967296) (different : a ≡ b → ⊥)
    (r : List ℕ) (bytes : AreBytes r) (l : 16896 ≤ length r) (room : List ℕ) (long : 16384 ≤ length room) where
  abbrev pub r1 : List ℕ
  r1 = after r clear

  abbrev pub r2 : List ℕ
  r2 = after r1 (submit p)

  abbrev pub r3 : List ℕ
  r3 = after r2 (sign a p)

  abbrev pub r4 : List ℕ
  r4 = after r3 (sign b p)

  pub record Way : Type 0 where
    pub d0 : is_done (refused_by r clear) ≡ true
    pub d1 : is_done (refused_by r1 (submit p)) ≡ true
    pub d2 : is_done (refused_by r2 (sign a p)) ≡ true
    pub d3 : is_done (refused_by r3 (sign b p)) ≡ true
    pub f2 : found r2 (plan_number_of p) ≡ some (slot_bytes p 0 0)
    pub f3 : found r3 (plan_number_of p) ≡ some (slot_bytes p a 0)
    pub g2 : Good r2
    pub g3 : Good r3
    pub g4 : Good r4
    pub f4 : found r4 (plan_number_of p) ≡ some (slot_bytes p a b)

  pub way : Way
  way =
      let n = plan_number_of p in
      let some_slot : 0 < slots_of r = omega arith in
      let d0 = clear_done r some_slot in
      let g1 : Good r1 = record { is_sound = cleared_sound r d0; bytes = after_bytes r clear bytes tt } in
      let f1 : found r1 n ≡ none = rw (after_done r clear d0) (clear_found r n) in
      let free : ltb (free_at r1) (slots_of r1) ≡ true = rw (after_done r clear d0) (cleared_free r some_slot) in
      let d1 = submit_new r1 p g1 e f1 free in
      let g2 = good_next r1 (submit p) p-bytes g1 in
      let f2 = submit_stands r1 p g1 e d1 in
      let d2 = sign_first r2 p g2 e a a-somebody a-fits f2 in
      let g3 = good_next r2 (sign a p) a-fits g2 in
      let f3 = sign_stands r2 p g2 e a a-somebody a-fits f2 in
      let d3 = sign_second r3 p g3 e a b a-somebody a-fits b-somebody b-fits different f3 in
      record {
        d0 = d0;
        d1 = d1;
        d2 = d2;
        d3 = d3;
        f2 = f2;
        f3 = f3;
        g2 = g2;
        g3 = g3;
        g4 = good_next r3 (sign b p) b-fits g3;
        f4 = second_stands r3 p g3 e a b a-somebody a-fits b-somebody b-fits different f3;
      }

  -- the release is not refused
  not_refused : is_done (refused_by r4 (release (plan_number_of p) room)) ≡ true
  not_refused = let w = way in release_two r4 p w.g4 e (plan_number_of p) a b b-somebody b-fits room long w.f4

  pub released_ok : is_ok (seen r4 (release (plan_number_of p) room)) ≡ true
  released_ok = answered_done r4 (release (plan_number_of p) room) ∙ not_refused

  -- all calls answer 0
  pub released_numbers : numbers_of r (clear ∷ submit p ∷ sign a p ∷ sign b p ∷ release (plan_number_of p) room ∷ []) ≡ 0 ∷ 0 ∷ 0 ∷ 0 ∷ 0 ∷ []
  released_numbers =
      let w = way in
      zero_then r clear _ w.d0
      (zero_then r1 (submit p) _ w.d1
      (zero_then r2 (sign a p) _ w.d2
      (zero_then r3 (sign b p) _ w.d3
      (number_last r4 (release (plan_number_of p) room) 0 (eqb-true _ _ released_ok)))))

  -- and the last gives the plan
  pub released_plan : given_by r4 (plan_number_of p) room ≡ p
  released_plan = let w = way in gives_it r4 p w.g4 e (plan_number_of p) a b b-somebody b-fits room long w.f4
