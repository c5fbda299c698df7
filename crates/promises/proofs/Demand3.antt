-- A term of demand 3. Assumes nothing.
use Rattle.refusal.specs.Refusals.{refusal_in}
use Rattle.std.specs.Prelude.{Err, Ok}
use Prim.Native.Nat.{ℕ, ◌+◌, ◌-◌, ◌%◌, ◌≤◌, ◌<◌}
use mathlib.Core.Bool.{Bool, true, false, not, ◌||◌}
use mathlib.Core.List.{List}
use mathlib.Core.Logic.{⊎_elim}
use mathlib.Core.Path.{◌≡◌, refl}
use native.Mathlib.Omega.{arith}
use lib.Dec.{eqb, ltb}
use lib.ListN.{length, take, drop}
use lib.Seq.{take_at}
use borrow.Author.Tests.{eqb-true, eqb-false, eq-eqb, ltb-true, ltb-false}
use Rattle.below.proofs.Tests.{bool_cases, true_not_false}
use Rattle.day.specs.Days.{last_number}
use Rattle.pause.specs.Pauses.{are_out, pauses_in}
use Rattle.pause.specs.declared.Pause.{Pause}
use Rattle.register.proofs.LawDone.{broken_number}
use Rattle.register.proofs.Promise.{slot_promise}
use Rattle.split.proofs.Days.{part_doses}
use Rattle.split.proofs.Kept.{accepted_kept}
use Rattle.split.specs.Parts.{part_bytes}
use Rattle.split.specs.Split.{too_small, lengths_of, split_of, over}
use Rattle.supply.proofs.Covering.{supplied}
use Rattle.supply.proofs.Refusing.{stop_day_in}
use Rattle.need.specs.Need.{due_on, need_on, stop_day}
use Rattle.supply.specs.Covered.{covered}
use Rattle.supply.specs.Supply.{lasting_of, judged_of, passed_on}
use Rattle.supply.specs.declared.Lasting.{Lasting}
use Rattle.verdict.proofs.Exactly.{accepted_only}
use Rattle.verdict.specs.Verdict.{verdict_of}
use Rattle.verdict.specs.Answers.{Answer}
use Rattle.promises.specs.Demand3.{Splitting, Covers, Demand3}
use Rattle.promises.proofs.LastDays.{answers}

-- a split that is not refused
record Parted0 (p fixed need : List ℕ) : Type 0 where
  accepted : (n : ℕ) × (verdict_of p ≡ Ok n)
  parts : split_of p fixed need ≡ Ok (lengths_of p)

parted : (p fixed need : List ℕ) → (refusal_in (split_of p fixed need)).number ≡ 0 → Parted0 p fixed need
unfolding split_of
parted p fixed need e = by_verdict (verdict_of p) refl
  where
    by_verdict : (a : Answer) → verdict_of p ≡ a → Parted0 p fixed need
    by_verdict (Err r) v = absurd (true_not_false (eq-eqb r.number 0 (rw v at e)) (broken_number p r v))
    by_verdict (Ok n) v =
        ⊎_elim
        (λ (t : too_small fixed need ≡ true). absurd (let z : 25 ≡ 0 = rw (v, t) at e in omega arith))
        (λ (t : too_small fixed need ≡ false). record { accepted = (n, v); parts = rw (v, t) })
        (bool_cases (too_small fixed need))

take_over : (part out : List ℕ) → take (length part) (over part out) ≡ part
unfolding over
take_over part out = take_at part (drop (length part) out) (length part) refl

splitting : Splitting
splitting p fixed need bytes e d l =
    let x = parted p fixed need e in
    let k = accepted_kept p x.accepted.1 in (
      rw (x.parts, take_over (part_bytes false p) fixed) (part_doses false bytes k d),
      rw (x.parts, take_over (part_bytes true p) need) (part_doses true bytes k d),
    )

-- how far a pack goes
covers : (p : List ℕ) (start pack choice : ℕ) (out : Bool) (ps : List Pause) (x : Lasting) →
    passed_on (verdict_of p) (judged_of p start pack choice out ps) ≡ Ok x → Covers p start pack choice ps x
unfolding lasting_of need_on due_on
covers p start pack choice out ps x e =
    let a = answers p start pack choice out ps x e in
    let k = stop_day choice p + 1 - start in
    let s = supplied (need_on choice p ps) start k pack in
    let n = covered (need_on choice p ps) start k pack in
    let stop : start ≤ stop_day choice p = a.unrefused.stop_in in
    rw (← a.lasting)
    (⊎_elim
    (λ (t : ltb n k ≡ true).
    let l : n < k = ltb-true _ _ t in
    rw t
    (record {
      sum = s.sum;
      needs_more = λ _. (omega arith, ⊎_elim (λ h. h) (λ h. absurd (omega arith)) s.stopped);
      dosage_ends = λ z. absurd (omega (arith, z));
      calendar_ends = λ z. absurd (omega (arith, z));
      one_of_these = (omega arith, omega arith);
    }))
    (λ (t : ltb n k ≡ false).
    let l : k ≤ n = ltb-false _ _ t in
    ⊎_elim
    (λ (u : eqb (stop_day choice p) last_number ≡ true).
    rw (t, u)
    (record {
      sum = s.sum;
      needs_more = λ z. absurd (omega (arith, z));
      dosage_ends = λ z. absurd (omega (arith, z));
      calendar_ends = λ _. (omega (arith, s.within), eqb-true (stop_day choice p) last_number u);
      one_of_these = (omega arith, omega arith);
    }))
    (λ (u : eqb (stop_day choice p) last_number ≡ false).
    rw (t, u)
    (record {
      sum = s.sum;
      needs_more = λ z. absurd (omega (arith, z));
      dosage_ends = λ _. (omega (arith, s.within), omega (arith, eqb-false (stop_day choice p) last_number u, stop_day_in choice p (accepted_only p a.accepted.1)));
      calendar_ends = λ z. absurd (omega (arith, z));
      one_of_these = (omega arith, omega arith);
    }))
    (bool_cases (eqb (stop_day choice p) last_number)))
    (bool_cases (ltb n k)))

pub demand3 : Demand3
demand3 =
    record {
      register = slot_promise;
      splitting = splitting;
      packing = λ p start pack choice ps x e. covers p start pack choice (are_out ps) ps x e;
      packed_packing = λ p start pack choice s x e. covers p start pack choice (not (eqb (length s % 8) 0) || are_out (pauses_in s)) (pauses_in s) x e;
    }
