-- A term of demand 2. Assumes nothing.
use Prim.Native.Nat.{ℕ, ◌%◌}
use mathlib.Core.Bool.{Bool, true, false, not, ◌||◌}
use mathlib.Core.List.{List, []}
use mathlib.Core.Logic.{⊎_elim}
use mathlib.Core.Option.{none, some}
use mathlib.Core.Path.{◌≡◌, sym, ap, ◌∙◌}
use native.Mathlib.Omega.{arith}
use lib.Dec.{eqb}
use lib.ListN.{length}
use Rattle.below.proofs.Tests.{bool_cases, not_true_false}
use Rattle.layout.proofs.Back.{head_read, periods_read}
use Rattle.layout.proofs.Fitting.{head_fits}
use Rattle.layout.specs.Reading.{head_of}
use Rattle.pause.specs.Pauses.{are_out, pauses_in}
use Rattle.plan.specs.Fields.{revision_of}
use Rattle.refusal.specs.Refusals.{alone}
use Rattle.register.proofs.LawFind.{none_some, found_held}
use Rattle.register.proofs.Promise.{held_latest, held_signed, slot_promise}
use Rattle.register.proofs.Reached.{plan_of, signatures_in, signatures_of, plan_found}
use Rattle.register.specs.History.{Event, latest, signatures}
use Rattle.register.specs.Reached.{IsBytes, Reached}
use Rattle.register.specs.Slots.{first_signer, second_signer, is_held, slot_under}
use Rattle.register.specs.Sound.{sound}
use Rattle.register.specs.Steps.{Call.state, done, refused_by as refusedIn, signers_in, nothing_but, given, answered}
use Rattle.split.proofs.Kept.{Kept, kept}
use Rattle.split.proofs.Order.{part_in_order}
use Rattle.split.proofs.Range.{part_fits}
use Rattle.split.proofs.Room.{few_blocks}
use Rattle.split.proofs.Runs.{covered_ahead, covered_behind, run_between, between_run}
use Rattle.split.specs.Parts.{part_of, part_bytes}
use Rattle.promises.specs.Demand2.{IsAccepted, Lists, Demand2}
use Rattle.promises.proofs.Accepting.{accepted_none, verdicts}
use Rattle.promises.proofs.LastDays.{last_covered}
use Rattle.promises.proofs.Sets.{sets}

module _ (p : List ℕ) (part : Bool) (bytes : IsBytes p) (e : IsAccepted p) where
  keeps : Kept p
  keeps = kept p (accepted_none p e)

  lists : Lists p part
  unfolding part_bytes
  lists =
      let few = few_blocks part p keeps bytes in
      record {
        head = head_read (head_of p) (part_of part p) (head_fits p bytes);
        periods = periods_read (head_of p) (part_of part p) (part_fits part bytes keeps) (omega (arith, few));
        by_first_day = part_in_order keeps part;
        run_days = λ b l t r d f h. run_between part p keeps b d (record { within = l; dosed = t; run = r; from = f; to = h });
        day_in_run = λ d h.
            let x = between_run part p keeps d h in
            (x.0, x.1.within, x.1.dosed, x.1.run, x.1.from, x.1.to);
        run_longest = λ b l t r d. (covered_ahead part p keeps b l t r d, covered_behind part p keeps b l t r d);
      }

-- a register that was reached: what it finds under a number is what the history says
module _ {h : List Event} {r : List ℕ} (w : Reached h r) (n : ℕ) where
  is_sound : sound r ≡ true
  is_sound = slot_promise.stays_sound h r w

  state_none : latest n h ≡ none → answered r (state n) ≡ nothing_but (alone 33)
  unfolding answered refusedIn
  state_none e =
      let t : is_held r n ≡ false =
      not_true_false (is_held r n) (λ k. none_some (sym e ∙ sym (held_latest w n) ∙ ap plan_of (found_held r n k))) in
      rw (is_sound, t)

  -- as many signatures as signers
  counted : (s : List ℕ) → signers_in s ≡ length (signatures_in s)
  counted s =
      ⊎_elim
      (λ (t : eqb (first_signer s) 0 ≡ true). rw t)
      (λ (t : eqb (first_signer s) 0 ≡ false).
      ⊎_elim (λ (u : eqb (second_signer s) 0 ≡ true). rw (t, u)) (λ (u : eqb (second_signer s) 0 ≡ false). rw (t, u)) (bool_cases (eqb (second_signer s) 0)))
      (bool_cases (eqb (first_signer s) 0))

  state_some : (p : List ℕ) → latest n h ≡ some p →
      answered r (state n) ≡ record { refusal = done; length = 0; revision = revision_of p; signers = length (signatures n h) }
  unfolding answered refusedIn given
  state_some p e =
      let k = plan_found r n [] p (held_latest w n ∙ e) in
      let f : signatures_in (slot_under r n) ≡ signatures n h = sym (ap signatures_of (found_held r n k.0)) ∙ held_signed w n in
      rw (is_sound, k.0, k.1, counted (slot_under r n), f)

pub demand2 : Demand2
demand2 =
    record {
      verdict = verdicts;
      lists = lists;
      last_covered_day = λ p start pack choice ps x e. last_covered p start pack choice (are_out ps) ps x e;
      packed_last_covered_day = λ p start pack choice s x e. last_covered p start pack choice (not (eqb (length s % 8) 0) || are_out (pauses_in s)) (pauses_in s) x e;
      dates = λ p start pack ps. sets p start pack (are_out ps) ps;
      packed_dates = λ p start pack s. sets p start pack (not (eqb (length s % 8) 0) || are_out (pauses_in s)) (pauses_in s);
      register_answers = λ h r w. record { not_held = state_none w; held = state_some w };
    }
