-- Document 01, "How much a contract says": "These stand-ins must be shut out", and "Errors that look right". Each line says that
-- a definition of that shape is not the one of document 01. docs/PROMISES.md says where else each is caught.
use Rattle.std.specs.Prelude.{ℕ, ◌+◌, ◌<◌, true, false, List, ◌≡◌, Option}
use Rattle.refusal.specs.Refusals.{refusal_in}
use Rattle.day.specs.Days.{named_by, Shows}
use Rattle.day.specs.declared.Date.{Date}
use Rattle.day.specs.declared.Day.{Day}
use Rattle.layout.specs.Layout.{Written}
use Rattle.pause.specs.declared.Pause.{Pause}
use Rattle.plan.specs.Fields.{plan_number_of}
use Rattle.refusal.specs.declared.Refusal.{Refusal}
use Rattle.register.specs.Slots.{first_signer, slot_bytes, with_slot, held_at, is_held, slot_under}
use Rattle.register.specs.Sound.{sound}
use Rattle.register.specs.Steps.{Call.submit, Call.sign, Call.release, is_done, refused_by, answered, after}
use Rattle.split.specs.Days.{doses_on_day}
use Rattle.split.specs.Parts.{part_bytes}
use Rattle.split.specs.Split.{split_of, left_by}
use Rattle.supply.specs.Dates.{dates_in, dates_of, packed_dates_of}
use Rattle.supply.specs.Supply.{supply_of, packed_supply_of, lasting_in}
use Rattle.supply.specs.declared.Dates.{Dates}
use Rattle.supply.specs.declared.Lasting.{Lasting}
use Rattle.verdict.specs.Coverage.{holes, hole}
use Rattle.verdict.specs.Verdict.{verdict_of}
use Rattle.verdict.specs.declared.Group.TheVariants.{All}
use Rattle.promises.specs.Demand1.{Refused}
use Rattle.promises.specs.Demand3.{Covers}

-- a period whose first day is a day later, all else as it was
abbrev pub a_day_later : Written → Written
a_day_later w =
    record {
      header = record { interval = w.header.interval; first = w.header.first + 1; end = w.header.end };
      doses = w.doses;
    }

pub record ShutOut : Type 0 where
  -- "refusing always (demand 2, "exactly when")"
  pub refuses_plans : ((p : List ℕ) → Refused (refusal_in (verdict_of p))) → ⊥
  pub refuses_supplies : ((p : List ℕ) (start pack choice : ℕ) (ps : List Pause) → Refused (refusal_in (supply_of p start pack choice ps))) → ⊥
  pub refuses_packed_supplies : ((p : List ℕ) (start pack choice : ℕ) (s : List ℕ) → Refused (refusal_in (packed_supply_of p start pack choice s))) → ⊥
  pub refuses_dates : ((p : List ℕ) (start pack : ℕ) (ps : List Pause) → Refused (refusal_in (dates_of p start pack ps))) → ⊥
  pub refuses_packed_dates : ((p : List ℕ) (start pack : ℕ) (s : List ℕ) → Refused (refusal_in (packed_dates_of p start pack s))) → ⊥
  pub refuses_splits : ((p fixed need : List ℕ) → Refused (refusal_in (split_of p fixed need))) → ⊥
  pub refuses_releases : ((r : List ℕ) (n : ℕ) (room : List ℕ) → Refused (answered r (release n room)).refusal) → ⊥
  -- "one fixed verdict or date (demand 2, P6 against P7)"
  pub one_verdict : (x : Refusal) → ((p : List ℕ) → refusal_in (verdict_of p) ≡ x) → ⊥
  pub one_last_day : (d : ℕ) → ((p : List ℕ) (start pack choice : ℕ) (ps : List Pause) → (lasting_in (supply_of p start pack choice ps)).last ≡ d) → ⊥
  pub one_packed_last_day : (d : ℕ) → ((p : List ℕ) (start pack choice : ℕ) (s : List ℕ) → (lasting_in (packed_supply_of p start pack choice s)).last ≡ d) → ⊥
  pub one_set : (x : Dates) → ((p : List ℕ) (start pack : ℕ) (ps : List Pause) → dates_in (dates_of p start pack ps) ≡ x) → ⊥
  pub one_packed_set : (x : Dates) → ((p : List ℕ) (start pack : ℕ) (s : List ℕ) → dates_in (packed_dates_of p start pack s) ≡ x) → ⊥
  pub one_day : (x : Option Day) → ((d : Date) → named_by d ≡ x) → ⊥
  pub one_date : (x : Option Date) → ((n : ℕ) → Shows n x) → ⊥
  -- "a split or sign that does nothing (demands 2 and 3)"
  pub split_does_nothing : ((p fixed need : List ℕ) → left_by (split_of p fixed need) (part_bytes false p) fixed ≡ fixed) → ⊥
  pub split_leaves_need : ((p fixed need : List ℕ) → left_by (split_of p fixed need) (part_bytes true p) need ≡ need) → ⊥
  pub sign_does_nothing : ((r : List ℕ) (signer : ℕ) (p : List ℕ) → after r (sign signer p) ≡ r) → ⊥
  -- "a register that does its work on the first submit and pretends later (demand 3, calls in every order)"
  pub submit_pretends : ((r p : List ℕ) → sound r ≡ true → is_held r (plan_number_of p) ≡ true → after r (submit p) ≡ r) → ⊥
  -- "a made-up count of days (demand 3's sum)": what demand 3 says leaves one count, one rest and one reason
  pub made_up_days : (p : List ℕ) (start pack choice : ℕ) (ps : List Pause) (x y : Lasting) →
      Covers p start pack choice ps x → Covers p start pack choice ps y → (x.days ≡ y.days) × (x.rest ≡ y.rest) × (x.reason ≡ y.reason)
  -- "Keeping the first signer through a new revision."
  pub first_signer_kept : ((r p : List ℕ) → is_held r (plan_number_of p) ≡ true → is_done (refused_by r (submit p)) ≡ true →
      after r (submit p) ≡ with_slot r (held_at r (plan_number_of p)) (slot_bytes p (first_signer (slot_under r (plan_number_of p))) 0)) → ⊥
  -- "Testing holes over all periods together (P8 would pass)."
  pub holes_together : ((p : List ℕ) → holes p ≡ hole All All p) → ⊥
  -- "Moving an iterated period's first day when its doses are split."
  pub first_day_moved : ((w : Written) (d : ℕ) → 0 < w.header.interval → doses_on_day d (a_day_later w) ≡ doses_on_day d w) → ⊥
