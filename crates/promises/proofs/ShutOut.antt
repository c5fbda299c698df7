-- The stand-ins and errors that document 01 names are shut out. Assumes nothing.
use Rattle.refusal.specs.Refusals.{refusal_in}
use Rattle.std.specs.Prelude.{Ok}
use Prim.Native.Nat.{ℕ, ◌+◌, ◌-◌, ◌≤◌, ◌<◌}
use mathlib.Core.Bool.{Bool, true, false}
use mathlib.Core.List.{List, [], ◌∷◌}
use mathlib.Core.Logic.{◌⊎◌, inl, inr, ⊎_elim}
use mathlib.Core.Option.{Option, none, some}
use mathlib.Core.Path.{◌≡◌, refl, sym, ap, ◌∙◌}
use native.Mathlib.Omega.{arith}
use Rattle.std.specs.Prelude.{Option as Perhaps, Some, None}
use lib.ListN.{length}
use borrow.Author.Tests.{eqb-true}
use Rattle.below.proofs.Tests.{true_not_false, le_or_lt, same_or_not}
use Rattle.below.specs.Lists.{join_over, keep}
use Rattle.block.specs.Bytes.{byte_at, bytes_of, put}
use Rattle.block.specs.Sums.{sealed}
use Rattle.day.specs.Days.{open_mark, named_by, Shows, last_number}
use Rattle.day.specs.declared.Date.{Date}
use Rattle.day.specs.declared.Day.{Day}
use Rattle.layout.specs.Layout.{Written, filled, head_bytes, laid_out}
use Rattle.pause.specs.declared.Pause.{Pause}
use Rattle.plan.specs.Fields.{plan_number_of}
use Rattle.refusal.specs.declared.Refusal.{Refusal}
use Rattle.register.proofs.Kept.{after_done}
use Rattle.register.proofs.LawFind.{found, held_facts, some_held}
use Rattle.register.proofs.LawRevision.{submit_later, submit_stands}
use Rattle.register.proofs.Own.{accepted_whole, first_back, length_slot_bytes}
use Rattle.register.proofs.Update.{slot_here}
use Rattle.register.specs.Slots.{slot_at, first_signer, slot_bytes, with_slot, held_at, is_held, slot_under}
use Rattle.register.specs.Steps.{Call.clear, Call.submit, Call.sign, is_done, refused_by, changed, after}
use Rattle.doses.specs.Doses.{position_of}
use Rattle.split.specs.Days.{doses_on_day}
use Rattle.split.specs.Parts.{part_bytes}
use Rattle.split.specs.Split.{lengths_of, split_of, over, left_by}
use Rattle.supply.proofs.Covering.{Supplied, supplied_one, summed_le, summed_more}
use Rattle.need.specs.Need.{due_on, need_on, stop_day}
use Rattle.supply.specs.Dates.{dates_in, dates_of, packed_dates_of}
use Rattle.supply.specs.Supply.{supply_of, packed_supply_of, lasting_in}
use Rattle.supply.specs.declared.Dates.{Dates}
use Rattle.supply.specs.declared.Lasting.{Lasting}
use Rattle.verdict.specs.Verdict.{verdict_of}
use Rattle.promises.specs.Cases.{one_daily, two_daily, one_slot, output, signed_plan, A, B}
use Rattle.promises.specs.Demand3.{Covers}
use Rattle.promises.specs.Plans.{plan}
use Rattle.promises.specs.ShutOut.{a_day_later, ShutOut}
use Rattle.promises.specs.Witnesses.{only_need, part_room, both_marks}
use Rattle.promises.proofs.Paper.{computed, numbered, four_ok, five_ok, slot_bytes_lem, slot_long, output_long}
use Rattle.promises.proofs.Releases.{Way, way}
use Rattle.promises.proofs.Dates.{end_date, need_dates, packed_end_date, packed_need_dates}
use Rattle.promises.proofs.Supplies.{P10, P11}
use Rattle.promises.proofs.Verdicts.{P6, P7, P8-holes, P8-together, four_bytes, both_accepted}
use Rattle.promises.proofs.Witnesses.{room_long, witnesses}

one_verdict : (x : Refusal) → ((p : List ℕ) → refusal_in (verdict_of p) ≡ x) → ⊥
one_verdict x h =
    let z : ◌≡◌ {A = ℕ} 17 0 = ap (λ (r : Refusal). r.number) (sym (ap refusal_in P6) ∙ h _ ∙ sym (h _) ∙ ap refusal_in P7) in
    omega arith

-- a last covered day: P10 against P11
one_last_day : (d : ℕ) → ((p : List ℕ) (start pack choice : ℕ) (ps : List Pause) → (lasting_in (supply_of p start pack choice ps)).last ≡ d) → ⊥
one_last_day d h =
    let x : 8105 ≡ d = rw P10.0 at (h (plan one_daily) 8077 50000 1 []) in
    let y : 8078 ≡ d = rw P11.0 at (h (plan two_daily) 8077 500 1 []) in
    omega arith

one_packed_last_day : (d : ℕ) → ((p : List ℕ) (start pack choice : ℕ) (s : List ℕ) → (lasting_in (packed_supply_of p start pack choice s)).last ≡ d) → ⊥
one_packed_last_day d h =
    let x : 8105 ≡ d = rw P10.2 at (h (plan one_daily) 8077 50000 1 []) in
    let y : 8078 ≡ d = rw P11.2 at (h (plan two_daily) 8077 500 1 []) in
    omega arith

-- a set of dates: one with an end date against one without
one_set : (x : Dates) → ((p : List ℕ) (start pack : ℕ) (ps : List Pause) → dates_in (dates_of p start pack ps) ≡ x) → ⊥
one_set x h =
    let z : ◌≡◌ {A = ℕ} 8105 open_mark = ap (λ (y : Dates). y.end) (sym (ap dates_in end_date) ∙ h (plan one_daily) 8077 50000 [] ∙ sym (h (plan only_need) 8077 1200 []) ∙ ap dates_in need_dates) in
    omega arith

one_packed_set : (x : Dates) → ((p : List ℕ) (start pack : ℕ) (s : List ℕ) → dates_in (packed_dates_of p start pack s) ≡ x) → ⊥
one_packed_set x h =
    let z : ◌≡◌ {A = ℕ} 8105 open_mark = ap (λ (y : Dates). y.end) (sym (ap dates_in packed_end_date) ∙ h (plan one_daily) 8077 50000 [] ∙ sym (h (plan only_need) 8077 1200 []) ∙ ap dates_in packed_need_dates) in
    omega arith

-- a day, and a date: P1 against P3
number_in : Perhaps Day → ℕ
number_in (Some d) = d.number
number_in None = 0

one_day : (x : Perhaps Day) → ((d : Date) → named_by d ≡ x) → ⊥
unfolding number_in
one_day x h =
    let z : ◌≡◌ {A = ℕ} 60 6547 = ap number_in (sym computed.p1.0 ∙ h _ ∙ sym (h _) ∙ computed.p3.0) in
    omega arith

one_date : (x : Perhaps Date) → ((n : ℕ) → Shows n x) → ⊥
one_date (Some d) h = omega (arith, (h 0).1, (h 1).1)
one_date None h = omega (arith, h 0)

-- what demand 3 says of a supply leaves one answer
module _ (p : List ℕ) (start pack choice : ℕ) (ps : List Pause) where
  abbrev Stops : Lasting → Type 0
  Stops x =
      ((x.reason ≡ 1) × (start + x.days ≤ stop_day choice p))
      ⊎ (((x.reason ≡ 2) × (start + x.days ≡ stop_day choice p + 1) × (stop_day choice p < last_number))
      ⊎ ((x.reason ≡ 3) × (start + x.days ≡ stop_day choice p + 1) × (stop_day choice p ≡ last_number)))

  stops : {x : Lasting} → Covers p start pack choice ps x → Stops x
  stops {x} c =
      ⊎_elim
      (λ (e : x.reason ≡ 1). inl (e, (c.needs_more e).0))
      (λ n.
      ⊎_elim
      (λ (e : x.reason ≡ 2). inr (inl (e, (c.dosage_ends e).0, (c.dosage_ends e).1)))
      (λ m.
      let e : x.reason ≡ 3 = omega (arith, n, m, c.one_of_these) in
      inr (inr (e, (c.calendar_ends e).0, (c.calendar_ends e).1)))
      (same_or_not x.reason 2))
      (same_or_not x.reason 1)

  is_supplied : {x : Lasting} → Covers p start pack choice ps x → Supplied (need_on choice p ps) start (stop_day choice p + 1 - start) pack x.days x.rest
  unfolding need_on due_on
  is_supplied {x} c =
      let need = need_on choice p ps in
      let to_the_end : start + x.days ≡ stop_day choice p + 1 → Supplied need start (stop_day choice p + 1 - start) pack x.days x.rest =
      λ e. record { within = omega arith; sum = c.sum; stopped = inr (omega arith); greatest = λ n h g. omega arith } in
      ⊎_elim
      (λ s.
      let m = c.needs_more s.0 in
      record {
        within = omega (arith, m.0);
        sum = c.sum;
        stopped = inl m.1;
        greatest = λ n h g.
            ⊎_elim
            (λ l. l)
            (λ (l : x.days < n).
            absurd (omega (arith, c.sum, m.1, summed_more need start x.days, summed_le need start {m = x.days + 1} {n = n} (omega arith))))
            (le_or_lt n x.days);
      })
      (λ s. ⊎_elim (λ t. to_the_end t.1) (λ t. to_the_end t.1) s)
      (stops c)

  one_reason : (x y : Lasting) → x.days ≡ y.days → Stops x → Stops y → x.reason ≡ y.reason
  one_reason x y e (inl a) (inl b) = omega (arith, a, b)
  one_reason x y e (inl a) (inr (inl b)) = absurd (omega (arith, a, b))
  one_reason x y e (inl a) (inr (inr b)) = absurd (omega (arith, a, b))
  one_reason x y e (inr (inl a)) (inl b) = absurd (omega (arith, a, b))
  one_reason x y e (inr (inl a)) (inr (inl b)) = omega (arith, a, b)
  one_reason x y e (inr (inl a)) (inr (inr b)) = absurd (omega (arith, a, b))
  one_reason x y e (inr (inr a)) (inl b) = absurd (omega (arith, a, b))
  one_reason x y e (inr (inr a)) (inr (inl b)) = absurd (omega (arith, a, b))
  one_reason x y e (inr (inr a)) (inr (inr b)) = omega (arith, a, b)

made_up_days : (p : List ℕ) (start pack choice : ℕ) (ps : List Pause) (x y : Lasting) → Covers p start pack choice ps x → Covers p start pack choice ps y →
    (x.days ≡ y.days) × (x.rest ≡ y.rest) × (x.reason ≡ y.reason)
made_up_days p start pack choice ps x y c d =
    let s = supplied_one (need_on choice p ps) start (is_supplied p start pack choice ps c) (is_supplied p start pack choice ps d) in
    (s.0, s.1, one_reason p start pack choice ps x y s.0 (stops p start pack choice ps c) (stops p start pack choice ps d))

-- the plan with both marks: each part begins with a head, and its buffer did not
first_byte : (part : Bool) → byte_at (over (part_bytes part both_marks) part_room) 0 ≡ 1
unfolding over part_bytes laid_out head_bytes filled bytes_of put sealed join_over
first_byte part = refl

room_byte : byte_at part_room 0 ≡ 0
unfolding part_room
room_byte = refl

parts : split_of both_marks part_room part_room ≡ Ok (lengths_of both_marks)
unfolding split_of
parts = rw (both_accepted, room_long)

not_left : (part : Bool) → left_by (split_of both_marks part_room part_room) (part_bytes part both_marks) part_room ≡ part_room → ⊥
not_left part e =
    let z : over (part_bytes part both_marks) part_room ≡ part_room = rw parts at e in
    let y : ◌≡◌ {A = ℕ} 1 0 = sym (first_byte part) ∙ ap (λ (s : List ℕ). byte_at s 0) z ∙ room_byte in
    omega arith

-- the register on the way of P14
slot_in : Option (List ℕ) → List ℕ
slot_in none = []
slot_in (some s) = s

other_signer : (p q : List ℕ) (a b : ℕ) → a < 4294967296 → b < 4294967296 → some (slot_bytes p a 0) ≡ some (slot_bytes q b 0) → a ≡ b
unfolding slot_in
other_signer p q a b l m e = sym (first_back p a 0 l) ∙ ap (λ (x : Option (List ℕ)). first_signer (slot_in x)) e ∙ first_back q b 0 m

module _ where
  abbrev p : List ℕ
  p = signed_plan 4

  abbrev q : List ℕ
  q = signed_plan 5

  abbrev n : ℕ
  n = plan_number_of p

  abbrev r2 : List ℕ
  r2 = after (after one_slot clear) (submit p)

  abbrev r3 : List ℕ
  r3 = after r2 (sign A p)

  w : Way p four_bytes four_ok A B (λ e. omega arith) (omega arith) (λ e. omega arith) (omega arith) (λ e. omega arith) one_slot slot_bytes_lem slot_long output output_long
  w = way p four_bytes four_ok A B (λ e. omega arith) (omega arith) (λ e. omega arith) (omega arith) (λ e. omega arith) one_slot slot_bytes_lem slot_long output output_long

  sign_does_nothing : after r2 (sign A p) ≡ r2 → ⊥
  sign_does_nothing e =
      let z : A ≡ 0 = other_signer p p A 0 (omega arith) (omega arith) (sym w.f3 ∙ ap (λ (r : List ℕ). found r n) e ∙ w.f2) in
      omega arith

  -- the next revision
  f3 : found r3 (plan_number_of q) ≡ some (slot_bytes p A 0)
  f3 = rw (numbered.five, ← numbered.four) w.f3

  d3 : is_done (refused_by r3 (submit q)) ≡ true
  d3 = submit_later r3 q w.g3 five_ok p A 0 four_ok f3 (omega (arith, numbered.was, numbered.is))

  f4 : found (after r3 (submit q)) (plan_number_of q) ≡ some (slot_bytes q 0 0)
  f4 = submit_stands r3 q w.g3 five_ok d3

  held : (is_held r3 (plan_number_of q) ≡ true) × (slot_under r3 (plan_number_of q) ≡ slot_bytes p A 0)
  held = some_held r3 (plan_number_of q) (slot_bytes p A 0) f3

  submit_pretends : after r3 (submit q) ≡ r3 → ⊥
  submit_pretends e =
      let z : 0 ≡ A = other_signer q p 0 A (omega arith) (omega arith) (sym f4 ∙ ap (λ (r : List ℕ). found r (plan_number_of q)) e ∙ f3) in
      omega arith

  -- its slot would read back the first signer
  first_signer_kept : after r3 (submit q) ≡ with_slot r3 (held_at r3 (plan_number_of q)) (slot_bytes q (first_signer (slot_under r3 (plan_number_of q))) 0) → ⊥
  unfolding changed
  first_signer_kept e =
      let i = held_at r3 (plan_number_of q) in
      let l = (held_facts r3 (plan_number_of q) held.0).0 in
      let whole = accepted_whole q five_ok in
      let first : first_signer (slot_under r3 (plan_number_of q)) ≡ A = ap first_signer held.1 ∙ first_back p A 0 (omega arith) in
      let x : after r3 (submit q) ≡ with_slot r3 i (slot_bytes q 0 0) = after_done r3 (submit q) d3 ∙ rw held.0 in
      let y : with_slot r3 i (slot_bytes q 0 0) ≡ with_slot r3 i (slot_bytes q A 0) = sym x ∙ (rw first at e) in
      let s : slot_bytes q 0 0 ≡ slot_bytes q A 0 =
      sym (slot_here r3 i (slot_bytes q 0 0) (length_slot_bytes q 0 0 whole) l) ∙ ap (λ (r : List ℕ). slot_at r i) y ∙
      slot_here r3 i (slot_bytes q A 0) (length_slot_bytes q A 0 whole) l in
      let z : 0 ≡ A = sym (first_back q 0 0 (omega arith)) ∙ ap first_signer s ∙ first_back q A 0 (omega arith) in
      omega arith

-- every second day, from day 6547 on
every_second : Written
every_second =
    record {
      header = record { interval = 2; first = 6547; end = 6550 };
      doses = record { day = 2; kind = 1; mark = 0; minute = 0; low = 100; high = 0 } ∷ [];
    }

first_day_moved : length (doses_on_day 6548 (a_day_later every_second)) ≡ length (doses_on_day 6548 every_second) → ⊥
unfolding every_second doses_on_day position_of keep
first_day_moved e = omega (arith, e)

pub shut_out : ShutOut
unfolding every_second
shut_out =
    record {
      refuses_plans = λ h. h _ (ap (λ (x : Refusal). x.number) witnesses.accepted);
      refuses_supplies = λ h. h (plan one_daily) 8077 50000 1 [] (rw P10.0 refl);
      refuses_packed_supplies = λ h. h (plan one_daily) 8077 50000 1 [] (rw P10.2 refl);
      refuses_dates = λ h. h (plan one_daily) 8077 50000 [] (rw end_date refl);
      refuses_packed_dates = λ h. h (plan one_daily) 8077 50000 [] (rw packed_end_date refl);
      refuses_splits = λ h. h both_marks part_room part_room witnesses.parted;
      refuses_releases = λ h. h witnesses.released.1 1 output (eqb-true _ _ witnesses.released.3);
      one_verdict = one_verdict;
      one_last_day = one_last_day;
      one_packed_last_day = one_packed_last_day;
      one_set = one_set;
      one_packed_set = one_packed_set;
      one_day = one_day;
      one_date = one_date;
      split_does_nothing = λ h. not_left false (h both_marks part_room part_room);
      split_leaves_need = λ h. not_left true (h both_marks part_room part_room);
      sign_does_nothing = λ h. sign_does_nothing (h r2 A p);
      submit_pretends = λ h. submit_pretends (h r3 q w.g3.is_sound held.0);
      made_up_days = made_up_days;
      first_signer_kept = λ h. first_signer_kept (h r3 q held.0 d3);
      holes_together = λ h. true_not_false (sym (h _) ∙ P8-holes) P8-together;
      first_day_moved = λ h. first_day_moved (ap length (h every_second 6548 (omega arith)));
    }
