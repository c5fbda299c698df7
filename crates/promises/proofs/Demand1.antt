-- A term of demand 1. Assumes nothing.
use Rattle.std.specs.Prelude.{Err, Ok}
use Prim.Native.Nat.{ℕ, ◌%◌, ◌<◌}
use mathlib.Core.Bool.{Bool, true, false, cond, not, ◌||◌}
use mathlib.Core.List.{List}
use mathlib.Core.Logic.{◌⊎◌, inl, inr, ⊎_elim}
use native.Mathlib.Omega.{arith}
use mathlib.Core.Path.{◌≡◌, refl, sym, ◌∙◌}
use lib.Dec.{eqb, ltb}
use lib.ListN.{length}
use borrow.Author.Tests.{eqb-true}
use Rattle.below.proofs.Tests.{bool_cases, not_true_false}
use Rattle.day.specs.Days.{is_day}
use Rattle.doses.specs.Doses.{day_sums}
use Rattle.pause.specs.Pauses.{are_out, pauses_in}
use Rattle.pause.specs.declared.Pause.{Pause}
use Rattle.plan.specs.Fields.{plan_number_of}
use Rattle.refusal.specs.Refusals.{alone, code_of, refusal_in}
use Rattle.refusal.specs.declared.Refusal.{Refusal}
use Rattle.register.proofs.Kept.{after_refused}
use Rattle.register.proofs.Reached.{answered_done}
use Rattle.register.specs.Slots.{room_size, slots_of, first_signer, second_signer, is_held, slot_under, plan_under}
use Rattle.register.specs.Sound.{sound}
use Rattle.register.specs.Steps.{Call, Call.clear, Call.submit, Call.sign, Call.release, Call.drop, Call.state, is_done, unless_broken, is_stale, is_full, same, refused_by, given, answered, after, room_after}
use Rattle.screen.specs.Calls.{too_short, code26, supply_out, dates_out, split_out, stretch_out, sums_out}
use Rattle.showing.specs.Showing.{stretch_of}
use Rattle.split.specs.Parts.{part_bytes}
use Rattle.split.specs.Split.{too_small, lengths_of, split_by, split_of, left_by}
use Rattle.split.specs.Answers.{Parted}
use Rattle.need.specs.Need.{is_choice, stop_day, has_stop}
use Rattle.supply.specs.Dates.{set_by, packed_dates_of}
use Rattle.supply.specs.Supply.{asked_by, own_by, refused_by as supplyRefusedBy, judged_of, passed_on, packed_supply_of}
use Rattle.supply.specs.declared.Dates.{Dates}
use Rattle.supply.specs.Answers.{DateSet}
use Rattle.supply.specs.Answers.{Supply}
use Rattle.verdict.specs.Verdict.{verdict_of}
use Rattle.verdict.specs.Answers.{Answer}
use Rattle.promises.specs.Demand1.{Refused, Placed, verdict_in, Calls, ScreenCalls, Demand1}
use Rattle.promises.specs.Orders.{first_given}
use Rattle.promises.proofs.Orders.{verdict_first, dates_first, supply_first, split_first, register_first}

-- the place: of each test that a call makes, and of those one behind the other
placed_alone : (v : Refusal) (k : ℕ) → 17 < k → Placed v (alone k)
placed_alone v k l = inr (refl, inr l)

placed_done : (v : Refusal) → Placed v (alone 0)
placed_done v = inr (refl, inl refl)

placed_cond : (v : Refusal) (t : Bool) {x y : Refusal} → Placed v x → Placed v y → Placed v (cond t x y)
placed_cond v true a b = a
placed_cond v false a b = b

placed_unless : (a : Answer) {x : Refusal} → Placed (refusal_in a) x → Placed (refusal_in a) (unless_broken a x)
placed_unless (Ok n) b = b
placed_unless (Err r) b = inl refl

-- supply's own numbers
abbrev Far : ℕ → Type 0
Far k = (k ≡ 0) ⊎ (17 < k)

far_cond : (t : Bool) {x y : ℕ} → Far x → Far y → Far (cond t x y)
far_cond true a b = a
far_cond false a b = b

far_asked : (start pack : ℕ) (out : Bool) {x : ℕ} → Far x → Far (asked_by start pack out x)
unfolding asked_by
far_asked start pack out h =
    far_cond (ltb 1000000000000 pack) (inr (omega arith)) (far_cond out (inr (omega arith)) (far_cond (not (is_day start)) (inr (omega arith)) h))

-- the set of dates
dates_placed : (a : Answer) (k : ℕ) (x : Dates) → Far k → Placed (refusal_in a) (refusal_in (set_by a k x))
dates_placed (Err r) k x h = inl refl
dates_placed (Ok n) k x h =
    ⊎_elim
    (λ (t : eqb k 0 ≡ true). rw t (placed_done (alone 0)))
    (λ (t : eqb k 0 ≡ false). rw t (inr (refl, h)))
    (bool_cases (eqb k 0))

-- supply
module _ (p : List ℕ) (start pack choice : ℕ) (out : Bool) (ps : List Pause) where
  far : Far (supplyRefusedBy start pack choice out (has_stop choice p) (stop_day choice p))
  unfolding own_by
  far =
      far_asked start pack out
      (far_cond (not (is_choice choice)) (inr (omega arith))
      (far_cond (not (has_stop choice p) || ltb (stop_day choice p) start) (inr (omega arith)) (inl refl)))

  judged_placed : Placed (alone 0) (refusal_in (judged_of p start pack choice out ps))
  unfolding judged_of
  judged_placed =
      let k = supplyRefusedBy start pack choice out (has_stop choice p) (stop_day choice p) in
      ⊎_elim
      (λ (t : eqb k 0 ≡ true). rw t (placed_done (alone 0)))
      (λ (t : eqb k 0 ≡ false). rw t (inr (refl, far)))
      (bool_cases (eqb k 0))

  supply_placed : (a : Answer) → Placed (refusal_in a) (refusal_in (passed_on a (judged_of p start pack choice out ps)))
  supply_placed (Err r) = inl refl
  supply_placed (Ok n) = judged_placed

split_placed : (a : Answer) (p fixed need : List ℕ) → Placed (refusal_in a) (refusal_in (split_by a p fixed need))
split_placed (Err r) p fixed need = inl refl
split_placed (Ok n) p fixed need = choice (too_small fixed need)
  where
    choice : (t : Bool) → Placed (alone 0) (refusal_in (cond t (Err (alone 25)) (Ok (lengths_of p))))
    choice true = placed_alone (alone 0) 25 (omega arith)
    choice false = placed_done (alone 0)

split_place : (p fixed need : List ℕ) → Placed (refusal_in (verdict_of p)) (refusal_in (split_of p fixed need))
unfolding split_of
split_place p fixed need = split_placed (verdict_of p) p fixed need

refused_placed : (r : List ℕ) (c : Call) → Placed (verdict_in c) (refused_by r c)
unfolding refused_by
refused_placed r clear = placed_cond _ (ltb 0 (slots_of r)) (placed_done _) (placed_alone _ 30 (omega arith))
refused_placed r (submit p) =
    let v = refusal_in (verdict_of p) in
    placed_cond v (not (sound r)) (placed_alone v 30 (omega arith))
    (placed_unless (verdict_of p)
    (placed_cond v (is_stale r p) (placed_alone v 32 (omega arith))
    (placed_cond v (is_full r p) (placed_alone v 31 (omega arith)) (placed_done v))))
refused_placed r (sign signer p) =
    let v = refusal_in (verdict_of p) in
    let n = plan_number_of p in
    placed_cond v (not (sound r)) (placed_alone v 30 (omega arith))
    (placed_cond v (eqb signer 0) (placed_alone v 35 (omega arith))
    (placed_unless (verdict_of p)
    (placed_cond v (not (is_held r n)) (placed_alone v 33 (omega arith))
    (placed_cond v (not (same p (plan_under r n))) (placed_alone v 34 (omega arith))
    (placed_cond v (not (eqb (second_signer (slot_under r n)) 0)) (placed_alone v 37 (omega arith))
    (placed_cond v (eqb (first_signer (slot_under r n)) signer) (placed_alone v 36 (omega arith)) (placed_done v)))))))
refused_placed r (release n room) =
    placed_cond _ (not (sound r)) (placed_alone _ 30 (omega arith))
    (placed_cond _ (ltb (length room) room_size) (placed_alone _ 39 (omega arith))
    (placed_cond _ (not (is_held r n)) (placed_alone _ 33 (omega arith))
    (placed_cond _ (eqb (second_signer (slot_under r n)) 0) (placed_alone _ 38 (omega arith)) (placed_done _))))
refused_placed r (drop n) =
    placed_cond _ (not (sound r)) (placed_alone _ 30 (omega arith)) (placed_cond _ (not (is_held r n)) (placed_alone _ 33 (omega arith)) (placed_done _))
refused_placed r (state n) =
    placed_cond _ (not (sound r)) (placed_alone _ 30 (omega arith)) (placed_cond _ (not (is_held r n)) (placed_alone _ 33 (omega arith)) (placed_done _))

answered_placed : (r : List ℕ) (c : Call) → Placed (verdict_in c) (answered r c).refusal
unfolding answered
answered_placed r c =
    ⊎_elim
    (λ (t : is_done (refused_by r c) ≡ true). rw t (given_placed c))
    (λ (t : is_done (refused_by r c) ≡ false). rw t (refused_placed r c))
    (bool_cases (is_done (refused_by r c)))
  where
    given_placed : (c : Call) → Placed (verdict_in c) (given r c).refusal
    given_placed clear = unfold given in placed_done _
    given_placed (submit p) = unfold given in placed_done _
    given_placed (sign signer p) = unfold given in placed_done _
    given_placed (release n room) = unfold given in placed_done _
    given_placed (drop n) = unfold given in placed_done _
    given_placed (state n) = unfold given in placed_done _

-- what is refused is not done
not_done : (x : Refusal) → Refused x → is_done x ≡ false
not_done x h = not_true_false (is_done x) (λ t. h (eqb-true _ _ t))

-- split's buffers
left_same : (x : Parted) → Refused (refusal_in x) → (part out : List ℕ) → left_by x part out ≡ out
left_same (Ok n) h part out = absurd (h refl)
left_same (Err r) h part out = refl

module _ (r : List ℕ) (c : Call) (h : Refused (answered r c).refusal) where
  refused_so : is_done (refused_by r c) ≡ false
  refused_so = sym (answered_done r c) ∙ not_done (answered r c).refusal h

  register_same : after r c ≡ r
  register_same = after_refused r c refused_so

room_same : (r : List ℕ) (n : ℕ) (room : List ℕ) → Refused (answered r (release n room)).refusal → room_after r n room ≡ room
unfolding room_after
room_same r n room h = rw (refused_so r (release n room) h)

calls : Calls
calls =
    record {
      verdict_order = verdict_first;
      supply_order_lem = λ p start pack choice ps. supply_first p start pack choice (are_out ps) ps;
      dates_order_lem = λ p start pack ps. dates_first p start pack (are_out ps) _;
      split_order_lem = split_first;
      register_order = register_first;
      supply_place = λ p start pack choice ps. supply_placed p start pack choice (are_out ps) ps (verdict_of p);
      dates_place = λ p start pack ps. dates_placed (verdict_of p) (asked_by start pack (are_out ps) 0) _ (far_asked start pack (are_out ps) (inl refl));
      split_place = λ p fixed need. split_place p fixed need;
      register_place = answered_placed;
      split_keeps = λ p fixed need h. (left_same (split_of p fixed need) h _ fixed, left_same (split_of p fixed need) h _ need);
      register_keeps = register_same;
      release_keeps = room_same;
    }

-- the screen: 26 ahead of all else
abbrev screen_refusal : ℕ → List ℕ → Refusal → Refusal
screen_refusal n out x = cond (too_short n out) (alone 26) x

module _ (n : ℕ) (out : List ℕ) (x : Refusal) where
  screen_code : {code : ℕ} → code ≡ code_of x → cond (too_short n out) code26 code ≡ code_of (screen_refusal n out x)
  screen_code e =
      ⊎_elim (λ (t : too_short n out ≡ true). rw t) (λ (t : too_short n out ≡ false). rw t e) (bool_cases (too_short n out))

  screen_number : {k : ℕ} → x.number ≡ k → (screen_refusal n out x).number ≡ cond (too_short n out) 26 k
  screen_number e =
      ⊎_elim (λ (t : too_short n out ≡ true). rw t) (λ (t : too_short n out ≡ false). rw t e) (bool_cases (too_short n out))

  screen_placed : {v : Refusal} → Placed v x → Placed v (screen_refusal n out x)
  screen_placed {v} h = placed_cond v (too_short n out) (placed_alone v 26 (omega arith)) h

  -- a buffer that a refused call leaves as it was
  screen_keeps : (now then : List ℕ) → (Refused x → then ≡ now) → Refused (screen_refusal n out x) → cond (too_short n out) now then ≡ now
  screen_keeps now then keeps h =
      ⊎_elim
      (λ (t : too_short n out ≡ true). rw t)
      (λ (t : too_short n out ≡ false). rw t (keeps (λ e. h (rw t e))))
      (bool_cases (too_short n out))

supply_same : (x : Supply) (out : List ℕ) → Refused (refusal_in x) → supply_out out x ≡ out
supply_same (Ok y) out h = absurd (h refl)
supply_same (Err r) out h = refl

dates_same : (x : DateSet) (out : List ℕ) → Refused (refusal_in x) → dates_out out x ≡ out
dates_same (Ok y) out h = absurd (h refl)
dates_same (Err r) out h = refl

split_same : (x : Parted) (out : List ℕ) → Refused (refusal_in x) → split_out out x ≡ out
split_same (Ok n) out h = absurd (h refl)
split_same (Err r) out h = refl

sums_same : (a : Answer) (s : List (List ℕ)) (out : List ℕ) → Refused (refusal_in a) → sums_out out a s ≡ out
sums_same (Ok n) s out h = absurd (h refl)
sums_same (Err r) s out h = refl

screen : ScreenCalls
unfolding first_given
screen =
    record {
      verdict = λ p. record { refusal = refusal_in (verdict_of p); code_is = refl; in_order = verdict_first p; place = inl refl; keeps = λ h. tt };
      supply = λ p start pack choice s out.
          let x = packed_supply_of p start pack choice s in
          let r = refusal_in x in
          record {
            refusal = screen_refusal 32 out r;
            code_is = screen_code 32 out r refl;
            in_order = screen_number 32 out r (supply_first p start pack choice (not (eqb (length s % 8) 0) || are_out (pauses_in s)) (pauses_in s));
            place = screen_placed 32 out r (supply_placed p start pack choice (not (eqb (length s % 8) 0) || are_out (pauses_in s)) (pauses_in s) (verdict_of p));
            keeps = screen_keeps 32 out r out (supply_out out x) (supply_same x out);
          };
      dates = λ p start pack s out.
          let x = packed_dates_of p start pack s in
          let r = refusal_in x in
          let bad = not (eqb (length s % 8) 0) || are_out (pauses_in s) in
          record {
            refusal = screen_refusal 40 out r;
            code_is = screen_code 40 out r refl;
            in_order = screen_number 40 out r (dates_first p start pack bad _);
            place = screen_placed 40 out r (dates_placed (verdict_of p) (asked_by start pack bad 0) _ (far_asked start pack bad (inl refl)));
            keeps = screen_keeps 40 out r out (dates_out out x) (dates_same x out);
          };
      split = λ p fixed need out.
          let x = split_of p fixed need in
          let r = refusal_in x in
          record {
            refusal = screen_refusal 16 out r;
            code_is = screen_code 16 out r refl;
            in_order = screen_number 16 out r (split_first p fixed need);
            place = screen_placed 16 out r (split_place p fixed need);
            keeps = λ h. (
              screen_keeps 16 out r fixed _ (λ g. left_same x g (part_bytes false p) fixed) h,
              screen_keeps 16 out r need _ (λ g. left_same x g (part_bytes true p) need) h,
              screen_keeps 16 out r out _ (split_same x out) h,
            );
          };
      show_day = λ fixed need list day out.
          record {
            refusal = screen_refusal 16 out (alone 0);
            code_is = screen_code 16 out (alone 0) refl;
            in_order = screen_number 16 out (alone 0) refl;
            place = screen_placed 16 out (alone 0) (inl refl);
            keeps = screen_keeps 16 out (alone 0) out (stretch_out out (stretch_of fixed need list day)) (λ h. absurd (h refl));
          };
      day_sums_lem = λ p day out.
          let r = refusal_in (verdict_of p) in
          record {
            refusal = screen_refusal 32 out r;
            code_is = screen_code 32 out r refl;
            in_order = screen_number 32 out r (verdict_first p);
            place = screen_placed 32 out r (inl refl);
            keeps = screen_keeps 32 out r out _ (sums_same (verdict_of p) (day_sums p day) out);
          };
      register = λ r c.
          record { refusal = (answered r c).refusal; code_is = refl; in_order = register_first r c; place = answered_placed r c; keeps = register_same r c };
      releases = λ r n room out.
          let x = answered r (release n room) in
          record {
            refusal = screen_refusal 8 out x.refusal;
            code_is = screen_code 8 out x.refusal refl;
            in_order = screen_number 8 out x.refusal (register_first r (release n room));
            place = screen_placed 8 out x.refusal (answered_placed r (release n room));
            keeps = λ h. (
              screen_keeps 8 out x.refusal room _ (room_same r n room) h,
              screen_keeps 8 out x.refusal out _ (λ g. rw (not_done x.refusal g)) h,
            );
          };
      states = λ r n out.
          let x = answered r (state n) in
          record {
            refusal = screen_refusal 16 out x.refusal;
            code_is = screen_code 16 out x.refusal refl;
            in_order = screen_number 16 out x.refusal (register_first r (state n));
            place = screen_placed 16 out x.refusal (answered_placed r (state n));
            keeps = screen_keeps 16 out x.refusal out _ (λ g. rw (not_done x.refusal g));
          };
    }

pub demand1 : Demand1
demand1 = record { library = calls; screen = screen }
