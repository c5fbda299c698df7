-- The witnesses. Assumes nothing.
use Rattle.refusal.specs.Refusals.{refusal_in}
use Rattle.std.specs.Prelude.{Ok}
use Prim.Native.Nat.{ℕ}
use mathlib.Core.Bool.{true, false}
use mathlib.Core.List.{List, [], ◌∷◌}
use mathlib.Core.Path.{◌≡◌, refl, ap, ◌∙◌}
use native.Mathlib.Omega.{arith}
use lib.ListN.{length, length-replicate}
use Rattle.below.specs.Below.{first_from, first_below, any_below, sum_below, largest_below}
use Rattle.below.specs.Lists.{list_below, pick_below, join_below, join_over, sum_over, keep}
use Rattle.block.specs.Bytes.{number_at, bytes_of, put}
use Rattle.block.specs.Sums.{sealed}
use Rattle.doses.specs.Doses.{position_of, doses_of_period, doses_on}
use Rattle.layout.specs.Layout.{filled, head_bytes, period_start, period_block, body_of, laid_out}
use Rattle.plan.specs.Fields.{dose_of, dose_bytes}
use Rattle.plan.specs.Periods.{block_at, more_of, doses_of, dose_in, has_unmarked, has_marked, class_of}
use Rattle.register.proofs.Promise.{begins}
use Rattle.register.specs.History.{Event, is_ok}
use Rattle.register.specs.Runs.{numbers_of}
use Rattle.register.specs.Promise.{given_by}
use Rattle.register.specs.Reached.{seen, Reached, Reached.called}
use Rattle.register.specs.Steps.{Call.clear, Call.submit, Call.sign, Call.release, after}
use Rattle.split.specs.Parts.{is_of_part, next_dosed, has_run}
use Rattle.split.specs.Split.{split_of}
use Rattle.need.specs.Need.{choice_of, due_on, need_on, stop_day_by, has_stop_by}
use Rattle.supply.specs.Covered.{covered}
use Rattle.supply.specs.Supply.{lasting_of, asked_by, own_by, judged_of}
use Rattle.pause.specs.Pauses.{is_paused, are_out, packed_in, pauses_in}
use Rattle.verdict.specs.Coverage.{is_member}
use Rattle.promises.specs.Cases.{two_daily, one_slot, output, signed_plan, A, B}
use Rattle.promises.specs.Demand3.{fixed_part, need_part}
use Rattle.promises.specs.Plans.{head, unmarked, marked, daily, fixed, need, mixed, empty, plan, revision}
use Rattle.promises.specs.Witnesses.{part_room, both_marks, Witnesses}
use Rattle.promises.proofs.Accepting.{verdicts}
use Rattle.promises.proofs.Dates.{by_both, by_needed, four_dates, end_date, only_need_lem, need_dates, packed_four_dates, packed_end_date, packed_need_dates}
use Rattle.promises.proofs.Demand3.{demand3}
use Rattle.promises.proofs.Paper.{numbered, four_ok, slot_bytes_lem, slot_long, output_long}
use Rattle.promises.proofs.Releases.{released_numbers, released_plan, released_ok}
use Rattle.promises.proofs.Supplies.{P10, P11}
use Rattle.promises.proofs.Verdicts.{P7, P9, two_accepted, four_bytes, both_accepted, both_bytes}
use Rattle.promises.proofs.Weekly.{in_one_period, seven_days, four_rounds, two_steps, packed_two_steps, seven_steps}

record Computed : Type 0 where
  run : has_run false (plan (fixed 6547 6550 ∷ empty 6551 6556 ∷ fixed 6557 6560 ∷ [])) 1 ≡ true
  long : length (signed_plan 4) ≡ 1024
  fixed_doses : keep (is_of_part false) (doses_on both_marks 6548) ≡ unmarked 100 ∷ []
  need_doses : keep (is_of_part true) (doses_on both_marks 6548) ≡ marked 100 ∷ []
  calendar : judged_of (plan two_daily) 73047 500 2 (are_out []) [] ≡ Ok (record { days = 2; last = 73048; rest = 100; reason = 3 })
  packed_calendar : judged_of (plan two_daily) 73047 500 2 (are_out (pauses_in [])) (pauses_in []) ≡ Ok (record { days = 2; last = 73048; rest = 100; reason = 3 })

computed : Computed
unfolding head unmarked marked daily fixed need mixed empty revision two_daily signed_plan filled head_bytes period_start dose_bytes period_block body_of laid_out number_at bytes_of put sealed list_below join_over first_from first_below any_below sum_below largest_below dose_of block_at more_of doses_of dose_in has_unmarked has_marked class_of pick_below join_below sum_over position_of doses_of_period doses_on is_paused packed_in are_out judged_of asked_by own_by lasting_of need_on due_on choice_of stop_day_by has_stop_by covered keep is_member next_dosed
computed = record { run = refl; long = refl; fixed_doses = refl; need_doses = refl; calendar = refl; packed_calendar = refl }

-- the split of the plan with both marks
pub room_long : length part_room ≡ 32768
unfolding part_room
room_long = length-replicate {A = ℕ} 32768 0

split_done : (refusal_in (split_of both_marks part_room part_room)).number ≡ 0
unfolding split_of
split_done = rw (both_accepted, room_long)

abbrev doses : (doses_on (fixed_part both_marks part_room part_room) 6548 ≡ keep (is_of_part false) (doses_on both_marks 6548))
    × (doses_on (need_part both_marks part_room part_room) 6548 ≡ keep (is_of_part true) (doses_on both_marks 6548))
doses = demand3.splitting both_marks part_room part_room both_bytes split_done 6548 (omega arith)

-- the register from which the plan is released, and what was seen of it
module _ where
  abbrev p : List ℕ
  p = signed_plan 4

  abbrev last : List ℕ
  last = after (after (after (after one_slot clear) (submit p)) (sign A p)) (sign B p)

  numbers : numbers_of one_slot (clear ∷ submit p ∷ sign A p ∷ sign B p ∷ release 1 output ∷ []) ≡ 0 ∷ 0 ∷ 0 ∷ 0 ∷ 0 ∷ []
  numbers =
      rw numbered.four at
      (released_numbers p four_bytes four_ok A B (λ e. omega arith) (omega arith) (λ e. omega arith) (omega arith) (λ e. omega arith)
      one_slot slot_bytes_lem slot_long output output_long)

  gives : given_by last 1 output ≡ p
  gives =
      rw numbered.four at
      (released_plan p four_bytes four_ok A B (λ e. omega arith) (omega arith) (λ e. omega arith) (omega arith) (λ e. omega arith)
      one_slot slot_bytes_lem slot_long output output_long)

  is_ok_lem : is_ok (seen last (release 1 output)) ≡ true
  is_ok_lem =
      rw numbered.four at
      (released_ok p four_bytes four_ok A B (λ e. omega arith) (omega arith) (λ e. omega arith) (omega arith) (λ e. omega arith)
      one_slot slot_bytes_lem slot_long output output_long)

  reached : (h : List Event) × Reached h last
  reached = (_, called (sign B p) (omega arith) (called (sign A p) (omega arith) (called (submit p) four_bytes (begins one_slot slot_bytes_lem slot_long))))

pub witnesses : Witnesses
witnesses =
    record {
      accepted = ap refusal_in P7;
      broken = rw (ap refusal_in P9) at (verdicts.broken_only (plan (fixed 6547 6550 ∷ mixed 6548 6551 ∷ [])) (λ e. let z = rw P9 at e in omega (arith, z)));
      run = computed.run;
      calls = numbers;
      released = (reached.0, last, reached.1, is_ok_lem, gives);
      long = computed.long;
      is_bytes = both_bytes;
      parted = split_done;
      fixed_dose = doses.0 ∙ computed.fixed_doses;
      need_dose = doses.1 ∙ computed.need_doses;
      needs_more = P11.1;
      dosage_ends = P10.1;
      calendar_ends = rw two_accepted computed.calendar;
      packed_needs_more = P11.3;
      packed_dosage_ends = P10.3;
      packed_calendar_ends = rw two_accepted computed.packed_calendar;
      by_both = by_both;
      by_needed = by_needed;
      four_dates = four_dates;
      end_date = end_date;
      need_only = only_need_lem;
      need_dates = need_dates;
      packed_four_dates = packed_four_dates;
      packed_end_date = packed_end_date;
      packed_need_dates = packed_need_dates;
      in_one_period = in_one_period;
      seven_days = seven_days;
      four_rounds = four_rounds;
      two_steps = two_steps;
      packed_two_steps = packed_two_steps;
      seven_steps = seven_steps;
    }
