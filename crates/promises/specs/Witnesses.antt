-- No promise holds for want of a case: a plan that is accepted and one that is not, a history that does release, a plan with doses
-- in both parts on one day, supplies that cover days and stop for each reason, sets of dates of each kind, and supplies in fewer steps
-- than days.
use Rattle.refusal.specs.Refusals.{refusal_in}
use Rattle.std.specs.Prelude.{ℕ, ◌*◌, true, false, List, [], ◌∷◌, ◌≡◌, length, replicate, Ok}
use Rattle.day.specs.Days.{open_mark}
use Rattle.doses.specs.Doses.{doses_on}
use Rattle.layout.specs.Layout.{Written}
use Rattle.need.specs.Need.{stop_day}
use Rattle.plan.specs.Fields.{interval_of}
use Rattle.plan.specs.Periods.{block_at}
use Rattle.register.specs.History.{Event, is_ok}
use Rattle.register.specs.Promise.{given_by}
use Rattle.register.specs.Reached.{seen, IsBytes, Reached}
use Rattle.register.specs.Runs.{numbers_of}
use Rattle.register.specs.Steps.{Call.clear, Call.submit, Call.sign, Call.release}
use Rattle.split.specs.Parts.{has_run}
use Rattle.split.specs.Split.{split_of}
use Rattle.supply.specs.Dates.{dates_of, packed_dates_of}
use Rattle.supply.specs.Steps.{days_from}
use Rattle.supply.specs.Supply.{supply_of, packed_supply_of}
use Rattle.promises.specs.Cases.{one_daily, two_daily, one_slot, output, signed_plan, A, B}
use Rattle.promises.specs.Demand2.{IsAccepted, IsLowest}
use Rattle.promises.specs.Demand3.{fixed_part, need_part}
use Rattle.promises.specs.Plans.{unmarked, marked, ranging, iterated, daily, fixed, mixed, empty, plan}
use Rattle.promises.specs.Rounds.{in_steps, packed_in_steps, InOnePeriod}
use Rattle.promises.specs.Sets.{NeedOnly}

-- a buffer for a part
unfoldable pub part_room : List ℕ
part_room = replicate 32768 0

abbrev pub both_marks : List ℕ
both_marks = plan (mixed 6547 6550 ∷ [])

-- 1.00 to 2.00 daily, and 3.00 daily as needed; the latter by itself
unfoldable pub both_kinds : List Written
both_kinds = daily 8000 open_mark (ranging 100 200 ∷ []) ∷ daily 8000 open_mark (marked 300 ∷ []) ∷ []

unfoldable pub only_need : List Written
only_need = daily 8000 open_mark (marked 300 ∷ []) ∷ []

-- 1.00 on the first day of each week, to 8105
unfoldable pub weekly : List Written
weekly = iterated 7 8000 8105 (unmarked 100 ∷ []) ∷ []

pub record Witnesses : Type 0 where
  -- demands 1 and 2: P7 is accepted, P9 breaks rule 16 at block 2, and P7's fixed part has a run
  pub accepted : IsAccepted (plan (fixed 6547 6550 ∷ empty 6551 6556 ∷ fixed 6557 6560 ∷ []))
  pub broken : IsLowest (plan (fixed 6547 6550 ∷ mixed 6548 6551 ∷ [])) 16 2
  pub run : has_run false (plan (fixed 6547 6550 ∷ empty 6551 6556 ∷ fixed 6557 6560 ∷ [])) 1 ≡ true
  -- demand 3: calls that release a plan of 1,024 bytes
  pub calls : numbers_of one_slot (clear ∷ submit (signed_plan 4) ∷ sign A (signed_plan 4) ∷ sign B (signed_plan 4) ∷ release 1 output ∷ []) ≡ 0 ∷ 0 ∷ 0 ∷ 0 ∷ 0 ∷ []
  pub released : (h : List Event) × (r : List ℕ) × Reached h r × (is_ok (seen r (release 1 output)) ≡ true)
      × (given_by r 1 output ≡ signed_plan 4)
  pub long : length (signed_plan 4) ≡ 1024
  -- a split that is not refused, and a day on which both parts have a dose
  pub is_bytes : IsBytes both_marks
  pub parted : (refusal_in (split_of both_marks part_room part_room)).number ≡ 0
  pub fixed_dose : doses_on (fixed_part both_marks part_room part_room) 6548 ≡ unmarked 100 ∷ []
  pub need_dose : doses_on (need_part both_marks part_room part_room) 6548 ≡ marked 100 ∷ []
  -- supplies that stop for reason 1, 2 and 3, with a list of pauses and in the call that the screen makes
  pub needs_more : supply_of (plan two_daily) 8077 500 2 [] ≡ Ok (record { days = 2; last = 8078; rest = 100; reason = 1 })
  pub dosage_ends : supply_of (plan one_daily) 8077 50000 2 [] ≡ Ok (record { days = 29; last = 8105; rest = 47100; reason = 2 })
  pub calendar_ends : supply_of (plan two_daily) 73047 500 2 [] ≡ Ok (record { days = 2; last = 73048; rest = 100; reason = 3 })
  pub packed_needs_more : packed_supply_of (plan two_daily) 8077 500 2 [] ≡ Ok (record { days = 2; last = 8078; rest = 100; reason = 1 })
  pub packed_dosage_ends : packed_supply_of (plan one_daily) 8077 50000 2 [] ≡ Ok (record { days = 29; last = 8105; rest = 47100; reason = 2 })
  pub packed_calendar_ends : packed_supply_of (plan two_daily) 73047 500 2 [] ≡ Ok (record { days = 2; last = 73048; rest = 100; reason = 3 })
  -- W1: a supply by each of its two choices; a set with a minimum, a maximum and dates 3 and 4, all different, one with an end date, and
  -- one of a need-only plan; with a list of pauses and in the call that the screen makes
  pub by_both : supply_of (plan both_kinds) 8077 1200 3 [] ≡ Ok (record { days = 2; last = 8078; rest = 200; reason = 1 })
  pub by_needed : supply_of (plan both_kinds) 8077 1200 4 [] ≡ Ok (record { days = 4; last = 8080; rest = 0; reason = 1 })
  pub four_dates : dates_of (plan both_kinds) 8077 1200 [] ≡ Ok (record { end = open_mark; minimum = 8088; maximum = 8082; third = 8078; fourth = 8080 })
  pub end_date : dates_of (plan one_daily) 8077 50000 [] ≡ Ok (record { end = 8105; minimum = open_mark; maximum = open_mark; third = open_mark; fourth = open_mark })
  pub need_only : NeedOnly (plan only_need)
  pub need_dates : dates_of (plan only_need) 8077 1200 [] ≡ Ok (record { end = open_mark; minimum = open_mark; maximum = open_mark; third = 8080; fourth = 8080 })
  pub packed_four_dates : packed_dates_of (plan both_kinds) 8077 1200 [] ≡ Ok (record { end = open_mark; minimum = 8088; maximum = 8082; third = 8078; fourth = 8080 })
  pub packed_end_date : packed_dates_of (plan one_daily) 8077 50000 [] ≡ Ok (record { end = 8105; minimum = open_mark; maximum = open_mark; third = open_mark; fourth = open_mark })
  pub packed_need_dates : packed_dates_of (plan only_need) 8077 1200 [] ≡ Ok (record { end = open_mark; minimum = open_mark; maximum = open_mark; third = 8080; fourth = 8080 })
  -- W12: a call in a plan of one iterated period, without pauses, with 29 days in two steps, the first of which takes four rounds of seven
  -- days; and one with as many steps as a round has days: three rounds at once, and six days up to one that needs more than the rest
  pub in_one_period : InOnePeriod (plan weekly) 8077 [] 1
  pub seven_days : interval_of (block_at (plan weekly) 1) ≡ 7
  pub four_rounds : days_from 2 (plan weekly) [] (stop_day 2 (plan weekly)) 8077 50000 ≡ 4 * 7
  pub two_steps : in_steps (plan weekly) 8077 50000 2 [] ≡ record { answer = Ok (record { days = 29; last = 8105; rest = 49500; reason = 2 }); count = 2 }
  pub packed_two_steps : packed_in_steps (plan weekly) 8077 50000 2 [] ≡ record { answer = Ok (record { days = 29; last = 8105; rest = 49500; reason = 2 }); count = 2 }
  pub seven_steps : in_steps (plan weekly) 8078 350 2 [] ≡ record { answer = Ok (record { days = 27; last = 8104; rest = 50; reason = 1 }); count = 7 }
