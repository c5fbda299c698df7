-- Where two choices agree, on a day's need and on the stop day; 3 and 4 do where no period is fixed or mixed. Assumes nothing.
use Rattle.std.proofs.Common.{◌≡◌, ℕ, ◌<◌, min, Bool, true, false, cond, not, List, [], sym, refl, ap, ◌∙◌, ⊎_elim, arith}
use borrow.Author.Tests.{not-false}
use Rattle.below.proofs.Lists.{sum_pick, sum_join}
use Rattle.below.proofs.Search.{any_same, any_not}
use Rattle.below.proofs.Tests.{bool_cases, true_not_false, and_both}
use Rattle.below.proofs.Total.{sum_same}
use Rattle.below.specs.Lists.{sum_over}
use Rattle.doses.specs.Doses.{covers, position_of, applies, doses_of_period, doses_on}
use Rattle.plan.specs.Fields.{last_of, is_marked, header_of}
use Rattle.plan.specs.Periods.{blocks_of, block_at, is_period, doses_of, dose_in, has_unmarked, has_marked, class_by, class_of}
use Rattle.need.specs.Need.{fixed_or_mixed, with_doses, need_or_mixed, choice_of, due_on, chosen, stops_at, stop_day_by, has_stop_by, stop_day, has_stop}
use Rattle.need.proofs.Chosen.{due_chosen}
use Rattle.need.proofs.Found.{largest_same}

-- two choices by which every dose of every period that has the day counts the same
module _ (m n : ℕ) (p : List ℕ) (d : ℕ)
    (same : (b j : ℕ) → b < blocks_of p → covers p d b ≡ true → j < doses_of p b → chosen m (dose_in p b j) ≡ chosen n (dose_in p b j)) where
  period_same : (b : ℕ) → b < blocks_of p → covers p d b ≡ true → sum_over (chosen m) (doses_of_period p d b) ≡ sum_over (chosen n) (doses_of_period p d b)
  unfolding doses_of_period
  period_same b l t =
      let has : ℕ → Bool = λ j. applies (position_of (header_of (block_at p b)) d) (dose_in p b j) in
      sum_pick (chosen m) (doses_of p b) has (dose_in p b) ∙
      sum_same _ _ (doses_of p b) (λ j h. ap (λ (x : ℕ). cond (has j) x 0) (same b j l t h)) ∙
      sym (sum_pick (chosen n) (doses_of p b) has (dose_in p b))

  block_same : (b : ℕ) → b < blocks_of p →
      sum_over (chosen m) (cond (covers p d b) (doses_of_period p d b) []) ≡ sum_over (chosen n) (cond (covers p d b) (doses_of_period p d b) [])
  unfolding sum_over
  block_same b l =
      ⊎_elim (λ (t : covers p d b ≡ true). rw t (period_same b l t)) (λ (t : covers p d b ≡ false). rw t) (bool_cases (covers p d b))

  -- .. need the same on that day
  pub due_same : due_on m p d ≡ due_on n p d
  unfolding doses_on
  due_same =
      due_chosen m p d ∙
      sum_join (chosen m) (min (blocks_of p) 64) _ ∙
      sum_same _ _ (min (blocks_of p) 64) (λ b l. block_same b (omega arith)) ∙
      sym (sum_join (chosen n) (min (blocks_of p) 64) _) ∙
      sym (due_chosen n p d)

-- two choices that stop by the same periods
module _ (m n : ℕ) (p : List ℕ) (same : (b : ℕ) → b < blocks_of p → is_period p b ≡ true → (choice_of m).stops (class_of p b) ≡ (choice_of n).stops (class_of p b)) where
  stops_same : (b : ℕ) → b < blocks_of p → stops_at m (class_of p) p b ≡ stops_at n (class_of p) p b
  stops_same b l =
      ⊎_elim (λ (t : is_period p b ≡ true). rw t (same b l t)) (λ (t : is_period p b ≡ false). rw t) (bool_cases (is_period p b))

  -- .. stop on the same day
  pub has_stop_same : has_stop m p ≡ has_stop n p
  unfolding has_stop_by
  has_stop_same = any_same _ _ (blocks_of p) stops_same

  pub stop_day_same : stop_day m p ≡ stop_day n p
  unfolding stop_day_by
  stop_day_same = largest_same (blocks_of p) (λ b l. ap (λ (t : Bool). cond t (last_of (block_at p b)) 0) (stops_same b l))

-- a class that is neither fixed nor mixed: none unmarked, and need where there are doses
none_unmarked : (u m : Bool) → fixed_or_mixed (class_by u m) ≡ false → u ≡ false
none_unmarked true true e = absurd (true_not_false refl e)
none_unmarked true false e = absurd (true_not_false refl e)
none_unmarked false m e = refl

need_or_empty : (u m : Bool) → u ≡ false → with_doses (class_by u m) ≡ need_or_mixed (class_by u m)
need_or_empty true m e = absurd (true_not_false refl e)
need_or_empty false true e = refl
need_or_empty false false e = refl

-- all doses of such a period are marked, and choices 3 and 4 stop by it alike
module _ (p : List ℕ) (b : ℕ) (e : fixed_or_mixed (class_of p b) ≡ false) where
  no_unmarked : has_unmarked p b ≡ false
  unfolding class_of
  no_unmarked = none_unmarked (has_unmarked p b) (has_marked p b) e

  pub all_marked : (j : ℕ) → j < doses_of p b → is_marked (dose_in p b j) ≡ true
  unfolding has_unmarked
  all_marked j l = not-false _ (any_not (λ (j : ℕ). not (is_marked (dose_in p b j))) no_unmarked j l)

  both_stop : with_doses (class_of p b) ≡ need_or_mixed (class_of p b)
  unfolding class_of
  both_stop = need_or_empty (has_unmarked p b) (has_marked p b) no_unmarked

-- where no period is fixed or mixed
module _ (p : List ℕ) (e : has_stop 1 p ≡ false) where
  none_fixed : (b : ℕ) → b < blocks_of p → is_period p b ≡ true → fixed_or_mixed (class_of p b) ≡ false
  unfolding has_stop_by choice_of
  none_fixed b l t = rw t at (any_not (stops_at 1 (class_of p) p) e b l)

  -- choices 3 and 4 need the same on every day, since all doses are marked
  pub same_need : (d : ℕ) → due_on 3 p d ≡ due_on 4 p d
  unfolding choice_of
  same_need d = due_same 3 4 p d (λ b j l t h. rw (all_marked p b (none_fixed b l (and_both _ _ t).0) j h))

  -- and they stop on the same day
  same_stops : (b : ℕ) → b < blocks_of p → is_period p b ≡ true → (choice_of 3).stops (class_of p b) ≡ (choice_of 4).stops (class_of p b)
  unfolding choice_of
  same_stops b l t = both_stop p b (none_fixed b l t)

  pub same_has_stop : has_stop 3 p ≡ has_stop 4 p
  same_has_stop = has_stop_same 3 4 p same_stops

  pub same_stop_day : stop_day 3 p ≡ stop_day 4 p
  same_stop_day = stop_day_same 3 4 p same_stops
