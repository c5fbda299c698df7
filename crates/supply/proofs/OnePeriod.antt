-- A plan of one iterated period, at block b, asked from its first day on or later and with no pause: if each round needs the same, supply
-- takes no more steps than a round has days. Assumes nothing.
use Prim.Native.Nat.{ℕ, ◌+◌, ◌*◌, ◌≤◌, ◌<◌}
use mathlib.Core.Bool.{Bool, true, false, not}
use mathlib.Core.List.{List, []}
use mathlib.Core.Path.{◌≡◌}
use native.Mathlib.Omega.{arith}
use lib.Dec.{eqb, ltb}
use borrow.Author.Tests.{le-leb, lt-ltb, eqb-false, not-true}
use Rattle.below.proofs.Search.{any_none, any_zero, first_is}
use Rattle.below.proofs.Tests.{not_true_false, and_both, both_and}
use Rattle.doses.specs.Doses.{covers}
use Rattle.need.specs.Need.{need_on, stop_day}
use Rattle.pause.specs.Pauses.{is_paused}
use Rattle.pause.specs.declared.Pause.{Pause}
use Rattle.plan.specs.Fields.{interval_of, first_of, last_of}
use Rattle.plan.specs.Periods.{blocks_of, block_at, is_period}
use Rattle.supply.specs.Covered.{summed}
use Rattle.supply.specs.Steps.{has_other, is_alone, is_inside, iterated_on, counted_of}
use Rattle.supply.proofs.Accepted.{covers_period}
use Rattle.supply.proofs.Bounding.{steps_few}
use Rattle.supply.proofs.Counting.{counted_most}
use Rattle.supply.proofs.Refusing.{stop_day_least}

-- an empty list has no pause
pub none_paused : (d : ℕ) → is_paused [] d ≡ false
unfolding is_paused
none_paused d = any_zero _

module _ (p : List ℕ) (b : ℕ) (only : (c : ℕ) → c < blocks_of p → is_period p c ≡ true → c ≡ b) where
  -- a day that some period has is a day of that one
  only_covers : (d c : ℕ) → c < blocks_of p → covers p d c ≡ true → c ≡ b
  only_covers d c l t = only c l (covers_period p d c t)

  -- so no other period has it
  only_alone : (choice d : ℕ) → has_other choice p b d ≡ false
  unfolding has_other
  only_alone choice d =
      any_none _
      (λ c l.
      not_true_false _
      (λ t.
      let x = and_both (not (eqb c b)) _ t in
      let y = and_both (covers p d c) _ x.1 in
      eqb-false c b (not-true _ x.0) (only_covers d c l y.0)))

  -- the stop day is no later than its last day
  pub only_stop : (choice : ℕ) → stop_day choice p ≤ last_of (block_at p b)
  only_stop choice = stop_day_least choice p (last_of (block_at p b)) (λ c l t. rw (only c l t) (omega arith))

  module _ (ps : List Pause) (start stop : ℕ) (period : is_period p b ≡ true) (begun : first_of (block_at p b) ≤ start) (unended : stop ≤ last_of (block_at p b))
      (unpaused : (d : ℕ) → start ≤ d → d ≤ stop → is_paused ps d ≡ false) where
    -- each day from the start to the stop day is inside it
    pub only_inside : (choice d : ℕ) → start ≤ d → d ≤ stop → is_inside choice p ps b d ≡ true
    only_inside choice d a z =
        rw (unpaused d a z, period, only_alone choice d, le-leb (first_of (block_at p b)) d (omega arith), le-leb d (last_of (block_at p b)) (omega arith))

    -- so it is the iterated period of that day
    pub only_iterated : (choice : ℕ) → b < blocks_of p → 0 < interval_of (block_at p b) → (d : ℕ) → start ≤ d → d ≤ stop → iterated_on choice p ps d ≡ b
    unfolding iterated_on
    only_iterated choice here some d a z =
        first_is _ here
        (λ c l.
        not_true_false _
        (λ t.
        let x = and_both (ltb 0 (interval_of (block_at p c))) (is_inside choice p ps c d) t in
        let y = and_both (not (is_paused ps d)) (is_alone choice p c d) x.1 in
        let e = only_covers d c (omega arith) (and_both (covers p d c) _ y.1).0 in
        omega arith))
        (both_and (lt-ltb 0 (interval_of (block_at p b)) some) (only_inside choice d a z))

  -- so supply takes no more steps than a round has days, whatever the pack
  pub only_few : (choice : ℕ) (ps : List Pause) (start R : ℕ) →
      is_period p b ≡ true → b < blocks_of p → 0 < interval_of (block_at p b) → first_of (block_at p b) ≤ start →
      ((d : ℕ) → start ≤ d → d ≤ stop_day choice p → is_paused ps d ≡ false) →
      ((d m : ℕ) → start ≤ d → d + m * interval_of (block_at p b) ≤ stop_day choice p + 1 →
      summed (need_on choice p ps) d (m * interval_of (block_at p b)) ≡ m * R) →
      (pack : ℕ) (pausesOut : Bool) → (counted_of p start pack choice pausesOut ps).count ≤ interval_of (block_at p b)
  only_few choice ps start R period here some begun unpaused rounds pack pausesOut =
      let stop = stop_day choice p in
      counted_most p start pack choice pausesOut ps (interval_of (block_at p b))
      (steps_few choice p ps b R start stop some
      (only_inside ps start stop period begun (only_stop choice) unpaused choice)
      (only_iterated ps start stop period begun (only_stop choice) unpaused choice here some)
      rounds pack)
