-- The refusals of supply and of the set of dates: what holds where none is given, and which is first. Assumes nothing.
use Prim.Native.Nat.{ℕ, ◌≤◌, ◌<◌}
use mathlib.Core.Bool.{Bool, true, false, cond, not, ◌||◌}
use mathlib.Core.List.{List}
use mathlib.Core.Logic.{⊎_elim}
use mathlib.Core.Path.{◌≡◌, refl}
use native.Mathlib.Omega.{arith}
use lib.Dec.{ltb}
use borrow.Author.Tests.{ltb-false, leb-true, not-false}
use Rattle.below.proofs.Tests.{bool_cases, and_both, or_neither}
use Rattle.below.proofs.Total.{largest_least}
use Rattle.day.specs.Days.{is_day, last_number}
use Rattle.form.proofs.Formed.{dated}
use Rattle.need.proofs.Found.{last_if}
use Rattle.need.specs.Need.{is_choice, stops_at, stop_day_by, stop_day}
use Rattle.plan.specs.Fields.{last_of}
use Rattle.plan.specs.Periods.{blocks_of, block_at, is_period, class_of}
use Rattle.verdict.proofs.Exactly.{NoRuleBroken, formed_of}
use Rattle.supply.specs.Supply.{asked_by, own_by, refused_by}

-- a chain of refusals that ends in 0 passed the first
passed : (t : Bool) (k x : ℕ) → 0 < k → cond t k x ≡ 0 → (t ≡ false) × (x ≡ 0)
passed true k x l e = absurd (omega arith)
passed false k x l e = (refl, e)

-- 20 to 22
module _ (start pack : ℕ) (out : Bool) where
  pub record Fair : Type 0 where
    pub pack_in : pack ≤ 1000000000000
    pub pauses_in_lem : out ≡ false
    pub start_in : start ≤ last_number

  pub fair : (behind : ℕ) → asked_by start pack out behind ≡ 0 → Fair × (behind ≡ 0)
  unfolding asked_by
  fair behind e =
      let a = passed (ltb 1000000000000 pack) 20 _ (omega arith) e in
      let b = passed out 21 _ (omega arith) a.1 in
      let c = passed (not (is_day start)) 22 _ (omega arith) b.1 in
      (record { pack_in = ltb-false _ _ a.0; pauses_in_lem = b.0; start_in = leb-true _ _ (not-false _ c.0) }, c.1)

  -- where none of them is given it is what comes behind, and else the first of them
  pub asked_none : (behind : ℕ) → asked_by start pack out 0 ≡ 0 → asked_by start pack out behind ≡ behind
  unfolding asked_by
  asked_none behind e =
      let a = passed (ltb 1000000000000 pack) 20 _ (omega arith) e in
      let b = passed out 21 _ (omega arith) a.1 in
      let c = passed (not (is_day start)) 22 _ (omega arith) b.1 in
      rw (a.0, b.0, c.0)

  first_of_lem : (t : Bool) (k x y : ℕ) → ((x ≡ 0 → ⊥) → y ≡ x) → (cond t k x ≡ 0 → ⊥) → cond t k y ≡ cond t k x
  first_of_lem true k x y h n = refl
  first_of_lem false k x y h n = h n

  pub asked_first : (behind : ℕ) → (asked_by start pack out 0 ≡ 0 → ⊥) → asked_by start pack out behind ≡ asked_by start pack out 0
  unfolding asked_by
  asked_first behind =
      first_of_lem (ltb 1000000000000 pack) 20 _ _
      (first_of_lem out 21 _ _
      (first_of_lem (not (is_day start)) 22 0 behind (λ n. absurd (n refl))))

-- all of them
pub record Unrefused (start pack choice : ℕ) (pausesOut anyStop : Bool) (stop : ℕ) : Type 0 where
  pub pack_in : pack ≤ 1000000000000
  pub pauses_in_lem : pausesOut ≡ false
  pub start_in : start ≤ last_number
  pub choice_in : is_choice choice ≡ true
  pub some_stop : anyStop ≡ true
  pub stop_in : start ≤ stop

-- 23 and 24
pub record Stopping (start choice : ℕ) (anyStop : Bool) (stop : ℕ) : Type 0 where
  pub choice_in : is_choice choice ≡ true
  pub some_stop : anyStop ≡ true
  pub stop_in : start ≤ stop

pub stopping : (start choice : ℕ) (anyStop : Bool) (stop : ℕ) → own_by start choice anyStop stop ≡ 0 → Stopping start choice anyStop stop
unfolding own_by
stopping start choice anyStop stop e =
    let d = passed (not (is_choice choice)) 23 _ (omega arith) e in
    let f = passed (not anyStop || ltb stop start) 24 _ (omega arith) d.1 in
    let g = or_neither (not anyStop) (ltb stop start) f.0 in
    record { choice_in = not-false _ d.0; some_stop = not-false _ g.0; stop_in = ltb-false _ _ g.1 }

pub unrefused : (start pack choice : ℕ) (pausesOut anyStop : Bool) (stop : ℕ) → refused_by start pack choice pausesOut anyStop stop ≡ 0 → Unrefused start pack choice pausesOut anyStop stop
unrefused start pack choice pausesOut anyStop stop e =
    let a = fair start pack pausesOut (own_by start choice anyStop stop) e in
    let s = stopping start choice anyStop stop a.1 in
    record {
      pack_in = a.0.pack_in;
      pauses_in_lem = a.0.pauses_in_lem;
      start_in = a.0.start_in;
      choice_in = s.choice_in;
      some_stop = s.some_stop;
      stop_in = s.stop_in;
    }

-- the stop day is no later than a day that is no earlier than any period's last
pub stop_day_least : (choice : ℕ) (p : List ℕ) (d : ℕ) → ((b : ℕ) → b < blocks_of p → is_period p b ≡ true → last_of (block_at p b) ≤ d) → stop_day choice p ≤ d
unfolding stop_day_by
stop_day_least choice p d h =
    let stops = stops_at choice (class_of p) p in
    largest_least (last_if stops (λ b. last_of (block_at p b))) d (blocks_of p)
    (λ b l.
    ⊎_elim
    (λ (t : stops b ≡ true). rw t (h b l (and_both _ _ t).0))
    (λ (t : stops b ≡ false). rw t (omega arith))
    (bool_cases (stops b)))

-- so it is a day of the calendar
pub stop_day_in : (choice : ℕ) (p : List ℕ) → NoRuleBroken p → stop_day choice p ≤ last_number
stop_day_in choice p n = stop_day_least choice p last_number (λ b l t. (dated (formed_of p n) b l t).1)
