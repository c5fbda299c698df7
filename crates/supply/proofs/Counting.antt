-- What the steps of supply answer: what the walk over the days does, in no more steps than days. Assumes nothing.
use Rattle.std.specs.Prelude.{Err, Ok}
use Prim.Native.Nat.{ℕ, ◌+◌, ◌-◌, ◌≤◌, ◌<◌}
use mathlib.Core.Bool.{Bool, true, false}
use mathlib.Core.List.{List}
use mathlib.Core.Logic.{⊎_elim}
use mathlib.Core.Path.{◌≡◌, refl}
use native.Mathlib.Omega.{arith}
use lib.Dec.{eqb}
use borrow.Author.Tests.{le-leb, lt-leb, le-ltb}
use Rattle.below.proofs.Tests.{bool_cases}
use Rattle.need.specs.Need.{need_on, stop_day, has_stop}
use Rattle.pause.specs.declared.Pause.{Pause}
use Rattle.refusal.specs.Refusals.{alone}
use Rattle.refusal.specs.declared.Refusal.{Refusal}
use Rattle.verdict.specs.Verdict.{verdict_of}
use Rattle.verdict.specs.Answers.{Answer}
use Rattle.supply.specs.Covered.{summed}
use Rattle.supply.specs.Steps.{State, after, steps_of, lasting_by, Counted, counted_by, counted_at, counted_of}
use Rattle.supply.specs.Supply.{lasting_of, lasting_in, refused_by, judged_of, passed_on}
use Rattle.supply.proofs.Covering.{summed_plus, summed_le, Walked, walk_begins, lasting_short, lasting_long}
use Rattle.supply.proofs.Stepping.{days_fit, days_none, days_at, stepped, after_keeps, after_ends}

-- the walk goes on by m days at once, where its rest has what they need: so it has what fewer of them need
walk_goes_far : (need : ℕ → ℕ) (start : ℕ) {k pack n rest : ℕ} (m : ℕ) → Walked need start k pack n rest → n + m ≤ k →
    summed need (start + n) m ≤ rest → Walked need start k pack (n + m) (rest - summed need (start + n) m)
walk_goes_far need start {k} {pack} {n} {rest} m w l h =
    record {
      within = l;
      sum = omega (arith, w.sum, summed_plus need start n m);
      none =
          λ i q.
          le-ltb pack (summed need start (i + 1))
          (omega (arith, w.sum, summed_plus need start n m, summed_le need start {m = i + 1} {n = n + m} (omega arith)));
    }

-- ---- the walk over the days, in steps
module _ (choice : ℕ) (p : List ℕ) (ps : List Pause) (start stop : ℕ) where
  abbrev need : ℕ → ℕ
  need = need_on choice p ps

  -- the walk comes to a state
  abbrev pub WalkedTo : ℕ → State → Type 0
  WalkedTo pack s = Walked (need_on choice p ps) start (stop + 1 - start) pack s.days s.rest

  -- and from there to the one behind a step
  pub step_walks : (pack : ℕ) (s : State) → 0 < days_at choice p ps start stop s → WalkedTo pack s → WalkedTo pack (stepped choice p ps start stop s)
  step_walks pack s z w =
      let f = days_fit choice p ps stop (start + s.days) s.rest z in
      walk_goes_far need start (days_at choice p ps start stop s) w (omega (arith, f.within)) f.enough

  -- where it ends if there is no step more
  over_lasts : (pack : ℕ) (s : State) → days_at choice p ps start stop s ≡ 0 → WalkedTo pack s → lasting_by start stop s ≡ lasting_of need start stop pack
  over_lasts pack s e w =
      ⊎_elim
      (λ (l : stop < start + s.days). rw (lt-leb (start + s.days) stop l) (lasting_long need start stop w refl (omega arith) refl))
      (λ (l : (start + s.days ≤ stop) × (s.rest < need (start + s.days))).
      rw (le-leb (start + s.days) stop l.0) (lasting_short need start stop w refl (omega (arith, l.0)) l.1))
      (days_none choice p ps stop (start + s.days) s.rest e)

  -- so what the steps answer is what the days do
  pub steps_last : (pack : ℕ) → lasting_by start stop (steps_of choice p ps start stop pack) ≡ lasting_of (need_on choice p ps) start stop pack
  steps_last pack =
      let s : State = record { rest = pack; days = 0; count = 0 } in
      let n = stop + 1 - start in
      over_lasts pack (after choice p ps start stop n s) (after_ends choice p ps start stop n s (omega arith))
      (after_keeps choice p ps start stop (WalkedTo pack) (step_walks pack) n s (walk_begins need start n pack))

  -- and there are no more steps than days
  pub steps_days : (pack : ℕ) → (steps_of choice p ps start stop pack).count ≤ (steps_of choice p ps start stop pack).days
  steps_days pack =
      after_keeps choice p ps start stop (λ s. s.count ≤ s.days) (λ s z h. omega arith) (stop + 1 - start) (record { rest = pack; days = 0; count = 0 }) (omega arith)

  -- but one at least, where there is a day
  pub steps_some : (pack : ℕ) → 0 < (steps_of choice p ps start stop pack).days → 0 < (steps_of choice p ps start stop pack).count
  steps_some pack =
      after_keeps choice p ps start stop (λ s. 0 < s.days → 0 < s.count) (λ s z h l. omega arith) (stop + 1 - start) (record { rest = pack; days = 0; count = 0 }) (λ l. l)

-- ---- the answer, and the count of its steps
module _ (p : List ℕ) (start pack choice : ℕ) (pausesOut : Bool) (ps : List Pause) where
  abbrev number : ℕ
  number = refused_by start pack choice pausesOut (has_stop choice p) (stop_day choice p)

  -- the answer once the plan is accepted
  counted_by_lem : (counted_by p start pack choice pausesOut ps).answer ≡ judged_of p start pack choice pausesOut ps
  unfolding counted_by judged_of
  counted_by_lem =
      ⊎_elim
      (λ (t : eqb number 0 ≡ true). rw (t, steps_last choice p ps start (stop_day choice p) pack))
      (λ (t : eqb number 0 ≡ false). rw t)
      (bool_cases (eqb number 0))

  -- the answer is the one that is walked day by day
  pub counted_answer : (counted_of p start pack choice pausesOut ps).answer ≡ passed_on (verdict_of p) (judged_of p start pack choice pausesOut ps)
  counted_answer = by_verdict (verdict_of p)
    where
      by_verdict : (a : Answer) → (counted_at a (counted_by p start pack choice pausesOut ps)).answer ≡ passed_on a (judged_of p start pack choice pausesOut ps)
      by_verdict (Ok n) = counted_by_lem
      by_verdict (Err r) = refl

  -- what holds of each refusal, which has no steps, and of the state after the last step holds of the answer and its count
  module _ (P : Counted → Type 0) (refused : (r : Refusal) → P (record { answer = Err r; count = 0 }))
      (lasts :
      let s = steps_of choice p ps start (stop_day choice p) pack in
      P (record { answer = Ok (lasting_by start (stop_day choice p) s); count = s.count })) where
    -- once the plan is accepted
    holds_by : P (counted_by p start pack choice pausesOut ps)
    unfolding counted_by
    holds_by =
        ⊎_elim
        (λ (t : eqb number 0 ≡ true). rw t lasts)
        (λ (t : eqb number 0 ≡ false). rw t (refused (alone number)))
        (bool_cases (eqb number 0))

    -- of any plan
    pub counted_holds : P (counted_of p start pack choice pausesOut ps)
    counted_holds = by_verdict (verdict_of p)
      where
        by_verdict : (a : Answer) → P (counted_at a (counted_by p start pack choice pausesOut ps))
        by_verdict (Ok n) = holds_by
        by_verdict (Err r) = refused r

  -- so there are no more steps than covered days
  pub counted_days : (counted_of p start pack choice pausesOut ps).count ≤ (lasting_in (counted_of p start pack choice pausesOut ps).answer).days
  counted_days =
      counted_holds (λ c. c.count ≤ (lasting_in c.answer).days) (λ r. omega arith)
      (steps_days choice p ps start (stop_day choice p) pack)

  -- but one at least, where a day is covered
  pub counted_some : 0 < (lasting_in (counted_of p start pack choice pausesOut ps).answer).days → 0 < (counted_of p start pack choice pausesOut ps).count
  counted_some =
      counted_holds (λ c. 0 < (lasting_in c.answer).days → 0 < c.count) (λ r l. l)
      (steps_some choice p ps start (stop_day choice p) pack)

  -- and no more than the bound that the steps keep
  pub counted_most : (n : ℕ) → (steps_of choice p ps start (stop_day choice p) pack).count ≤ n → (counted_of p start pack choice pausesOut ps).count ≤ n
  counted_most n l = counted_holds (λ c. c.count ≤ n) (λ r. omega arith) l
