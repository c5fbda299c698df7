-- The walk by steps: that a step of the code is one of the definition, what holds at each turn of the loop, and that what it ends in is the
-- answer. Assumes nothing.
use Rattle.std.specs.Prelude.{Ok}
use Prim.Native.Nat.{ℕ, ◌+◌, ◌-◌, ◌≤◌, ◌<◌}
use mathlib.Core.List.{List}
use mathlib.Core.Path.{◌≡◌, refl, sym, ap, ◌∙◌}
use native.Mathlib.Omega.{arith}
use Rattle.day.specs.Days.{open_mark}
use Rattle.need.specs.Need.{need_on}
use Rattle.need.specs.Telling.{Tells}
use Rattle.pause.proofs.InSight.{sight_reached, sight_steady, sight_ends}
use Rattle.pause.specs.Sight.{sight_of}
use Rattle.pause.specs.declared.Pause.{Pause}
use Rattle.pause.specs.declared.Sight.{Sight}
use Rattle.supply.specs.Covered.{summed}
use Rattle.supply.specs.Steps.{State, days_from, after, steps_of, lasting_by}
use Rattle.supply.specs.Supply.{lasting_of}
use Rattle.supply.specs.Code.Asking.{answered_by, Begins}
use Rattle.supply.specs.Code.Walking.{Looking, Going, Able, Stood, Ready, Seen, Advanced, state_of, outcome_of, Onward, Went, lasting_at, Ended}
use Rattle.supply.specs.declared.Lasting.{Lasting}
use Rattle.supply.specs.declared.ask.Asked.{Asked}
use Rattle.supply.specs.declared.taking.Stride.{Stride}
use Rattle.supply.specs.declared.walk.Walk.{Walk}
use Rattle.supply.proofs.Counting.{steps_last}
use Rattle.supply.proofs.Stepping.{days_at, after_over, after_step}

-- what the list says from a day on is what the walk has in sight
pub seen_from : (ps : List Pause) (d : ℕ) {s : Sight} → d ≤ open_mark → s ≡ sight_of ps d → Seen ps d s
seen_from ps d l e =
    rw e
    (record {
      reached = sight_reached ps d l;
      steady = λ f a b. sight_steady ps d a b;
      ends = λ t h. sight_ends ps d t h;
    })

-- the walk knows where its day stands
pub able : {choice : ℕ} {p : List ℕ} {w r : Walk} → Going choice p w → Stood choice p w r → Able choice p r
able g k =
    let l = g.looks in
    record {
      looks =
          record {
            orderly = l.orderly;
            end_is = omega (arith, k.end_is, k.stop_is, l.end_is);
            counted = omega (arith, k.start_is, k.count_is, k.day_is, l.counted);
            within = omega (arith, k.day_is, k.stop_is, l.within);
            dated = omega (arith, k.stop_is, l.dated);
          };
      known = rw k.day_is k.known;
    }

-- ---- one step
module _ (choice : ℕ) (p : List ℕ) (s : Sight) (w r : Walk) (tells : Tells choice p w.chosen) (g : Looking choice p w) where
  there : w.start + (w.day - w.start) ≡ w.day
  there = omega (arith, g.counted)

  -- there is none: the walk is over
  pub went_over : ((ps : List Pause) → Seen ps w.day s → days_from choice p ps w.stop w.day w.rest ≡ 0) →
      r ≡ record { start = w.start; stop = w.stop; end = w.day; day = w.day; count = w.count; chosen = w.chosen; rest = w.rest; today = w.today } → Went choice p s w r
  went_over none same =
      rw same
      (record {
        less = omega (arith, g.end_is, g.within);
        no_earlier = omega arith;
        at = λ e. absurd (omega arith);
        onward =
            λ ps seen.
            record {
              start_is = refl;
              stop_is = refl;
              begun = omega (arith, g.counted);
              outcome_is = refl;
              over = λ e. after_over choice p ps w.start w.stop (w.stop + 1 - w.day) (state_of w) (rw there (none ps seen));
            };
      })

  -- a step of the days of x
  module _ (x : Stride) (some : 0 < x.days) (a : Advanced choice p w x r) where
    -- where it is over, its days reached past the stop day
    ended : r.end ≤ r.day → r.stop + 1 - r.day ≡ 0
    ended e = omega (arith, a.end_is, a.stop_is, g.end_is)

    module _ (ps : List Pause) (days : days_from choice p ps w.stop w.day w.rest ≡ x.days) (need : x.need ≡ summed (need_on choice p ps) w.day x.days) where
      days_at_lem : days_at choice p ps w.start w.stop (state_of w) ≡ x.days
      days_at_lem = rw there days

      state_is : record { rest = w.rest - summed (need_on choice p ps) w.day x.days; days = w.day - w.start + x.days; count = w.count + 1 } ≡ state_of r
      state_is =
          let d : r.day - r.start ≡ w.day - w.start + x.days = omega (arith, a.day_is, a.start_is, g.counted) in
          rw (a.rest_is, d, a.count_is, need)

      outcome : outcome_of choice p ps r ≡ outcome_of choice p ps w
      outcome =
          let q = after_step choice p ps w.start w.stop (state_of w) (rw days_at_lem some) in
          let m : w.start + (w.day - w.start + x.days) ≡ w.day + x.days = omega (arith, g.counted) in
          rw (← state_is, a.start_is, a.stop_is, a.day_is) (sym (rw (days_at_lem, there, m) at q))

      onward : Onward choice p ps w r
      unfolding after
      onward =
          record {
            start_is = a.start_is;
            stop_is = a.stop_is;
            begun = omega (arith, a.day_is, a.start_is, g.counted);
            outcome_is = outcome;
            over = λ e. rw (ended e);
          }

    pub went_step : ((ps : List Pause) → Seen ps w.day s → (days_from choice p ps w.stop w.day w.rest ≡ x.days) × (x.need ≡ summed (need_on choice p ps) w.day x.days)) → Went choice p s w r
    went_step of =
        record {
          less = omega (arith, a.end_is, a.day_is, g.end_is, g.within);
          no_earlier = omega (arith, a.day_is);
          at =
              λ e.
              let l : w.day + x.days ≤ w.stop = omega (arith, a.end_is, a.day_is, g.end_is) in
              record {
                looks =
                    record {
                      orderly = g.orderly;
                      end_is = omega (arith, a.end_is, a.stop_is, g.end_is);
                      counted = omega (arith, a.day_is, a.start_is, a.count_is, g.counted);
                      within = omega (arith, a.day_is, a.stop_is);
                      dated = omega (arith, a.stop_is, g.dated);
                    };
                tells = rw a.chosen_is tells;
                known = λ h m. rw a.day_is (a.known l (rw a.day_is at m));
              };
          onward = λ ps seen. let y = of ps seen in onward ps y.0 y.1;
        }

-- what a walk goes on to is the same once it knows where its day stands
pub went_from : {choice : ℕ} {p : List ℕ} {s : Sight} {w v r : Walk} → Stood choice p w v → Went choice p s v r → Went choice p s w r
went_from k a =
    record {
      less = rw (← k.day_is, ← k.end_is) a.less;
      no_earlier = rw (← k.day_is) a.no_earlier;
      at = a.at;
      onward =
          λ ps seen.
          let x = a.onward ps (rw k.day_is seen) in
          record {
            start_is = x.start_is ∙ k.start_is;
            stop_is = x.stop_is ∙ k.stop_is;
            begun = x.begun;
            outcome_is = x.outcome_is ∙ rw (k.start_is, k.stop_is, k.day_is, k.rest_is, k.count_is);
            over = x.over;
          };
    }

module _ (choice : ℕ) (p : List ℕ) (ps : List Pause) where
  -- ---- what holds of the walk w at each turn of the loop, where it began as w₀
  pub record Inv (w₀ w : Walk) : Type 0 where
    pub start_is : w.start ≡ w₀.start
    pub stop_is : w.stop ≡ w₀.stop
    pub begun : w.start ≤ w.day
    pub at : w.day < w.end → Going choice p w
    pub outcome_is : outcome_of choice p ps w ≡ steps_of choice p ps w₀.start w₀.stop w₀.rest
    pub done : w.end ≤ w.day → outcome_of choice p ps w ≡ state_of w

  module _ (w₀ : Walk) where
    pub begins : Ready choice p w₀ → Inv w₀ w₀
    begins r =
        record {
          start_is = refl;
          stop_is = refl;
          begun = omega (arith, r.day_is);
          at = λ g. r.at;
          outcome_is = let z : w₀.day - w₀.start ≡ 0 = omega (arith, r.day_is) in rw (z, r.day_is, r.count_is);
          done = λ g. absurd (omega (arith, r.at.looks.end_is, r.at.looks.within));
        }

    pub turns : {w r : Walk} {s : Sight} → Inv w₀ w → Seen ps w.day s → Went choice p s w r → Inv w₀ r
    turns i seen t =
        let o = t.onward ps seen in
        record {
          start_is = o.start_is ∙ i.start_is;
          stop_is = o.stop_is ∙ i.stop_is;
          begun = o.begun;
          at = t.at;
          outcome_is = o.outcome_is ∙ i.outcome_is;
          done = o.over;
        }

    pub ends : {w : Walk} → Inv w₀ w → w.end ≤ w.day → Ended choice p ps w₀ w
    ends i g =
        record {
          begun = i.begun;
          start_is = i.start_is;
          stop_is = i.stop_is;
          state_is = sym (i.done g) ∙ i.outcome_is;
        }

-- ---- the answer: what the walk says is what the state after the last step says, which is the daily walk's answer
module _ (p : List ℕ) (a : Asked) (choice : ℕ) (ps : List Pause) (b w : Walk) (begins_with : Begins p a choice b) (over : Ended choice p ps b w) where
  lasting_is : lasting_at w ≡ lasting_of (need_on choice p ps) b.start b.stop b.rest
  lasting_is =
      let l = over.begun in
      let z : w.start + (w.day - w.start) ≡ w.day = omega arith in
      let q : lasting_at w ≡ lasting_by w.start w.stop (state_of w) = rw z in
      q ∙ ap (λ (s : State). lasting_by w.start w.stop s) over.state_is ∙ rw (over.start_is, over.stop_is) (steps_last choice p ps b.start b.stop b.rest)

  pub answers : Ok (lasting_at w) ≡ answered_by p a choice ps
  answers = ap (λ (x : Lasting). Ok x) lasting_is ∙ sym (begins_with.lasts_is ps)
