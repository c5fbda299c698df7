-- The set of dates is what W1 says, over supply's own answers. Assumes nothing.
use Rattle.std.specs.Prelude.{Err, Ok}
use Prim.Native.Nat.{ℕ, ◌+◌, ◌-◌, ◌≤◌}
use mathlib.Core.Bool.{Bool, true, false, cond, not, ◌||◌}
use mathlib.Core.List.{List}
use mathlib.Core.Logic.{◌⊎◌, inl, inr, ⊎_elim}
use mathlib.Core.Path.{◌≡◌, refl, sym, subst, ap, ◌∙◌}
use native.Mathlib.Omega.{arith}
use lib.Dec.{eqb, ltb}
use borrow.Author.Tests.{eqb-true, eqb-false}
use Rattle.below.proofs.Search.{any_none}
use Rattle.below.proofs.Tests.{bool_cases}
use Rattle.day.specs.Days.{open_mark}
use Rattle.need.specs.Need.{is_choice, choice_of, need_on, stops_at, has_stop_by, stop_day, has_stop}
use Rattle.pause.specs.declared.Pause.{Pause}
use Rattle.plan.specs.Periods.{is_period, class_of}
use Rattle.refusal.specs.Refusals.{alone, refusal_in}
use Rattle.refusal.specs.declared.Refusal.{Refusal}
use Rattle.supply.proofs.Agreeing.{one_end, need_only}
use Rattle.supply.proofs.Later.{low_lasts, low_later}
use Rattle.supply.proofs.Refusing.{asked_none, stop_day_in}
use Rattle.supply.specs.Dates.{is_ranging, is_needed, date_by, set_of, set_by, no_dates, dates_in}
use Rattle.supply.specs.Supply.{lasting_of, asked_by, own_by, judged_of, passed_on, lasting_in}
use Rattle.supply.specs.declared.Dates.{Dates}
use Rattle.supply.specs.Answers.{DateSet}
use Rattle.supply.specs.declared.Lasting.{Lasting}
use Rattle.supply.specs.Answers.{Supply}
use Rattle.verdict.proofs.Exactly.{accepted_only}
use Rattle.verdict.specs.Verdict.{verdict_of}
use Rattle.verdict.specs.Answers.{Answer}
use Rattle.promises.specs.Sets.{HasNoDay, IsDate, DatesAre, NeedOnly, Sets}
use Rattle.promises.proofs.LastDays.{last_covered}

-- no fixed or mixed period: choice 1 has no stop day
none_fixed : (p : List ℕ) → NeedOnly p → has_stop 1 p ≡ false
unfolding has_stop_by choice_of
none_fixed p h =
    any_none (stops_at 1 (class_of p) p)
    (λ b l. ⊎_elim (λ (t : is_period p b ≡ true). rw (t, h b l t)) (λ (t : is_period p b ≡ false). rw t) (bool_cases (is_period p b)))

-- a date that is wanted, and one that is not
if_wanted : {t : Bool} (x : ℕ) → t ≡ true → cond t x open_mark ≡ x
if_wanted x e = rw e

if_unwanted : {t : Bool} (x : ℕ) → t ≡ false → cond t x open_mark ≡ open_mark
if_unwanted x e = rw e

-- a supply that has no day covers none
covers_none : (s : Supply) → HasNoDay s → (lasting_in s).days ≡ 0
covers_none (Ok x) h = ⊎_elim (λ z. z.1) (λ (z : 0 ≡ 24). absurd (omega arith)) h
covers_none (Err r) h = refl

-- a refused set has no dates
no_dates_lem : (s : DateSet) → ((refusal_in s).number ≡ 0 → ⊥) → dates_in s ≡ no_dates
no_dates_lem (Ok x) h = absurd (h refl)
no_dates_lem (Err r) h = refl

-- dates 3 and 4 of a set that has them equal
same_dates : (a : Answer) (k : ℕ) (x : Dates) → x.third ≡ x.fourth → (dates_in (set_by a k x)).third ≡ (dates_in (set_by a k x)).fourth
same_dates (Err r) k x e = refl
same_dates (Ok n) k x e = ⊎_elim (λ (t : eqb k 0 ≡ true). rw t e) (λ (t : eqb k 0 ≡ false). rw t) (bool_cases (eqb k 0))

-- `out` says that 21 is due
module _ (p : List ℕ) (start pack : ℕ) (out : Bool) (ps : List Pause) where
  abbrev supply : ℕ → Supply
  supply choice = passed_on (verdict_of p) (judged_of p start pack choice out ps)

  abbrev dates : Dates
  dates = set_of (is_ranging start p) (is_needed start p) (date_by supply)

  abbrev set : DateSet
  set = set_by (verdict_of p) (asked_by start pack out 0) dates

  -- a set that is not refused
  record IsGiven (x : Dates) : Type 0 where
    accepted : (n : ℕ) × (verdict_of p ≡ Ok n)
    none : asked_by start pack out 0 ≡ 0
    is : dates ≡ x

  is_given : (x : Dates) → set ≡ Ok x → IsGiven x
  is_given x e = by_verdict (verdict_of p) refl
    where
      not_both : {r : Refusal} {y : Dates} → Err r ≡ Ok y → ⊥
      not_both f = let z : ◌≡◌ {A = ℕ} 0 1 = cc in omega arith

      by_verdict : (a : Answer) → verdict_of p ≡ a → IsGiven x
      by_verdict (Err r) v = absurd (not_both (rw v at e))
      by_verdict (Ok n) v =
          let f = rw v at e in
          ⊎_elim
          (λ (t : eqb (asked_by start pack out 0) 0 ≡ true). let g = rw t at f in record { accepted = (n, v); none = eqb-true _ _ t; is = cc })
          (λ (t : eqb (asked_by start pack out 0) 0 ≡ false). absurd (not_both (rw t at f)))
          (bool_cases (eqb (asked_by start pack out 0) 0))

  -- then the supply of a choice is refused by 24 or lasts
  module _ {n : ℕ} (v : verdict_of p ≡ Ok n) (none : asked_by start pack out 0 ≡ 0) (choice : ℕ) (c : is_choice choice ≡ true) where
    abbrev lasting : Lasting
    lasting = lasting_of (need_on choice p ps) start (stop_day choice p) pack

    by_stop : (supply choice ≡ Err (alone 24)) ⊎ (supply choice ≡ Ok lasting)
    unfolding judged_of own_by
    by_stop =
        let number = asked_none start pack out (own_by start choice (has_stop choice p) (stop_day choice p)) none in
        ⊎_elim
        (λ (t : (not (has_stop choice p) || ltb (stop_day choice p) start) ≡ true). inl (rw (v, number, c, t)))
        (λ (t : (not (has_stop choice p) || ltb (stop_day choice p) start) ≡ false). inr (rw (v, number, c, t)))
        (bool_cases (not (has_stop choice p) || ltb (stop_day choice p) start))

    -- a date that it has is a day of the calendar, and no open mark
    has_date : supply choice ≡ Ok lasting → eqb lasting.days 0 ≡ false → lasting.last ≡ open_mark → ⊥
    has_date e t h =
        let l = last_covered p start pack choice out ps lasting e in
        let d = rw t at l.last_is in
        omega (arith, l.not_past, stop_day_in choice p (accepted_only p v), d, h, eqb-false lasting.days 0 t)

    is_date_lem : IsDate (supply choice) (date_by supply choice)
    is_date_lem =
        ⊎_elim
        (λ (e : supply choice ≡ Err (alone 24)). told e (record { is_last = refl; absent_where = λ h. refl; absent_only = λ h. inr refl }))
        (λ (e : supply choice ≡ Ok lasting).
        let l = last_covered p start pack choice out ps lasting e in
        told e
        (record {
          is_last = refl;
          absent_where = λ h. ⊎_elim (λ z. l.last_is ∙ ap (λ (k : ℕ). cond (eqb k 0) open_mark (start + lasting.days - 1)) z.1) (λ (z : 0 ≡ 24). absurd (omega arith)) h;
          absent_only =
              λ h.
              ⊎_elim
              (λ (t : eqb lasting.days 0 ≡ true). inl (refl, eqb-true _ _ t))
              (λ (t : eqb lasting.days 0 ≡ false). absurd (has_date e t h))
              (bool_cases (eqb lasting.days 0));
        }))
        by_stop
      where
        told : {s : Supply} → supply choice ≡ s → IsDate s (lasting_in s).last → IsDate (supply choice) (date_by supply choice)
        told e d = subst (λ (s : Supply). IsDate s (lasting_in s).last) (sym e) d

    -- one that covers no day has no date
    no_date : (lasting_in (supply choice)).days ≡ 0 → date_by supply choice ≡ open_mark
    no_date z =
        is_date_lem.absent_where
        (⊎_elim
        (λ (e : supply choice ≡ Err (alone 24)). inr (ap (λ (s : Supply). (refusal_in s).number) e))
        (λ (e : supply choice ≡ Ok lasting). inl (ap (λ (s : Supply). (refusal_in s).number) e, z))
        by_stop)

  -- low amounts last longer
  module _ {n : ℕ} (v : verdict_of p ≡ Ok n) where
    days_later : (lasting_in (supply 2)).days ≤ (lasting_in (supply 1)).days
    days_later = rw v (low_lasts p (accepted_only p v) start pack out ps)

    date_later : (date_by supply 2 ≡ open_mark → ⊥) → date_by supply 2 ≤ date_by supply 1
    date_later = rw (date_by, v) (low_later p (accepted_only p v) start pack out ps)

  abbrev one_answer : is_ranging start p ≡ false → supply 1 ≡ supply 2
  one_answer e = ap (λ (s : Supply). passed_on (verdict_of p) s) (one_end p start pack out ps e)

  abbrev need_answer : NeedOnly p → supply 3 ≡ supply 4
  need_answer h = ap (λ (s : Supply). passed_on (verdict_of p) s) (need_only p start pack out ps (none_fixed p h))

  -- the same date, by another answer that is the same
  moved : {s t : Supply} {x y : ℕ} → s ≡ t → x ≡ y → IsDate s x → IsDate t y
  moved e f d = rw (← e, ← f) d

  dates_are : (x : Dates) → set ≡ Ok x → DatesAre p start supply x
  unfolding set_of
  dates_are x e =
      let g = is_given x e in
      let v = g.accepted.1 in
      let date : (choice : ℕ) → is_choice choice ≡ true → IsDate (supply choice) (date_by supply choice) = λ choice c. is_date_lem v g.none choice c in
      let i = g.is in
      record {
        one_end = λ t. let z = ap (λ (y : Dates). y.end) i in
            let w = sym (if_wanted (date_by supply 1) (ap not t)) ∙ z in
            (moved refl w (date 1 refl), moved (one_answer t) w (date 1 refl));
        not_two = λ t. (sym (ap (λ (y : Dates). y.minimum) i) ∙ if_unwanted _ t, sym (ap (λ (y : Dates). y.maximum) i) ∙ if_unwanted _ t);
        two_ends = λ t. (
          moved refl (sym (if_wanted (date_by supply 1) t) ∙ ap (λ (y : Dates). y.minimum) i) (date 1 refl),
          moved refl (sym (if_wanted (date_by supply 2) t) ∙ ap (λ (y : Dates). y.maximum) i) (date 2 refl),
        );
        not_one = λ t. sym (ap (λ (y : Dates). y.end) i) ∙ if_unwanted _ (ap not t);
        later = λ t h.
            let low = sym (if_wanted (date_by supply 1) t) ∙ ap (λ (y : Dates). y.minimum) i in
            let upper = sym (if_wanted (date_by supply 2) t) ∙ ap (λ (y : Dates). y.maximum) i in
            let some : date_by supply 2 ≡ open_mark → ⊥ = λ z. h (sym upper ∙ z) in (
              λ z. some (no_date v g.none 2 refl (omega (arith, days_later v, covers_none (supply 1) ((date 1 refl).absent_only (low ∙ z))))),
              omega (arith, date_later v some, low, upper),
            );
        needed = λ t. (
          moved refl (sym (if_wanted (date_by supply 3) t) ∙ ap (λ (y : Dates). y.third) i) (date 3 refl),
          moved refl (sym (if_wanted (date_by supply 4) t) ∙ ap (λ (y : Dates). y.fourth) i) (date 4 refl),
        );
        not_needed = λ t. (sym (ap (λ (y : Dates). y.third) i) ∙ if_unwanted _ t, sym (ap (λ (y : Dates). y.fourth) i) ∙ if_unwanted _ t);
      }

  pub sets : Sets p start supply set
  unfolding set_of
  sets =
      record {
        given = dates_are;
        refused = no_dates_lem set;
        one_answer = one_answer;
        need_only = need_answer;
        need_only_dates = λ h. same_dates (verdict_of p) (asked_by start pack out 0) dates (ap (λ (s : Supply). cond (is_needed start p) (lasting_in s).last open_mark) (need_answer h));
      }
