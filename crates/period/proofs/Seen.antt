-- Rule 10 by the tag of the last dose at each time. Assumes nothing.
use Prim.Native.Nat.{ℕ, ◌+◌, ◌-◌, ◌≤◌, ◌<◌}
use mathlib.Core.Bool.{Bool, true, false, cond}
use mathlib.Core.List.{List}
use mathlib.Core.Logic.{⊎_elim}
use mathlib.Core.Path.{◌≡◌, sym, ◌∙◌}
use native.Mathlib.Omega.{arith}
use lib.Dec.{eqb, ltb}
use lib.ListN.{get_or, set, replicate, length-replicate, length-set}
use lib.Seq.{get_or-set_same, get_or-set_other}
use borrow.Author.Count.{below_more}
use borrow.Author.Tests.{eq-eqb, eqb-true, eqb-false, ne_eqb, ltb-true, lt-ltb}
use Rattle.below.proofs.Search.{NoneBelow, any_hit, any_none}
use Rattle.below.proofs.Tests.{bool_cases, true_not_false, not_true_false, le_or_lt}
use Rattle.plan.specs.declared.Dose.{Dose}
use Rattle.period.specs.Doses.{is_timed, twice}
use Rattle.period.specs.Code.Turn.{is_clock}
use Rattle.period.proofs.Rank.{twice_is, timed_is}
use Rattle.period.specs.Code.Twice.{twice_at, Rising, slot_of, Seen}

pub slot_small : (d : Dose) → slot_of d < 1445
unfolding slot_of
slot_small d =
    ⊎_elim
    (λ (k : eqb d.kind 5 ≡ true). rw k (omega arith))
    (λ k.
    rw k (⊎_elim
    (λ (l : ltb d.kind 5 ≡ true). rw l (omega (arith, ltb-true d.kind 5 l)))
    (λ l. rw l (omega arith))
    (bool_cases (ltb d.kind 5))))
    (bool_cases (eqb d.kind 5))

-- doses of one time and day have one day number, stand at one place, and at one that is not 0
record Clash (d e : Dose) : Type 0 where
  pub day : d.day ≡ e.day
  pub place : slot_of d ≡ slot_of e
  pub some : 0 < slot_of e

clash : (d e : Dose) → twice d e ≡ true → Clash d e
unfolding slot_of
clash d e h =
    let y = twice_is d e h in
    ⊎_elim
    (λ (t : is_timed d ≡ true).
    let k = timed_is d t in
    let n5 : eqb e.kind 5 ≡ false = ne_eqb e.kind 5 (λ (z : e.kind ≡ 5). omega (arith, k, y.kind)) in
    let l5 : ltb e.kind 5 ≡ true = lt-ltb e.kind 5 (omega (arith, k, y.kind)) in
    record { day = y.day; place = rw (y.kind, n5, l5); some = rw (n5, l5) (omega (arith, k, y.kind)) })
    (λ (t : (is_clock d ≡ true) × (d.minute ≡ e.minute)).
    let is5 : eqb e.kind 5 ≡ true = eq-eqb e.kind 5 (sym y.kind ∙ eqb-true _ _ t.0) in
    record { day = y.day; place = rw (y.kind, t.1); some = rw is5 (omega arith) })
    y.way

module _ (D : ℕ → Dose) where
  pub seen_none : Seen D 0 0 1 (replicate 1445 0)
  seen_none =
      record {
        long = length-replicate {A = ℕ} 1445 0;
        end = λ l. absurd (omega arith);
        own = λ i l. absurd (omega arith);
      }

  module _ (j : ℕ) {day tag : ℕ} (last : List ℕ) (s : Seen D j day tag last) {n : ℕ} (rising : Rising D n) (l : j < n) {new : ℕ} (same : eqb day (D j).day ≡ true → new ≡ tag) where
    -- a dose ahead of the day of dose j has the tag of that day at its time
    of_day : (i : ℕ) → i < j → (D i).day ≡ (D j).day → 0 < slot_of (D i) → get_or last (slot_of (D i)) 0 ≡ new
    of_day i m e h =
        let end = s.end (omega arith) in
        let low = rising i (j - 1) (omega arith) (omega arith) in
        let high = rising (j - 1) j (omega arith) l in
        let here : day ≡ (D j).day = omega (arith, end, low, high, e) in
        s.own i m (e ∙ sym here) h ∙ sym (same (eq-eqb day (D j).day here))

    -- dose j is the last at its time
    pub seen_more : Seen D (j + 1) (D j).day new (set last (slot_of (D j)) (cond (ltb 0 (slot_of (D j))) new 0))
    seen_more =
        let kept = cond (ltb 0 (slot_of (D j))) new 0 in
        let at-k : 0 < slot_of (D j) → get_or (set last (slot_of (D j)) kept) (slot_of (D j)) 0 ≡ new =
        λ h. get_or-set_same last (slot_of (D j)) kept 0 (rw s.long (slot_small (D j))) ∙ rw (lt-ltb 0 (slot_of (D j)) h) in
        record {
          long = length-set last (slot_of (D j)) kept ∙ s.long;
          end = λ h. let e : j + 1 - 1 ≡ j = omega arith in rw e;
          own =
              below_more (λ (i : ℕ). (D i).day ≡ (D j).day → 0 < slot_of (D i) → get_or (set last (slot_of (D j)) kept) (slot_of (D i)) 0 ≡ new) j
              (λ i m e h.
              ⊎_elim
              (λ (t : eqb (slot_of (D i)) (slot_of (D j)) ≡ true).
              let place = eqb-true (slot_of (D i)) (slot_of (D j)) t in rw place (at-k (rw place at h)))
              (λ t. get_or-set_other last (slot_of (D j)) (slot_of (D i)) kept 0 (eqb-false _ _ t) ∙ of_day i m e h)
              (bool_cases (eqb (slot_of (D i)) (slot_of (D j)))))
              (λ e h. at-k h);
        }

    -- where dose j does not find that tag, it is the first of its day at its time
    pub no_sign : eqb (get_or last (slot_of (D j)) 0) new ≡ false → twice_at D j ≡ false
    no_sign none =
        any_none (λ (i : ℕ). twice (D i) (D j)) (λ i m.
        not_true_false (twice (D i) (D j)) (λ h.
        let c = clash (D i) (D j) h in
        let found : get_or last (slot_of (D j)) 0 ≡ new = rw c.place at (of_day i m c.day (rw c.place c.some)) in
        true_not_false (eq-eqb (get_or last (slot_of (D j)) 0) new found) none))

  -- the search back from dose j: the nearest i doses are passed
  module _ {j n : ℕ} (rising : Rising D n) (l : j < n) where
    abbrev pub near : ℕ → Bool
    near i = twice (D (j - 1 - i)) (D j)

    pub back_hit : {i : ℕ} → i < j → near i ≡ true → true ≡ twice_at D j
    back_hit {i} m h = sym (any_hit (λ (i : ℕ). twice (D i) (D j)) {i = j - 1 - i} (omega arith) h)

    passed : (i m : ℕ) → NoneBelow near i → m < j → j ≤ m + i → twice (D m) (D j) ≡ false
    passed i m none a b =
        let e : j - 1 - (j - 1 - m) ≡ m = omega arith in
        rw e at (none (j - 1 - m) (omega arith))

    pub back_end : {i : ℕ} → j ≤ i → NoneBelow near i → false ≡ twice_at D j
    back_end {i} a none = sym (any_none (λ (i : ℕ). twice (D i) (D j)) (λ m b. passed i m none b (omega arith)))

    -- the next is of another day, and so are those ahead of it
    pub back_stop : {i : ℕ} → i < j → NoneBelow near i → ((D (j - 1 - i)).day ≡ (D j).day → ⊥) → false ≡ twice_at D j
    back_stop {i} a none other =
        sym (any_none (λ (i : ℕ). twice (D i) (D j)) (λ m b.
        ⊎_elim
        (λ (h : j ≤ m + i). passed i m none b h)
        (λ h.
        not_true_false (twice (D m) (D j)) (λ t.
        let c = clash (D m) (D j) t in
        let low = rising m (j - 1 - i) (omega arith) (omega arith) in
        let high = rising (j - 1 - i) j (omega arith) l in
        other (omega (arith, low, high, c.day))))
        (le_or_lt j (m + i))))
