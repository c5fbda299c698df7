-- What the pass over the doses D 0, D 1, .. has found when it stands at dose j: the meaning of each number that it keeps.
-- Assumes nothing.
use Prim.Native.Nat.{ℕ, zero, suc, ◌+◌, ◌-◌, ◌*◌, ◌≤◌, ◌<◌, min}
use mathlib.Core.Bool.{Bool, true, false, cond, not, ◌&&◌, ◌||◌, beq}
use mathlib.Core.Logic.{⊎_elim}
use mathlib.Core.Path.{◌≡◌, refl, sym, ap, ◌∙◌}
use native.Mathlib.Nat.{eq-or-lt_of_le}
use native.Mathlib.Numerals.{add-one}
use native.Mathlib.Omega.{arith}
use lib.Dec.{eqb, leb, ltb}
use borrow.Author.Count.{below_more}
use borrow.Author.Tests.{lt-ltb, le-ltb, ltb-true, ltb-false, leb-true, leb-false, eqb-true, eqb-false, eq-eqb, ne_eqb, not-true}
use Rattle.below.specs.Below.{any_below, count_below, sum_below, largest_below}
use Rattle.below.proofs.Search.{NoneBelow, none_more, any_hit, any_none, any_not, any_some, any_zero, any_more}
use Rattle.below.proofs.Tests.{bool_cases, true_not_false, not_true_false, bool_iff, and_both, both_and, or_neither, le_or_lt}
use Rattle.below.proofs.Total.{count_zero, count_more, sum_zero, sum_more, largest_zero, largest_more}
use Rattle.plan.specs.declared.Dose.{Dose}
use Rattle.plan.specs.Fields.{is_marked}
use Rattle.period.specs.declared.turn.Last.{Last}
use Rattle.period.specs.declared.turn.Walk.{Walk}
use Rattle.period.specs.Doses.{falls, same_day, is_timed, is_untimed, twice, other_amounts, bad_range, unmarked_upper, unmarked_day}
use Rattle.period.specs.Code.Turn.{is_clock, rank_of, last_at, from_of, is_crowded, is_asked, same_amounts, is_like, is_other, is_fixed, is_need, kept_as, lowest, rule_with, next_rule, begun, turned, walked_to}
use Rattle.period.proofs.Choice.{cond_le, larger}
use Rattle.period.proofs.Counts.{count_from}
use Rattle.period.proofs.Lowest.{test_of, lowest_is, same_tests, no_test}
use Rattle.period.proofs.Rank.{same_is, twice_is, same_rank, last_more, Others, others, other_of, like_like, amounts_on}

-- two marks are one
same_same : (m : Bool) → beq m m ≡ true
same_same true = refl
same_same false = refl

module _ (D : ℕ → Dose) where
  -- dose j breaks rule k with those ahead of it; rules 8, 10 and 12, and the second half of 7, are asked at the end
  abbrev pub pass_breaks : ℕ → ℕ → Bool
  pass_breaks k j =
      test_of (falls D j)
      (leb 99 (count_below j (λ i. same_day (D i) (D j))))
      (any_below j (λ i. other_amounts (D i) (D j)))
      (bad_range (D j))
      k

  -- while day numbers have not fallen the doses of the day at hand stand together, from `from` on, and the last unmarked dose
  -- has the largest day number
  pub record Days (j : ℕ) (s : Walk) : Type 0 where
    pub before : (i : ℕ) → i < s.from → (D i).day < s.day
    pub within : (i : ℕ) → s.from ≤ i → i < j → (D i).day ≡ s.day
    pub most : s.most ≡ largest_below j (λ i. unmarked_day (D i))
    pub most_le : s.most ≤ s.day

  -- `last` is the last of the first j doses that has kind 0 and that need mark
  pub record Kept (j : ℕ) (mark : Bool) (last : Last) : Type 0 where
    pub within : last.at ≤ j
    pub here : 0 < last.at → (is_untimed (D (last.at - 1)) ≡ true) × (is_marked (D (last.at - 1)) ≡ mark) × (last.low ≡ (D (last.at - 1)).low) × (last.high ≡ (D (last.at - 1)).high)
    pub latest : (i : ℕ) → i < j → is_untimed (D i) ≡ true → is_marked (D i) ≡ mark → i < last.at

  kept_none : (mark : Bool) → Kept 0 mark (record { at = 0; low = 0; high = 0 })
  kept_none mark =
      record {
        within = omega arith;
        here = λ l. absurd (omega arith);
        latest = λ i l. absurd (omega arith);
      }

  -- dose j is such a dose, or it is not
  kept_more : (j : ℕ) (mark t : Bool) {last : Last} → (t ≡ true → (is_untimed (D j) ≡ true) × (is_marked (D j) ≡ mark)) → (t ≡ false → is_untimed (D j) ≡ true → is_marked (D j) ≡ mark → ⊥) → Kept j mark last → Kept (j + 1) mark (cond t (kept_as (D j) j) last)
  kept_more j mark true {last} h g k =
      let e : j + 1 - 1 ≡ j = omega arith in
      record {
        within = omega arith;
        here = λ l. rw e ((h refl).0, (h refl).1, refl, refl);
        latest = λ i l u m. l;
      }
  kept_more j mark false {last} h g k =
      record {
        within = omega (arith, k.within);
        here = k.here;
        latest =
            below_more (λ (i : ℕ). is_untimed (D i) ≡ true → is_marked (D i) ≡ mark → i < last.at) j
            k.latest
            (λ u m. absurd (g refl u m));
      }

  -- the state s after j doses
  pub record Walked (j : ℕ) (s : Walk) : Type 0 where
    pub from_le : s.from ≤ j
    pub start : j ≡ 0 → s.day ≡ 0
    pub last : 0 < j → s.day ≡ (D (j - 1)).day
    pub tops : (i : ℕ) → i < j → is_clock (D i) ≡ true → rank_of (D i) ≤ s.top
    pub kinds : (i : ℕ) → i < j → is_timed (D i) ≡ true → i < last_at s (D i).kind
    pub fixed : Kept j false s.fixed
    pub need : Kept j true s.need
    pub timed : s.timed ≡ any_below j (λ i. is_timed (D i))
    pub marked : s.marked ≡ count_below j (λ i. is_marked (D i))
    pub sum : 2048 * s.big + s.small ≡ sum_below j (λ i. unmarked_upper (D i))
    pub least : 7 ≤ s.rule
    pub most : s.rule ≤ 14
    -- while no day number falls, ranks rise and a day has each kind once, no time stands twice
    pub again : 7 < s.rule → s.again ≡ false → NoneBelow (λ k. any_below k (λ i. twice (D i) (D k))) j
    -- no dose breaks a rule below s .rule, and one breaks that
    pub lower : (k : ℕ) → 7 ≤ k → k < s.rule → NoneBelow (pass_breaks k) j
    pub hit : s.rule < 14 → any_below j (pass_breaks s.rule) ≡ true
    pub days : 7 < s.rule → Days j s

  pub begins : Walked 0 begun
  begins =
      record {
        from_le = omega arith;
        start = λ e. refl;
        last = λ l. absurd (omega arith);
        tops = λ i l. absurd (omega arith);
        kinds = λ i l. absurd (omega arith);
        fixed = kept_none false;
        need = kept_none true;
        timed = sym (any_zero _);
        marked = sym (count_zero _);
        sum = sym (sum_zero _);
        least = omega arith;
        most = omega arith;
        again = λ u e i l. absurd (omega arith);
        lower = λ k a b i l. absurd (omega arith);
        hit = λ l. absurd (omega arith);
        days = λ l. record {
          before = λ i x. absurd (omega arith);
          within = λ i x y. absurd (omega arith);
          most = sym (largest_zero _);
          most_le = omega arith;
        };
      }

  module _ (j : ℕ) (s : Walk) (w : Walked j s) where
    -- the last day number stands for that of the dose ahead
    falls_is : falls D j ≡ ltb (D j).day s.day
    falls_is =
        ⊎_elim
        (λ (h : j ≤ 0).
        rw (le-ltb 0 j h, le-ltb (D j).day s.day (omega (arith, w.start (let z : j ≡ 0 = omega arith in z)))))
        (λ h. rw (lt-ltb 0 j h, w.last h))
        (le_or_lt j 0)

    -- dose j does not fall
    module _ (up : ltb (D j).day s.day ≡ false) (t : Days j s) where
      -- where the doses of dose j's day begin
      abbrev from : ℕ
      from = from_of s (D j) j

      from_in : from ≤ j
      from_in = cond_le (eqb s.day (D j).day) w.from_le (omega arith)

      so_far : (i : ℕ) → i < j → (D i).day ≤ s.day
      so_far i l =
          ⊎_elim
          (λ (h : s.from ≤ i). omega (arith, t.within i h l))
          (λ h. omega (arith, t.before i h))
          (le_or_lt s.from i)

      ahead : (i : ℕ) → i < from → (D i).day < (D j).day
      ahead i l =
          let r : s.day ≤ (D j).day = ltb-false _ _ up in
          ⊎_elim
          (λ (e : eqb s.day (D j).day ≡ true). omega (arith, t.before i (rw e at l), eqb-true s.day (D j).day e))
          (λ e. omega (arith, so_far i (rw e at l), eqb-false s.day (D j).day e))
          (bool_cases (eqb s.day (D j).day))

      here : (i : ℕ) → from ≤ i → i < j → (D i).day ≡ (D j).day
      here i a l =
          ⊎_elim
          (λ (e : eqb s.day (D j).day ≡ true). t.within i (rw e at a) l ∙ eqb-true _ _ e)
          (λ e. absurd (let z : j ≤ i = rw e at a in omega arith))
          (bool_cases (eqb s.day (D j).day))

      crowded_is : is_crowded s (D j) j ≡ leb 99 (count_below j (λ i. same_day (D i) (D j)))
      crowded_is =
          rw (count_from (λ (i : ℕ). same_day (D i) (D j)) from j from_in
          (λ i l. ne_eqb (D i).day (D j).day (λ (z : (D i).day ≡ (D j).day). omega (arith, ahead i l)))
          (λ i a l. eq-eqb (D i).day (D j).day (here i a l)))

      same_from : (i : ℕ) → (D i).day ≡ (D j).day → from ≤ i
      same_from i e =
          ⊎_elim (λ (h : from ≤ i). h) (λ h. absurd (omega (arith, ahead i h))) (le_or_lt from i)

      -- rule 11 is not broken yet, so that doses like each other in a day have the same amounts
      still_other : 11 < s.rule → (i n : ℕ) → i ≤ n → n < j → Others (D i) (D j) → is_like (D n) (D j) ≡ true → (D n).day ≡ (D j).day → same_amounts (D n) (D j) ≡ false
      still_other l i n a b o m e =
          ⊎_elim
          (λ (z : i ≡ n). rw z at o.amounts)
          (λ z.
          let none : other_amounts (D i) (D n) ≡ false =
          any_not (λ (i : ℕ). other_amounts (D i) (D n)) (w.lower 11 (omega arith) l n b) i z in
          not_true_false (same_amounts (D n) (D j)) (λ x.
          ⊎_elim
          (λ (y : same_amounts (D i) (D n) ≡ true). true_not_false (amounts_on (D i) (D n) (D j) y x) o.amounts)
          (λ y.
          true_not_false
          (other_of (D i) (D n) (record {
            day = o.day ∙ sym e;
            like = like_like (D i) (D n) (D j) o.like m;
            amounts = y;
          }))
          none)
          (bool_cases (same_amounts (D i) (D n)))))
          (eq-or-lt_of_le a)

      -- the last dose like dose j, whatever its mark
      like_kept : Kept j (is_marked (D j)) (cond (is_marked (D j)) s.need s.fixed)
      like_kept =
          ⊎_elim
          (λ (e : is_marked (D j) ≡ true). rw e w.need)
          (λ e. rw e w.fixed)
          (bool_cases (is_marked (D j)))

      other_at : 11 < s.rule → is_other s (D j) j ≡ any_below j (λ i. other_amounts (D i) (D j))
      other_at l =
          let mark = is_marked (D j) in
          let last = cond mark s.need s.fixed in
          let k : Kept j mark last = like_kept in
          let amounts : 0 < last.at → (eqb last.low (D j).low && eqb last.high (D j).high) ≡ same_amounts (D (last.at - 1)) (D j) =
          λ h. rw ((k.here h).2, (k.here h).3) in
          bool_iff (is_other s (D j) j) (any_below j (λ i. other_amounts (D i) (D j)))
          (λ e.
          let x = and_both (is_untimed (D j) && ltb from last.at) (not (eqb last.low (D j).low && eqb last.high (D j).high)) e in
          let y = and_both (is_untimed (D j)) (ltb from last.at) x.0 in
          let h : from < last.at = ltb-true _ _ y.1 in
          let some : 0 < last.at = omega arith in
          any_hit (λ (i : ℕ). other_amounts (D i) (D j)) {i = last.at - 1} (omega (arith, k.within))
          (other_of (D (last.at - 1)) (D j) (record {
            day = here (last.at - 1) (omega arith) (omega (arith, k.within));
            like = rw ((k.here some).0, y.0, (k.here some).1) (same_same mark);
            amounts = sym (amounts some) ∙ not-true (eqb last.low (D j).low && eqb last.high (D j).high) x.1;
          })))
          (λ e.
          let x = any_some (λ (i : ℕ). other_amounts (D i) (D j)) j e in
          let i = x.0 in
          let o = others (D i) (D j) x.2 in
          let a : from ≤ i = same_from i o.day in
          let u = and_both (is_untimed (D i) && is_untimed (D j)) (beq (is_marked (D i)) mark) o.like in
          let v = and_both (is_untimed (D i)) (is_untimed (D j)) u.0 in
          let h : i < last.at = k.latest i x.1 v.0 (same_is (is_marked (D i)) mark u.1) in
          let some : 0 < last.at = omega arith in
          let n = last.at - 1 in
          let m : n < j = omega (arith, k.within) in
          let other : same_amounts (D n) (D j) ≡ false =
          still_other l i n (omega arith) m o (rw ((k.here some).0, v.1, (k.here some).1) (same_same mark)) (here n (omega arith) m) in
          both_and (both_and v.1 (lt-ltb from last.at (omega arith))) (ap not (amounts some ∙ other)))

    -- the code's tests are the rules', as far as they count
    abbrev code_breaks : ℕ → Bool
    code_breaks k =
        test_of (ltb (D j).day s.day) (is_crowded s (D j) j) (is_other s (D j) j) (bad_range (D j)) k

    agree : (k : ℕ) → k < s.rule → (7 < k → ltb (D j).day s.day ≡ false) → code_breaks k ≡ pass_breaks k j
    agree k l up =
        same_tests (ltb (D j).day s.day) (is_crowded s (D j) j) (is_other s (D j) j) (bad_range (D j))
        (falls D j)
        (leb 99 (count_below j (λ i. same_day (D i) (D j))))
        (any_below j (λ i. other_amounts (D i) (D j)))
        (bad_range (D j))
        k
        (λ e. sym falls_is)
        (λ e. crowded_is (up (omega arith)) (w.days (omega arith)))
        (λ e. other_at (up (omega arith)) (w.days (omega arith)) (omega arith))
        (λ e. refl)

    -- m is the lowest rule broken with dose j
    pub record Next (m : ℕ) : Type 0 where
      pub least : 7 ≤ m
      pub le : m ≤ s.rule
      pub below : (k : ℕ) → 7 ≤ k → k < m → pass_breaks k j ≡ false
      pub at : m < s.rule → pass_breaks m j ≡ true

    -- more was asked
    asked : Next (rule_with s (D j) j)
    unfolding rule_with
    asked =
        let m = lowest (ltb (D j).day s.day) (is_crowded s (D j) j) (is_other s (D j) j) (bad_range (D j)) in
        let f = lowest_is (ltb (D j).day s.day) (is_crowded s (D j) j) (is_other s (D j) j) (bad_range (D j)) in
        ⊎_elim
        (λ (l : s.rule ≤ m).
        let e : min m s.rule ≡ s.rule = omega arith in
        rw e (record {
          least = w.least;
          le = omega arith;
          below = λ k a b. sym (agree k (omega arith) (λ x. f.before 7 (omega arith) (omega arith))) ∙ f.before k a (omega arith);
          at = λ x. absurd (omega arith);
        }))
        (λ l.
        let e : min m s.rule ≡ m = omega arith in
        rw e (record {
          least = f.least;
          le = omega arith;
          below = λ k a b. sym (agree k (omega arith) (λ x. f.before 7 (omega arith) (omega arith))) ∙ f.before k a b;
          at = λ x. sym (agree m l (λ y. f.before 7 (omega arith) (omega arith))) ∙ f.here (omega (arith, w.most));
        }))
        (le_or_lt s.rule m)

    -- none of the tests holds
    plain : is_asked s (D j) j ≡ false → (k : ℕ) → k < s.rule → pass_breaks k j ≡ false
    plain a k l =
        let x = or_neither (ltb (D j).day s.day || is_crowded s (D j) j || is_other s (D j) j) (bad_range (D j)) a in
        let y = or_neither (ltb (D j).day s.day || is_crowded s (D j) j) (is_other s (D j) j) x.0 in
        let z = or_neither (ltb (D j).day s.day) (is_crowded s (D j) j) y.0 in
        sym (agree k l (λ e. z.0)) ∙
        no_test (ltb (D j).day s.day) (is_crowded s (D j) j) (is_other s (D j) j) (bad_range (D j)) k
        (λ e. z.0)
        (λ e. z.1)
        (λ e. y.1)
        (λ e. x.1)

    next_is : Next (next_rule s (D j) j)
    unfolding next_rule
    next_is =
        ⊎_elim
        (λ (a : is_asked s (D j) j ≡ true). rw a asked)
        (λ a.
        rw a (record {
          least = w.least;
          le = omega arith;
          below = λ k x y. plain a k y;
          at = λ x. absurd (omega arith);
        }))
        (bool_cases (is_asked s (D j) j))

    -- no day number has fallen up to dose j
    rises : (m : ℕ) → ltb (D j).day s.day ≡ false → Days j s → Days (j + 1) (turned s (D j) j m)
    unfolding turned
    rises m up t =
        let r : s.day ≤ (D j).day = ltb-false _ _ up in
        record {
          before = ahead up t;
          within = λ i a l.
              below_more (λ (i : ℕ). from up t ≤ i → (D i).day ≡ (D j).day) j (λ i l a. here up t i a l) (λ a. refl) i l a;
          most =
              rw (largest_more (λ (i : ℕ). unmarked_day (D i)) j, ← t.most)
              (⊎_elim
              (λ (e : is_marked (D j) ≡ true). rw e (omega arith))
              (λ e. rw e (omega (arith, t.most_le)))
              (bool_cases (is_marked (D j))));
          most_le = cond_le (is_marked (D j)) (omega (arith, t.most_le)) (omega arith);
        }

    -- dose j is the first of its day of its kind, or a clock dose with a higher rank than those ahead of it, or has no time
    alone : ltb (D j).day s.day ≡ false → Days j s → (is_clock (D j) && leb (rank_of (D j)) s.top) ≡ false → ltb (from_of s (D j) j) (last_at s (D j).kind) ≡ false → any_below j (λ i. twice (D i) (D j)) ≡ false
    alone up t a b =
        any_none (λ (i : ℕ). twice (D i) (D j)) (λ i m.
        not_true_false (twice (D i) (D j)) (λ z.
        let y = twice_is (D i) (D j) z in
        ⊎_elim
        (λ (k : is_timed (D i) ≡ true).
        let low : from up t ≤ i = same_from up t i y.day in
        let high : i < last_at s (D j).kind = rw y.kind at (w.kinds i m k) in
        let none : last_at s (D j).kind ≤ from up t = ltb-false _ _ b in
        omega (arith, low, high, none))
        (λ (k : (is_clock (D i) ≡ true) × ((D i).minute ≡ (D j).minute)).
        let clock : is_clock (D j) ≡ true = rw y.kind at k.0 in
        let high : s.top < rank_of (D j) = leb-false _ _ (rw clock at a) in
        omega (arith, same_rank (D i) (D j) y.day k.1, w.tops i m k.0))
        y.way))

    -- the largest rank with dose j
    topped : (t : Bool) → (s.top ≤ cond (t && ltb s.top (rank_of (D j))) (rank_of (D j)) s.top) × (t ≡ true → rank_of (D j) ≤ cond (t && ltb s.top (rank_of (D j))) (rank_of (D j)) s.top)
    topped true = let top = larger (rank_of (D j)) s.top in (top.1, λ f. top.0)
    topped false = (omega arith, λ f. absurd (true_not_false f refl))

    -- the last dose of each kind with dose j
    kinds_on : (m i : ℕ) → i < j + 1 → is_timed (D i) ≡ true → i < last_at (turned s (D j) j m) (D i).kind
    kinds_on m =
        let last : (i : ℕ) → is_timed (D i) ≡ true → last_at (turned s (D j) j m) (D i).kind ≡ cond (eqb (D j).kind (D i).kind) (j + 1) (last_at s (D i).kind) =
        λ i h.
        let x = and_both (leb 1 (D i).kind) (leb (D i).kind 4) h in
        last_more s (D j) j m (D i).kind (leb-true _ _ x.0) (leb-true _ _ x.1) in
        below_more (λ (i : ℕ). is_timed (D i) ≡ true → i < last_at (turned s (D j) j m) (D i).kind) j
        (λ i l h.
        rw (last i h)
        (⊎_elim
        (λ (e : eqb (D j).kind (D i).kind ≡ true). rw e (omega arith))
        (λ e. rw e (w.kinds i l h))
        (bool_cases (eqb (D j).kind (D i).kind))))
        (λ h. rw (last j h, eq-eqb (D j).kind (D j).kind refl) (omega arith))

    -- one dose more
    pub goes_on_lem : Walked (j + 1) (turned s (D j) j (next_rule s (D j) j))
    unfolding turned
    goes_on_lem =
        let m = next_rule s (D j) j in
        let n = next_is in
        let top = topped (is_clock (D j)) in
        record {
          from_le = cond_le (eqb s.day (D j).day) (omega (arith, w.from_le)) (omega arith);
          start = λ e. absurd (omega arith);
          last = λ l. let e : j + 1 - 1 ≡ j = omega arith in rw e;
          tops =
              below_more (λ (i : ℕ). is_clock (D i) ≡ true → rank_of (D i) ≤ cond (is_clock (D j) && ltb s.top (rank_of (D j))) (rank_of (D j)) s.top) j
              (λ i l u. omega (arith, w.tops i l u, top.0))
              top.1;
          kinds = kinds_on m;
          fixed =
              kept_more j false (is_fixed (D j))
              (λ t. let x = and_both (is_untimed (D j)) (not (is_marked (D j))) t in (x.0, not-true (is_marked (D j)) x.1))
              (λ t u m. true_not_false (both_and u (ap not m)) t)
              w.fixed;
          need =
              kept_more j true (is_need (D j))
              (λ t. and_both (is_untimed (D j)) (is_marked (D j)) t)
              (λ t u m. true_not_false (both_and u m) t)
              w.need;
          timed = rw (any_more (λ (i : ℕ). is_timed (D i)) j, ← w.timed);
          marked = rw (count_more (λ (i : ℕ). is_marked (D i)) j, ← w.marked);
          sum = rw (sum_more (λ (i : ℕ). unmarked_upper (D i)) j) (omega (arith, w.sum));
          least = n.least;
          most = omega (arith, n.le, w.most);
          again = λ u e.
              let x = or_neither (s.again || (is_clock (D j) && leb (rank_of (D j)) s.top)) (ltb (from_of s (D j) j) (last_at s (D j).kind)) e in
              let y = or_neither s.again (is_clock (D j) && leb (rank_of (D j)) s.top) x.0 in
              let up : 7 < s.rule = omega (arith, n.le) in
              none_more (λ (k : ℕ). any_below k (λ i. twice (D i) (D k))) (w.again up y.0)
              (alone (sym falls_is ∙ n.below 7 (omega arith) u) (w.days up) y.1 x.1);
          lower = λ k a b. none_more (pass_breaks k) (w.lower k a (omega (arith, n.le))) (n.below k a b);
          hit = λ l.
              ⊎_elim
              (λ (e : m ≡ s.rule).
              let x = any_some (pass_breaks s.rule) j (w.hit (omega arith)) in
              rw e (any_hit (pass_breaks s.rule) {i = x.0} (omega (arith, x.1)) x.2))
              (λ l. any_hit (pass_breaks m) {i = j} (omega arith) (n.at l))
              (eq-or-lt_of_le n.le);
          days = λ l. rises m (sym falls_is ∙ n.below 7 (omega arith) l) (w.days (omega (arith, n.le)));
        }

  -- what the pass keeps of the first j doses is what it should
  pub walked : (j : ℕ) → Walked j (walked_to D j)
  unfolding walked_to
  walked zero = begins
  walked (suc j) = rw (← add-one j) (goes_on_lem j (walked_to D j) (walked j))
