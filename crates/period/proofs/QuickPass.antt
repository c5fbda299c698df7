-- What the quick pass lets through breaks none of rules 7 to 14. Assumes nothing.
use Prim.Native.Nat.{ℕ, zero, suc, ◌+◌, ◌-◌, ◌*◌, ◌/◌, ◌≤◌, ◌<◌, max}
use mathlib.Core.Bool.{Bool, true, false, cond, not, ◌&&◌, beq}
use mathlib.Core.List.{List}
use mathlib.Core.Logic.{⊎_elim}
use mathlib.Core.Path.{◌≡◌, sym, ◌∙◌}
use native.Mathlib.Nat.{eq-or-lt_of_le}
use native.Mathlib.Omega.{arith}
use lib.Dec.{eqb, leb, ltb}
use borrow.Author.Count.{below_more}
use borrow.Author.Tests.{eq-eqb, eqb-true, eqb-false, ne_eqb, ltb-true, lt-ltb, le-ltb, le-leb, lt-leb, leb-true, leb-false, not-false}
use Rattle.below.specs.Below.{any_below, count_below, sum_below, largest_below}
use Rattle.below.proofs.Search.{NoneBelow, any_hit, any_none, any_not}
use Rattle.below.proofs.Tests.{bool_cases, true_not_false, not_true_false, bool_iff, and_both, both_and, or_either, or_neither, neither_or, le_or_lt}
use Rattle.below.proofs.Total.{count_zero, count_more, count_le, sum_zero, sum_more}
use Rattle.plan.specs.declared.Dose.{Dose}
use Rattle.plan.specs.Fields.{is_marked, upper_of}
use Rattle.plan.specs.Periods.{block_at, doses_of, dose_in}
use Rattle.period.specs.declared.quick.Quick.{Quick}
use Rattle.period.specs.Doses.{falls, passes, any_day_unmarked, beside_any_day, same_day, is_timed, is_untimed, twice, other_amounts, both_kinds, bad_range, dose_breaks, unmarked_upper, unmarked_day, round_of, too_much}
use Rattle.period.specs.Code.Finish.{NotYet}
use Rattle.period.specs.Period.{limit_of, period_breaks}
use Rattle.period.specs.Code.Quick.{quick_rank, quick_begun, quick_turned, QuickRoom, Quickly, may_pass, may_any_day, may_both, may_too_much, Apart}
use Rattle.period.proofs.Counts.{any_count, any_not_count}
use Rattle.period.specs.Code.Turn.{is_clock}
use Rattle.period.proofs.Rank.{same_is, twice_is, timed_is, others}
use Rattle.period.proofs.Ruling.{one_on}

-- ranks rise only where day numbers do not fall
quick_day : (d e : Dose) → quick_rank d ≤ quick_rank e → d.day ≤ e.day
unfolding quick_rank
quick_day d e h = omega (arith, h)

-- doses that clash by rule 10 or 11 have one rank
quick_twice : (d e : Dose) → twice d e ≡ true → quick_rank d ≡ quick_rank e
unfolding quick_rank
quick_twice d e h =
    let y = twice_is d e h in
    ⊎_elim
    (λ (t : is_timed d ≡ true).
    let k = timed_is d t in
    rw (y.day, y.kind, ne_eqb e.kind 5 (λ (z : e.kind ≡ 5). omega (arith, k, y.kind)), ne_eqb e.kind 0 (λ (z : e.kind ≡ 0). omega (arith, k, y.kind))))
    (λ (t : (is_clock d ≡ true) × (d.minute ≡ e.minute)).
    let clock : e.kind ≡ 5 = sym y.kind ∙ eqb-true _ _ t.0 in
    rw (y.day, y.kind, t.1, clock))
    y.way

quick_other : (d e : Dose) → other_amounts d e ≡ true → quick_rank d ≡ quick_rank e
unfolding quick_rank
quick_other d e h =
    let o = others d e h in
    let x = and_both (is_untimed d && is_untimed e) (beq (is_marked d) (is_marked e)) o.like in
    let y = and_both (is_untimed d) (is_untimed e) x.0 in
    let kd : d.kind ≡ 0 = eqb-true _ _ y.0 in
    let ke : e.kind ≡ 0 = eqb-true _ _ y.1 in
    rw (o.day, kd, ke, same_is (is_marked d) (is_marked e) x.1)

-- a test that fails below a holds at most n - a times below n
count_few : (q : ℕ → Bool) (a n : ℕ) → a ≤ n → ((i : ℕ) → i < a → q i ≡ false) → count_below n q ≤ n - a
unfolding count_below
count_few q a zero l none = omega arith
count_few q a (suc n) l none =
    ⊎_elim
    (λ (h : a ≤ n). omega (arith, count_few q a n h none, one (q n)))
    (λ h. rw (none n (omega arith)) (omega (arith, count_few q n n (omega arith) (λ i m. none i (omega arith)))))
    (le_or_lt a n)
  where
    one : (b : Bool) → cond b 1 0 ≤ 1
    one true = omega arith
    one false = omega arith

-- a dose of kinds 1 to 4 has a time
timed_not : (d : Dose) → is_timed d ≡ true → not (is_untimed d) ≡ true
timed_not d t =
    let k = and_both (leb 1 d.kind) (leb d.kind 4) t in
    let least : 1 ≤ d.kind = leb-true _ _ k.0 in
    rw (ne_eqb d.kind 0 (λ (z : d.kind ≡ 0). omega arith))

module _ (D : ℕ → Dose) where
  pub begins : Quickly D 0 quick_begun
  begins =
      record {
        untimed = sym (count_zero _);
        marked = sym (count_zero _);
        tops = λ i l. absurd (omega arith);
        rise = λ i k l m. absurd (omega arith);
        range = λ i l. absurd (omega arith);
        sum = sym (sum_zero _);
        room = record { untimed = omega arith; marked = omega arith; total = omega arith };
      }

  -- dose j is in its turn
  pub goes_on_lem : (j : ℕ) (s : Quick) → Quickly D j s → s.rank < quick_rank (D j) → bad_range (D j) ≡ false →
      QuickRoom (j + 1) (quick_turned s (D j) (quick_rank (D j)) (upper_of (D j))) →
      Quickly D (j + 1) (quick_turned s (D j) (quick_rank (D j)) (upper_of (D j)))
  unfolding quick_turned
  goes_on_lem j s k up range room =
      record {
        untimed = rw (count_more (λ (i : ℕ). is_untimed (D i)) j, k.untimed);
        marked = rw (count_more (λ (i : ℕ). is_marked (D i)) j, k.marked);
        tops = below_more (λ (i : ℕ). quick_rank (D i) ≤ quick_rank (D j)) j (λ i l. omega (arith, k.tops i l)) (omega arith);
        rise = λ i n l m.
            below_more (λ (n : ℕ). (i : ℕ) → i < n → quick_rank (D i) < quick_rank (D n)) j (λ n m i l. k.rise i n l m) (λ i l. omega (arith, k.tops i l)) n m i l;
        range = below_more (λ (i : ℕ). bad_range (D i) ≡ false) j k.range range;
        sum = rw (sum_more (λ (i : ℕ). unmarked_upper (D i)) j, k.sum);
        room = room;
      }

  -- the function's steps: dose j, as the code has it
  pub quick_more : {j rank upper : ℕ} {s t : Quick} {d : Dose} → Quickly D j s → d ≡ D j → rank ≡ quick_rank d → s.rank < rank →
      bad_range d ≡ false → upper ≡ upper_of d → t ≡ quick_turned s d rank upper → QuickRoom (j + 1) t → Quickly D (j + 1) t
  quick_more {j} {rank} {upper} {s} {t} {d} k dose ranked up range most turned room =
      let e : t ≡ quick_turned s (D j) (quick_rank (D j)) (upper_of (D j)) = turned ∙ (rw (most, ranked, dose)) in
      rw e
      (goes_on_lem j s k (rw (← dose, ← ranked) up) (rw (← dose) range) (rw (← e) room))

  -- n doses were let through
  module _ (limit n : ℕ) (s : Quick) (k : Quickly D n s) where
    rising : (i j : ℕ) → i ≤ j → j < n → (D i).day ≤ (D j).day
    rising i j a l =
        ⊎_elim
        (λ (e : i ≡ j). rw e (omega arith))
        (λ e. quick_day (D i) (D j) (omega (arith, k.rise i j e l)))
        (eq-or-lt_of_le a)

    to_last : (i : ℕ) → i < n → (D i).day ≤ s.rank / 4294967296
    unfolding quick_rank
    to_last i l = omega (arith, k.tops i l)

    seven : may_pass s limit ≡ false → NoneBelow (dose_breaks limit 7 D) n
    unfolding dose_breaks
    seven e j l =
        neither_or {a = falls D j} {b = passes limit (D j)}
        (⊎_elim
        (λ (h : j ≤ 0). rw (le-ltb 0 j h))
        (λ h. rw (lt-ltb 0 j h) (le-ltb (D j).day (D (j - 1)).day (rising (j - 1) j (omega arith) l)))
        (le_or_lt j 0))
        (not_true_false (passes limit (D j)) (λ t.
        let x = and_both (ltb 0 limit) (ltb limit (D j).day) t in
        true_not_false
        (both_and x.0 (lt-ltb limit (s.rank / 4294967296) (omega (arith, ltb-true limit (D j).day x.1, to_last j l))))
        e))

    -- day number 0 stands on no dose, or on all, and all are marked
    eight : may_any_day D s n ≡ false → NoneBelow (dose_breaks limit 8 D) n
    unfolding dose_breaks
    eight e j l =
        ⊎_elim
        (λ (z : eqb (D 0).day 0 ≡ true).
        let some : ltb 0 n ≡ true = lt-ltb 0 n (omega arith) in
        let q = or_neither (ltb s.marked n) (not (ltb s.rank 4294967296)) (rw (some, z) at e) in
        let low : s.rank < 4294967296 = ltb-true _ _ (not-false (ltb s.rank 4294967296) q.1) in
        let zero : (i : ℕ) → i < n → eqb (D i).day 0 ≡ true = λ i m. eq-eqb (D i).day 0 (omega (arith, to_last i m)) in
        let all : any_below n (λ i. not (is_marked (D i))) ≡ false = any_not_count (λ (i : ℕ). is_marked (D i)) n ∙ rw k.marked at q.0 in
        let marked : is_marked (D j) ≡ true = not-false (is_marked (D j)) (any_not (λ (i : ℕ). not (is_marked (D i))) all j l) in
        neither_or {a = any_day_unmarked (D j)} {b = any_below j (λ i. beside_any_day (D i) (D j))} (rw (marked, zero j l))
        (any_none (λ (i : ℕ). beside_any_day (D i) (D j)) (λ i m. rw (zero i (omega arith), zero j l))))
        (λ z.
        let some : (i : ℕ) → i < n → eqb (D i).day 0 ≡ false = λ i m. ne_eqb (D i).day 0 (λ (y : (D i).day ≡ 0). omega (arith, eqb-false (D 0).day 0 z, rising 0 i (omega arith) m)) in
        neither_or {a = any_day_unmarked (D j)} {b = any_below j (λ i. beside_any_day (D i) (D j))} (rw (some j l))
        (any_none (λ (i : ℕ). beside_any_day (D i) (D j)) (λ i m. rw (some i (omega arith), some j l))))
        (bool_cases (eqb (D 0).day 0))

    -- with 99 of dose j's day ahead of it, the 99th ahead has that day too, and so have all between
    nine : Apart D n → NoneBelow (dose_breaks limit 9 D) n
    unfolding dose_breaks
    nine apart j l =
        not_true_false (leb 99 (count_below j (λ i. same_day (D i) (D j)))) (λ t.
        let many : 99 ≤ count_below j (λ i. same_day (D i) (D j)) = leb-true _ _ t in
        let long : count_below j (λ i. same_day (D i) (D j)) ≤ j = count_le (λ (i : ℕ). same_day (D i) (D j)) j in
        let m = j - 99 in
        let up : (D m).day ≤ (D j).day = rising m j (omega arith) l in
        let same : (D j).day ≤ (D m).day =
        ⊎_elim
        (λ (h : (D j).day ≤ (D m).day). h)
        (λ h.
        absurd
        (omega (arith, many, count_few (λ (i : ℕ). same_day (D i) (D j)) (m + 1) j (omega arith) (λ i x. ne_eqb (D i).day (D j).day (λ (z : (D i).day ≡ (D j).day). omega (arith, rising i m (omega arith) (omega arith)))))))
        (le_or_lt (D j).day (D m).day) in
        let q = (m + 19) / 20 in
        let a = rising m (q * 20) (omega arith) (omega arith) in
        let b = rising (q * 20) (q * 20 + 80) (omega arith) (omega arith) in
        let c = rising (q * 20 + 80) j (omega arith) l in
        apart (omega arith) q (omega arith) (omega arith))

    ten : NoneBelow (dose_breaks limit 10 D) n
    unfolding dose_breaks
    ten j l =
        any_none (λ (i : ℕ). twice (D i) (D j)) (λ i m.
        not_true_false (twice (D i) (D j)) (λ t. omega (arith, quick_twice (D i) (D j) t, k.rise i j m l)))

    eleven : NoneBelow (dose_breaks limit 11 D) n
    unfolding dose_breaks
    eleven j l =
        any_none (λ (i : ℕ). other_amounts (D i) (D j)) (λ i m.
        not_true_false (other_amounts (D i) (D j)) (λ t. omega (arith, quick_other (D i) (D j) t, k.rise i j m l)))

    twelve : may_both s n ≡ false → NoneBelow (dose_breaks limit 12 D) n
    unfolding dose_breaks
    twelve e j l =
        let un : (i : ℕ) → i < n → is_untimed (D i) ≡ true → ltb 0 s.untimed ≡ true = λ i m h. rw k.untimed (sym (any_count (λ (i : ℕ). is_untimed (D i)) n) ∙ any_hit (λ (i : ℕ). is_untimed (D i)) m h) in
        let ti : (i : ℕ) → i < n → is_timed (D i) ≡ true → ltb s.untimed n ≡ true = λ i m h. rw k.untimed (sym (any_not_count (λ (i : ℕ). is_untimed (D i)) n) ∙ any_hit (λ (i : ℕ). not (is_untimed (D i))) m (timed_not (D i) h)) in
        any_none (λ (i : ℕ). both_kinds (D i) (D j)) (λ i m.
        not_true_false (both_kinds (D i) (D j)) (λ t.
        ⊎_elim
        (λ (u : (is_untimed (D i) && is_timed (D j)) ≡ true).
        let x = and_both (is_untimed (D i)) (is_timed (D j)) u in
        true_not_false (both_and (un i (omega arith) x.0) (ti j l x.1)) e)
        (λ u.
        let x = and_both (is_timed (D i)) (is_untimed (D j)) u in
        true_not_false (both_and (un j l x.1) (ti i (omega arith) x.0)) e)
        (or_either (is_untimed (D i) && is_timed (D j)) (is_timed (D i) && is_untimed (D j)) t)))

    thirteen : NoneBelow (dose_breaks limit 13 D) n
    unfolding dose_breaks
    thirteen = k.range

    fourteen : may_too_much s limit ≡ false → too_much limit n D ≡ false
    unfolding too_much
    fourteen e =
        not_true_false (leb (100000000000 * round_of limit n D) (sum_below n (λ j. unmarked_upper (D j)))) (λ t.
        let much : 100000000000 * round_of limit n D ≤ sum_below n (λ j. unmarked_upper (D j)) = leb-true _ _ t in
        let few : s.total < 100000000000 * max 1 limit = leb-false _ _ e in
        ⊎_elim
        (λ (z : eqb limit 0 ≡ true).
        let a : 100000000000 * max 1 (largest_below n (λ j. unmarked_day (D j))) ≤ sum_below n (λ j. unmarked_upper (D j)) = rw z at much in
        omega (arith, k.sum, eqb-true limit 0 z))
        (λ z.
        let a : 100000000000 * limit ≤ sum_below n (λ j. unmarked_upper (D j)) = rw z at much in
        omega (arith, k.sum, eqb-false limit 0 z))
        (bool_cases (eqb limit 0)))

-- what was let through, with the tests behind the pass, breaks no rule from 7 on
module _ (p : List ℕ) (b limit n : ℕ) (s : Quick) (limits : limit ≡ limit_of (block_at p b)) (counts : n ≡ doses_of p b) (done : Quickly (dose_in p b) n s) where
  by_doses : (k : ℕ) → 7 ≤ k → k < 14 → NoneBelow (dose_breaks limit k (dose_in p b)) n → period_breaks k p b ≡ false
  unfolding period_breaks
  by_doses k a l none =
      rw (ne_eqb k 5 (λ (z : k ≡ 5). omega arith), ne_eqb k 6 (λ (z : k ≡ 6). omega arith), ne_eqb k 14 (λ (z : k ≡ 14). omega arith), ← limits, ← counts)
      (any_none (dose_breaks limit k (dose_in p b)) none)

  by_sum : too_much limit n (dose_in p b) ≡ false → period_breaks 14 p b ≡ false
  unfolding period_breaks
  by_sum e = rw (← limits, ← counts) e

  pub let_through : may_pass s limit ≡ false → may_any_day (dose_in p b) s n ≡ false → may_both s n ≡ false → may_too_much s limit ≡ false → Apart (dose_in p b) n → NotYet p b 7 → NotYet p b 15
  let_through e7 e8 e12 e14 apart y =
      let D = dose_in p b in
      one_on p b 14 (one_on p b 13 (one_on p b 12 (one_on p b 11 (one_on p b 10 (one_on p b 9 (one_on p b 8 (one_on p b 7 y
      (by_doses 7 (omega arith) (omega arith) (seven D limit n s done e7)))
      (by_doses 8 (omega arith) (omega arith) (eight D limit n s done e8)))
      (by_doses 9 (omega arith) (omega arith) (nine D limit n s done apart)))
      (by_doses 10 (omega arith) (omega arith) (ten D limit n s done)))
      (by_doses 11 (omega arith) (omega arith) (eleven D limit n s done)))
      (by_doses 12 (omega arith) (omega arith) (twelve D limit n s done e12)))
      (by_doses 13 (omega arith) (omega arith) (thirteen D limit n s done)))
      (by_sum (fourteen D limit n s done e14))

-- a round has one day at least, so that a sum below one day's is not too much
pub too_little : (limit : ℕ) {total : ℕ} → total < 100000000000 → false ≡ leb (100000000000 * max 1 limit) total
too_little limit {total} l = sym (lt-leb (100000000000 * max 1 limit) total (omega arith))

-- the comparison of rule 14, by which nothing can grow too large
pub by_quotient : (limit total : ℕ) → leb limit (total / 100000000000) ≡ leb (100000000000 * limit) total
by_quotient limit total =
    bool_iff (leb limit (total / 100000000000)) (leb (100000000000 * limit) total)
    (λ e. let l : limit ≤ total / 100000000000 = leb-true _ _ e in le-leb (100000000000 * limit) total (omega arith))
    (λ e. let l : 100000000000 * limit ≤ total = leb-true _ _ e in le-leb limit (total / 100000000000) (omega arith))
