-- Rules 7 to 14 over n doses, read off what the pass has kept of them. Assumes nothing.
use Prim.Native.Nat.{ℕ, zero, suc, ◌+◌, ◌-◌, ◌*◌, ◌/◌, ◌≤◌, ◌<◌}
use mathlib.Core.Bool.{Bool, true, false, not, ◌&&◌, ◌||◌}
use mathlib.Core.Logic.{⊎_elim}
use mathlib.Core.Path.{◌≡◌, refl, sym, ap, ◌∙◌}
use native.Mathlib.Nat.{eq-or-lt_of_le}
use native.Mathlib.Omega.{arith}
use lib.Dec.{eqb, leb, ltb}
use borrow.Author.Tests.{lt-ltb, le-leb, ltb-true, ltb-false, leb-true, eqb-true, eqb-false, eq-eqb, ne_eqb, not-true}
use Rattle.below.specs.Below.{any_below}
use Rattle.below.proofs.Search.{any_hit, any_none, any_some}
use Rattle.below.proofs.Tests.{bool_cases, true_not_false, bool_iff, and_both, both_and, or_either, or_true, le_or_lt}
use Rattle.plan.specs.declared.Dose.{Dose}
use Rattle.plan.specs.Fields.{is_marked}
use Rattle.period.specs.declared.turn.Walk.{Walk}
use Rattle.period.specs.Doses.{falls, passes, any_day_unmarked, beside_any_day, is_timed, is_untimed, twice, both_kinds, dose_breaks, too_much}
use Rattle.period.specs.Code.Twice.{has_twice, Rising}
use Rattle.period.specs.Code.Finish.{is_past, is_any_day, is_both, round_by, is_too_much}
use Rattle.period.proofs.Counts.{any_not_count}
use Rattle.period.proofs.Walked.{pass_breaks, Walked}

-- "or" by its second part
or_second : (a b : Bool) → b ≡ true → (a || b) ≡ true
or_second a b h = rw (h, or_true)

-- of two day numbers that do not fall, one is 0
one_zero : (d e : Dose) → d.day ≤ e.day → beside_any_day d e ≡ true → (d.day ≡ 0) × (0 < e.day)
one_zero d e l h =
    ⊎_elim
    (λ (x : eqb d.day 0 ≡ true).
    ⊎_elim
    (λ (y : eqb e.day 0 ≡ true). absurd (true_not_false (rw (x, y) at h) refl))
    (λ y. (eqb-true d.day 0 x, omega (arith, eqb-false e.day 0 y)))
    (bool_cases (eqb e.day 0)))
    (λ (x : eqb d.day 0 ≡ false).
    ⊎_elim
    (λ (y : eqb e.day 0 ≡ true). absurd (omega (arith, eqb-false d.day 0 x, eqb-true e.day 0 y)))
    (λ (y : eqb e.day 0 ≡ false). absurd (true_not_false (rw (x, y) at h) refl))
    (bool_cases (eqb e.day 0)))
    (bool_cases (eqb d.day 0))

-- 100,000,000,000 is 2048 times 48,828,125
by_2048 : (r x y : ℕ) → leb (100000000000 * r) (2048 * x + y) ≡ leb (48828125 * r) (x + y / 2048)
by_2048 r x y =
    bool_iff (leb (100000000000 * r) (2048 * x + y)) (leb (48828125 * r) (x + y / 2048))
    (λ e. le-leb (48828125 * r) (x + y / 2048) (omega (arith, leb-true (100000000000 * r) (2048 * x + y) e)))
    (λ e. le-leb (100000000000 * r) (2048 * x + y) (omega (arith, leb-true (48828125 * r) (x + y / 2048) e)))

module _ (limit n : ℕ) (D : ℕ → Dose) (s : Walk) (w : Walked D n s) where
  -- rules 9, 11 and 13 are what the pass looked for
  module _ (k : ℕ) (n7 : k ≡ 7 → ⊥) (n8 : k ≡ 8 → ⊥) (n10 : k ≡ 10 → ⊥) (n12 : k ≡ 12 → ⊥) where
    same_break : (j : ℕ) → dose_breaks limit k D j ≡ pass_breaks D k j
    unfolding dose_breaks
    same_break j = rw (ne_eqb k 7 n7, ne_eqb k 8 n8, ne_eqb k 10 n10, ne_eqb k 12 n12)

    pub unbroken : 7 ≤ k → k < s.rule → any_below n (dose_breaks limit k D) ≡ false
    unbroken a l = any_none (dose_breaks limit k D) (λ j m. same_break j ∙ w.lower k a l j m)

    pub broken : k ≡ s.rule → k < 14 → any_below n (dose_breaks limit k D) ≡ true
    broken e l =
        let x = any_some (pass_breaks D k) n (rw e (w.hit (omega arith))) in
        any_hit (dose_breaks limit k D) x.1 (same_break x.0 ∙ x.2)

  -- rules 8, 10 and 12 are none of those
  pub never_8 : s.rule ≡ 8 → ⊥
  never_8 e = let x = any_some (pass_breaks D 8) n (rw e at (w.hit (omega arith))) in true_not_false x.2 refl

  pub never_10 : s.rule ≡ 10 → ⊥
  never_10 e = let x = any_some (pass_breaks D 10) n (rw e at (w.hit (omega arith))) in true_not_false x.2 refl

  pub never_12 : s.rule ≡ 12 → ⊥
  never_12 e = let x = any_some (pass_breaks D 12) n (rw e at (w.hit (omega arith))) in true_not_false x.2 refl

  -- rule 10
  pub ten : any_below n (dose_breaks limit 10 D) ≡ has_twice D n
  unfolding has_twice dose_breaks
  ten = refl

  -- where it need not be asked
  pub not_again : 7 < s.rule → s.again ≡ false → has_twice D n ≡ false
  unfolding has_twice
  not_again up e = any_none (λ (j : ℕ). any_below j (λ i. twice (D i) (D j))) (w.again up e)

  -- a day number has fallen
  pub fallen : s.rule ≡ 7 → any_below n (dose_breaks limit 7 D) ≡ true
  unfolding dose_breaks
  fallen e =
      let x = any_some (pass_breaks D 7) n (rw e at (w.hit (omega arith))) in
      any_hit (dose_breaks limit 7 D) x.1 (rw x.2)

  -- one of the first doses is untimed where one was kept
  some_untimed : (ltb 0 s.fixed.at || ltb 0 s.need.at) ≡ any_below n (λ i. is_untimed (D i))
  some_untimed =
      let u : ℕ → Bool = λ i. is_untimed (D i) in
      bool_iff (ltb 0 s.fixed.at || ltb 0 s.need.at) (any_below n u)
      (λ e.
      ⊎_elim
      (λ (z : ltb 0 s.fixed.at ≡ true).
      let l : 0 < s.fixed.at = ltb-true _ _ z in
      any_hit u {i = s.fixed.at - 1} (omega (arith, w.fixed.within)) (w.fixed.here l).0)
      (λ z.
      let l : 0 < s.need.at = ltb-true _ _ z in
      any_hit u {i = s.need.at - 1} (omega (arith, w.need.within)) (w.need.here l).0)
      (or_either (ltb 0 s.fixed.at) (ltb 0 s.need.at) e))
      (λ e.
      let x = any_some u n e in
      ⊎_elim
      (λ (m : is_marked (D x.0) ≡ true).
      or_second (ltb 0 s.fixed.at) (ltb 0 s.need.at) (lt-ltb 0 s.need.at (omega (arith, w.need.latest x.0 x.1 x.2 m))))
      (λ m. rw (lt-ltb 0 s.fixed.at (omega (arith, w.fixed.latest x.0 x.1 x.2 m))))
      (bool_cases (is_marked (D x.0))))

  -- rule 12
  pub both : any_below n (dose_breaks limit 12 D) ≡ is_both s
  unfolding dose_breaks
  both =
      let u : ℕ → Bool = λ i. is_untimed (D i) in
      let t : ℕ → Bool = λ i. is_timed (D i) in
      rw (some_untimed, w.timed)
      (bool_iff (any_below n (dose_breaks limit 12 D)) (any_below n u && any_below n t)
      (λ e.
      let x = any_some (dose_breaks limit 12 D) n e in
      let j = x.0 in
      let y = any_some (λ (i : ℕ). both_kinds (D i) (D j)) j x.2 in
      let i = y.0 in
      let l : i < n = omega (arith, x.1, y.1) in
      ⊎_elim
      (λ (z : (is_untimed (D i) && is_timed (D j)) ≡ true).
      let a = and_both (is_untimed (D i)) (is_timed (D j)) z in both_and (any_hit u l a.0) (any_hit t x.1 a.1))
      (λ z.
      let a = and_both (is_timed (D i)) (is_untimed (D j)) z in both_and (any_hit u x.1 a.1) (any_hit t l a.0))
      (or_either (is_untimed (D i) && is_timed (D j)) (is_timed (D i) && is_untimed (D j)) y.2))
      (λ e.
      let z = and_both (any_below n u) (any_below n t) e in
      let a = any_some u n z.0 in
      let c = any_some t n z.1 in
      ⊎_elim
      (λ (l : a.0 ≤ c.0).
      ⊎_elim
      (λ (q : a.0 ≡ c.0).
      let k : (D c.0).kind ≡ 0 = eqb-true _ _ (rw q at a.2) in
      absurd (omega (arith, leb-true 1 (D c.0).kind (and_both (leb 1 (D c.0).kind) (leb (D c.0).kind 4) c.2).0)))
      (λ q.
      any_hit (dose_breaks limit 12 D) c.1 (any_hit (λ (i : ℕ). both_kinds (D i) (D c.0)) q (rw (a.2, c.2))))
      (eq-or-lt_of_le l))
      (λ l.
      any_hit (dose_breaks limit 12 D) a.1
      (any_hit (λ (i : ℕ). both_kinds (D i) (D a.0)) l
      (or_second (is_untimed (D c.0) && is_timed (D a.0)) (is_timed (D c.0) && is_untimed (D a.0)) (both_and c.2 a.2))))
      (le_or_lt a.0 c.0)))

  -- none has
  module _ (up : 7 < s.rule) where
    rise : (i k : ℕ) → i + k < n → (D i).day ≤ (D (i + k)).day
    rise i zero l = let e : i + 0 ≡ i = omega arith in rw e (omega arith)
    rise i (suc k) l =
        let e : i + suc k - 1 ≡ i + k = omega arith in
        let f : falls D (i + suc k) ≡ false = w.lower 7 (omega arith) up (i + suc k) l in
        let g : ltb (D (i + suc k)).day (D (i + suc k - 1)).day ≡ false = rw (lt-ltb 0 (i + suc k) (omega arith)) at f in
        let h : (D (i + k)).day ≤ (D (i + suc k)).day = ltb-false _ _ (rw e at g) in
        omega (arith, rise i k (omega arith))

    pub rises : Rising D n
    rises i j a l = let e : i + (j - i) ≡ j = omega arith in rw e at (rise i (j - i) (omega arith))

    to_last : (i : ℕ) → i < n → (D i).day ≤ s.day
    to_last i l =
        let h : 0 < n = omega arith in
        rw (w.last h) (rises i (n - 1) (omega arith) (omega arith))

    pub past : any_below n (dose_breaks limit 7 D) ≡ is_past s limit
    unfolding dose_breaks
    past =
        bool_iff (any_below n (dose_breaks limit 7 D)) (is_past s limit)
        (λ e.
        let x = any_some (dose_breaks limit 7 D) n e in
        ⊎_elim
        (λ (z : falls D x.0 ≡ true). absurd (true_not_false z (w.lower 7 (omega arith) up x.0 x.1)))
        (λ z.
        let y = and_both (ltb 0 limit) (ltb limit (D x.0).day) z in
        both_and y.0
        (lt-ltb limit s.day (omega (arith, ltb-true limit (D x.0).day y.1, to_last x.0 x.1))))
        (or_either (falls D x.0) (passes limit (D x.0)) x.2))
        (λ e.
        let y = and_both (ltb 0 limit) (ltb limit s.day) e in
        let l : limit < s.day = ltb-true _ _ y.1 in
        let h : 0 < n =
        ⊎_elim
        (λ (z : n ≤ 0). absurd (omega (arith, w.start (let q : n ≡ 0 = omega arith in q))))
        (λ z. z)
        (le_or_lt n 0) in
        any_hit (dose_breaks limit 7 D) {i = n - 1} (omega arith)
        (or_second (falls D (n - 1)) (passes limit (D (n - 1)))
        (both_and y.0 (lt-ltb limit (D (n - 1)).day (omega (arith, w.last h))))))

    pub any_day : any_below n (dose_breaks limit 8 D) ≡ is_any_day D s n
    unfolding dose_breaks
    any_day =
        let free : ℕ → Bool = λ i. not (is_marked (D i)) in
        let some : ltb s.marked n ≡ any_below n free =
        rw w.marked (sym (any_not_count (λ (i : ℕ). is_marked (D i)) n)) in
        bool_iff (any_below n (dose_breaks limit 8 D)) (is_any_day D s n)
        (λ e.
        let x = any_some (dose_breaks limit 8 D) n e in
        let j = x.0 in
        let h : 0 < n = omega (arith, x.1) in
        ⊎_elim
        (λ (z : any_day_unmarked (D j) ≡ true).
        let y = and_both (eqb (D j).day 0) (not (is_marked (D j))) z in
        let q : (D 0).day ≡ 0 = omega (arith, eqb-true (D j).day 0 y.0, rises 0 j (omega arith) x.1) in
        both_and (both_and (lt-ltb 0 n h) (eq-eqb (D 0).day 0 q)) (rw (some, any_hit free x.1 y.1)))
        (λ z.
        let y = any_some (λ (i : ℕ). beside_any_day (D i) (D j)) j z in
        let i = y.0 in
        let o = one_zero (D i) (D j) (rises i j (omega (arith, y.1)) x.1) y.2 in
        let q : (D 0).day ≡ 0 = omega (arith, o.0, rises 0 i (omega arith) (omega (arith, x.1, y.1))) in
        both_and (both_and (lt-ltb 0 n h) (eq-eqb (D 0).day 0 q))
        (or_second (ltb s.marked n) (not (eqb s.day 0))
        (ap not (ne_eqb s.day 0 (λ (u : s.day ≡ 0). omega (arith, o.1, to_last j x.1))))))
        (or_either (any_day_unmarked (D j)) (any_below j (λ i. beside_any_day (D i) (D j))) x.2))
        (λ e.
        let x = and_both (ltb 0 n && eqb (D 0).day 0) (ltb s.marked n || not (eqb s.day 0)) e in
        let y = and_both (ltb 0 n) (eqb (D 0).day 0) x.0 in
        let h : 0 < n = ltb-true 0 n y.0 in
        let q : (D 0).day ≡ 0 = eqb-true _ _ y.1 in
        ⊎_elim
        (λ (z : eqb s.day 0 ≡ true).
        let m : ltb s.marked n ≡ true =
        ⊎_elim
        (λ (a : ltb s.marked n ≡ true). a)
        (λ a. absurd (true_not_false z (not-true (eqb s.day 0) a)))
        (or_either (ltb s.marked n) (not (eqb s.day 0)) x.1) in
        let c = any_some free n (sym some ∙ m) in
        let r : (D c.0).day ≡ 0 = omega (arith, eqb-true s.day 0 z, to_last c.0 c.1) in
        any_hit (dose_breaks limit 8 D) c.1 (rw (eq-eqb (D c.0).day 0 r, c.2)))
        (λ z.
        let g : 0 < (D (n - 1)).day = omega (arith, w.last h, eqb-false s.day 0 z) in
        let l : 0 < n - 1 =
        ⊎_elim
        (λ (a : n - 1 ≤ 0).
        let b : n - 1 ≡ 0 = omega arith in
        let r : (D (n - 1)).day ≡ 0 = rw b q in absurd (omega arith))
        (λ a. a)
        (le_or_lt (n - 1) 0) in
        any_hit (dose_breaks limit 8 D) {i = n - 1} (omega arith)
        (or_second (any_day_unmarked (D (n - 1))) (any_below (n - 1) (λ i. beside_any_day (D i) (D (n - 1))))
        (any_hit (λ (i : ℕ). beside_any_day (D i) (D (n - 1))) {i = 0} l
        (rw (eq-eqb (D 0).day 0 q, ne_eqb (D (n - 1)).day 0 (λ (u : (D (n - 1)).day ≡ 0). omega arith))))))
        (bool_cases (eqb s.day 0)))

    pub too_much_lem : too_much limit n D ≡ is_too_much s limit
    unfolding too_much
    too_much_lem = rw (← (w.days up).most, ← w.sum) (by_2048 (round_by s limit) s.big s.small)
