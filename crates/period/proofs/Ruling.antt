-- The lowest broken rule of the period at block b of the plan p, step by step from rule 5 on. Assumes nothing.
use Prim.Native.Nat.{ℕ, ◌+◌, ◌-◌, ◌≤◌, ◌<◌}
use mathlib.Core.Bool.{Bool, true, false}
use mathlib.Core.List.{List}
use mathlib.Core.Logic.{⊎_elim}
use mathlib.Core.Path.{◌≡◌, refl, sym, ◌∙◌}
use native.Mathlib.Nat.{eq-or-lt_of_le}
use native.Mathlib.Omega.{arith}
use lib.Dec.{ltb}
use borrow.Author.Tests.{ne_eqb}
use Rattle.below.specs.Below.{any_below, count_below}
use Rattle.below.proofs.Search.{first_is, first_none}
use Rattle.plan.specs.Fields.{is_marked}
use Rattle.plan.specs.Periods.{block_at, doses_of, dose_in, has_unmarked, has_marked, class_by, class_of}
use Rattle.period.specs.declared.turn.Walk.{Walk}
use Rattle.period.specs.Doses.{dose_breaks, too_much}
use Rattle.period.specs.Period.{outside, early, limit_of, period_breaks, rule_of}
use Rattle.period.specs.Code.Turn.{Passed}
use Rattle.period.specs.Code.Twice.{has_twice, Rising}
use Rattle.period.specs.Code.Finish.{is_past, is_any_day, is_both, is_too_much, NotYet}
use Rattle.period.proofs.Counts.{any_count, any_not_count}
use Rattle.period.proofs.Walked.{Walked, walked}
use Rattle.period.proofs.Ends as ends

module _ (p : List ℕ) (b : ℕ) where
  breaks : ℕ → Bool
  breaks i = period_breaks (5 + i) p b

  -- a rule is broken, and none below it
  rule_is : (k : ℕ) → 5 ≤ k → k < 15 → NotYet p b k → period_breaks k p b ≡ true → k ≡ rule_of p b
  unfolding rule_of breaks
  rule_is k a l none hit =
      let e : 5 + (k - 5) ≡ k = omega arith in
      rw (first_is breaks {n = 10} {i = k - 5} (omega arith) (λ i m. none (5 + i) (omega arith) (omega arith)) (rw e hit)) (sym e)

  -- no rule is
  pub none_is : NotYet p b 15 → 15 ≡ rule_of p b
  unfolding rule_of breaks
  none_is none = rw (first_none breaks 10 (λ i m. none (5 + i) (omega arith) (omega arith)))

  from_5 : NotYet p b 5
  from_5 i a l = absurd (omega arith)

  pub one_on : (k : ℕ) → NotYet p b k → period_breaks k p b ≡ false → NotYet p b (k + 1)
  one_on k none e i a l =
      ⊎_elim
      (λ (q : i ≡ k). rw q e)
      (λ q. none i a q)
      (eq-or-lt_of_le (let z : i ≤ k = omega arith in z))

  pub is_5 : outside p b ≡ true → 5 ≡ rule_of p b
  unfolding period_breaks
  is_5 e = rule_is 5 (omega arith) (omega arith) from_5 e

  module _ (inside : outside p b ≡ false) where
    to_6 : NotYet p b 6
    unfolding period_breaks
    to_6 = one_on 5 from_5 inside

    pub is_6 : early p b ≡ true → 6 ≡ rule_of p b
    unfolding period_breaks
    is_6 e = rule_is 6 (omega arith) (omega arith) to_6 e

    pub to_7 : early p b ≡ false → NotYet p b 7
    unfolding period_breaks
    to_7 e = one_on 6 to_6 e

  -- the class by how many doses are marked
  pub class_counted : {n marked : ℕ} → n ≡ doses_of p b → marked ≡ count_below n (λ i. is_marked (dose_in p b i)) → class_by (ltb marked n) (ltb 0 marked) ≡ class_of p b
  unfolding class_of has_unmarked has_marked
  class_counted {n} counts e =
      let q : ℕ → Bool = λ i. is_marked (dose_in p b i) in
      rw (← counts, any_not_count q n, any_count q n, e)

  -- the pass has come to the last dose
  pub class_is : {n : ℕ} {s : Walk} → n ≡ doses_of p b → Passed p b n s → class_by (ltb s.marked n) (ltb 0 s.marked) ≡ class_of p b
  class_is {n} {s} counts done =
      let w : Walked (dose_in p b) n s = rw done.kept (walked (dose_in p b) n) in class_counted counts w.marked

  -- what rule 10's search counts on, and where it need not be made
  pub rises : {n : ℕ} {s : Walk} → Passed p b n s → 7 < s.rule → Rising (dose_in p b) n
  rises {n} {s} done up = ends.rises 0 n (dose_in p b) s (rw done.kept (walked (dose_in p b) n)) up

  pub not_again : {n : ℕ} {s : Walk} → Passed p b n s → 7 < s.rule → s.again ≡ false → has_twice (dose_in p b) n ≡ false
  not_again {n} {s} done = ends.not_again 0 n (dose_in p b) s (rw done.kept (walked (dose_in p b) n))

  -- rules 7 to 14, each by the answer of its test, where those ahead of it have answered no
  module _ {limit n : ℕ} {s : Walk} (limits : limit ≡ limit_of (block_at p b)) (counts : n ≡ doses_of p b) (done : Passed p b n s) where
    w : Walked (dose_in p b) n s
    w = rw done.kept (walked (dose_in p b) n)

    by_doses : (k : ℕ) → 7 ≤ k → k < 14 → period_breaks k p b ≡ any_below n (dose_breaks limit k (dose_in p b))
    unfolding period_breaks
    by_doses k a l =
        rw (limits, counts, ne_eqb k 5 (λ (z : k ≡ 5). omega arith), ne_eqb k 6 (λ (z : k ≡ 6). omega arith), ne_eqb k 14 (λ (z : k ≡ 14). omega arith))

    by_sum : period_breaks 14 p b ≡ too_much limit n (dose_in p b)
    unfolding period_breaks
    by_sum = rw (limits, counts)

    pub is_7 : s.rule ≡ 7 → NotYet p b 7 → 7 ≡ rule_of p b
    is_7 e y = rule_is 7 (omega arith) (omega arith) y (by_doses 7 (omega arith) (omega arith) ∙ ends.fallen limit n (dose_in p b) s w e)

    module _ (n7 : s.rule ≡ 7 → ⊥) where
      up : 7 < s.rule
      up = omega (arith, w.least)

      seven : period_breaks 7 p b ≡ is_past s limit
      seven = by_doses 7 (omega arith) (omega arith) ∙ ends.past limit n (dose_in p b) s w up

      pub is_past_lem : {past : Bool} → past ≡ is_past s limit → past ≡ true → NotYet p b 7 → 7 ≡ rule_of p b
      is_past_lem t e y = rule_is 7 (omega arith) (omega arith) y (seven ∙ sym t ∙ e)

      module _ {past : Bool} (asked-7 : past ≡ is_past s limit) (no-7 : past ≡ false) where
        to_8 : NotYet p b 7 → NotYet p b 8
        to_8 y = one_on 7 y (seven ∙ sym asked-7 ∙ no-7)

        eight : period_breaks 8 p b ≡ is_any_day (dose_in p b) s n
        eight = by_doses 8 (omega arith) (omega arith) ∙ ends.any_day limit n (dose_in p b) s w up

        pub is_8 : {any : Bool} → any ≡ is_any_day (dose_in p b) s n → any ≡ true → NotYet p b 7 → 8 ≡ rule_of p b
        is_8 t e y = rule_is 8 (omega arith) (omega arith) (to_8 y) (eight ∙ sym t ∙ e)

        module _ {any : Bool} (asked-8 : any ≡ is_any_day (dose_in p b) s n) (no-8 : any ≡ false) where
          to_9 : NotYet p b 7 → NotYet p b 9
          to_9 y = one_on 8 (to_8 y) (eight ∙ sym asked-8 ∙ no-8)

          n8 : s.rule ≡ 8 → ⊥
          n8 = ends.never_8 limit n (dose_in p b) s w

          n10 : s.rule ≡ 10 → ⊥
          n10 = ends.never_10 limit n (dose_in p b) s w

          n12 : s.rule ≡ 12 → ⊥
          n12 = ends.never_12 limit n (dose_in p b) s w

          unbroken : (k : ℕ) → 9 ≤ k → k < 14 → (k ≡ 10 → ⊥) → (k ≡ 12 → ⊥) → k < s.rule → period_breaks k p b ≡ false
          unbroken k a l m10 m12 h =
              by_doses k (omega arith) l ∙
              ends.unbroken limit n (dose_in p b) s w k (λ (z : k ≡ 7). omega arith) (λ (z : k ≡ 8). omega arith) m10 m12 (omega arith) h

          broken : s.rule < 14 → period_breaks s.rule p b ≡ true
          broken l =
              by_doses s.rule w.least l ∙ ends.broken limit n (dose_in p b) s w s.rule n7 n8 n10 n12 refl l

          pub is_9 : s.rule < 10 → NotYet p b 7 → s.rule ≡ rule_of p b
          is_9 l y =
              let e : s.rule ≡ 9 = omega (arith, n8, up) in
              rule_is s.rule (omega arith) (omega arith) (rw e (to_9 y)) (broken (omega arith))

          module _ (late-10 : 10 ≤ s.rule) where
            to_10 : NotYet p b 7 → NotYet p b 10
            to_10 y = one_on 9 (to_9 y) (unbroken 9 (omega arith) (omega arith) (λ (z : 9 ≡ 10). omega arith) (λ (z : 9 ≡ 12). omega arith) (omega arith))

            ten : period_breaks 10 p b ≡ has_twice (dose_in p b) n
            ten = by_doses 10 (omega arith) (omega arith) ∙ ends.ten limit n (dose_in p b) s w

            pub is_10 : {again : Bool} → again ≡ has_twice (dose_in p b) n → again ≡ true → NotYet p b 7 → 10 ≡ rule_of p b
            is_10 t e y = rule_is 10 (omega arith) (omega arith) (to_10 y) (ten ∙ sym t ∙ e)

            module _ {again : Bool} (asked-10 : again ≡ has_twice (dose_in p b) n) (no-10 : again ≡ false) where
              to_11 : NotYet p b 7 → NotYet p b 11
              to_11 y = one_on 10 (to_10 y) (ten ∙ sym asked-10 ∙ no-10)

              pub is_11 : s.rule < 12 → NotYet p b 7 → s.rule ≡ rule_of p b
              is_11 l y =
                  let e : s.rule ≡ 11 = omega (arith, n10) in
                  rule_is s.rule (omega arith) (omega arith) (rw e (to_11 y)) (broken (omega arith))

              module _ (late : 12 ≤ s.rule) where
                to_12 : NotYet p b 7 → NotYet p b 12
                to_12 y = one_on 11 (to_11 y) (unbroken 11 (omega arith) (omega arith) (λ (z : 11 ≡ 10). omega arith) (λ (z : 11 ≡ 12). omega arith) (omega arith))

                twelve : period_breaks 12 p b ≡ is_both s
                twelve = by_doses 12 (omega arith) (omega arith) ∙ ends.both limit n (dose_in p b) s w

                pub is_12 : {both : Bool} → both ≡ is_both s → both ≡ true → NotYet p b 7 → 12 ≡ rule_of p b
                is_12 t e y = rule_is 12 (omega arith) (omega arith) (to_12 y) (twelve ∙ sym t ∙ e)

                module _ {both : Bool} (asked-12 : both ≡ is_both s) (no-12 : both ≡ false) where
                  to_13 : NotYet p b 7 → NotYet p b 13
                  to_13 y = one_on 12 (to_12 y) (twelve ∙ sym asked-12 ∙ no-12)

                  pub is_13 : s.rule < 14 → NotYet p b 7 → s.rule ≡ rule_of p b
                  is_13 l y =
                      let e : s.rule ≡ 13 = omega (arith, n12) in
                      rule_is s.rule (omega arith) (omega arith) (rw e (to_13 y)) (broken l)

                  module _ (last : 14 ≤ s.rule) where
                    to_14 : NotYet p b 7 → NotYet p b 14
                    to_14 y = one_on 13 (to_13 y) (unbroken 13 (omega arith) (omega arith) (λ (z : 13 ≡ 10). omega arith) (λ (z : 13 ≡ 12). omega arith) (omega arith))

                    fourteen : period_breaks 14 p b ≡ is_too_much s limit
                    fourteen = by_sum ∙ ends.too_much_lem limit n (dose_in p b) s w up

                    pub is_14 : {much : Bool} → much ≡ is_too_much s limit → much ≡ true → NotYet p b 7 → 14 ≡ rule_of p b
                    is_14 t e y = rule_is 14 (omega arith) (omega arith) (to_14 y) (fourteen ∙ sym t ∙ e)

                    pub is_15 : {much : Bool} → much ≡ is_too_much s limit → much ≡ false → NotYet p b 7 → 15 ≡ rule_of p b
                    is_15 t e y = none_is (one_on 14 (to_14 y) (fourteen ∙ sym t ∙ e))
