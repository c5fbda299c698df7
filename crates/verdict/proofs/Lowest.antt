-- The order of the rules: what the steps of the verdict show of the table. Assumes nothing.
use Rattle.std.specs.Prelude.{Err, Ok}
use Prim.Native.Nat.{ℕ, ◌+◌, ◌-◌, ◌≤◌, ◌<◌}
use mathlib.Core.Bool.{true, false, ◌&&◌}
use mathlib.Core.List.{List}
use mathlib.Core.Logic.{⊎_elim}
use mathlib.Core.Path.{◌≡◌, refl, ◌∙◌}
use native.Mathlib.Nat.{le_refl}
use native.Mathlib.Omega.{arith}
use lib.Dec.{eqb, ltb}
use lib.ListN.{length}
use borrow.Author.Count.{below_more}
use borrow.Author.Tests.{lt-ltb, le-ltb, ltb-true}
use Rattle.below.proofs.Search.{NoneBelow, any_none, any_same, first_is, first_facts}
use Rattle.below.proofs.Tests.{bool_cases, le_or_lt}
use Rattle.form.proofs.Formed.{Formed}
use Rattle.form.specs.Form.{bad_length, form_breaks, form_rule, form_of}
use Rattle.period.specs.Period.{period_breaks, rule_of}
use Rattle.plan.specs.Periods.{blocks_of, is_period}
use Rattle.refusal.proofs.Order.{Passed, rule_is, rule_none, passed_lowest, block_facts, block_some}
use Rattle.refusal.specs.Order.{lowest_block}
use Rattle.refusal.specs.Refusals.{rule_at}
use Rattle.refusal.specs.declared.Refusal.{Refusal}
use Rattle.verdict.specs.Coverage.{bare, shares, holes}
use Rattle.verdict.specs.Code.Judging.{Lowest}
use Rattle.verdict.specs.Verdict.{plan_limit, breaks, first_rule, first_block, verdict_of}

module _ (p : List ℕ) where
  -- the rows of the table
  pub row_form : {k : ℕ} → k < 5 → (b : ℕ) → breaks p k b ≡ form_breaks p k b
  unfolding breaks
  row_form {k} l b = rw (lt-ltb k 5 l)

  pub row_period : {k : ℕ} → 5 ≤ k → k < 15 → (b : ℕ) → breaks p k b ≡ (is_period p b && period_breaks k p b)
  unfolding breaks
  row_period {k} l h b = rw (le-ltb k 5 l, lt-ltb k 15 h)

  pub row_15 : (b : ℕ) → breaks p 15 b ≡ (eqb b 0 && bare p)
  unfolding breaks
  row_15 b = refl

  pub row_16 : (b : ℕ) → breaks p 16 b ≡ shares p b
  unfolding breaks
  row_16 b = refl

  pub row_17 : (b : ℕ) → breaks p 17 b ≡ (eqb b 0 && holes p)
  unfolding breaks
  row_17 b = refl

  -- no rule below k is broken
  abbrev pub Clear : ℕ → Type 0
  Clear k = Passed (blocks_of p) (breaks p) k

  -- the answer, by what the steps have shown
  module _ (long : bad_length plan_limit p ≡ false) where
    pub broken_is : {k b : ℕ} → k < 18 → Clear k → b < blocks_of p → NoneBelow (breaks p k) b → breaks p k b ≡ true → Err (rule_at k b) ≡ verdict_of p
    unfolding verdict_of lowest_block
    broken_is {k} {b} l clear q none hit =
        let e : first_block p k ≡ b = first_is (breaks p k) q none hit in
        let f : first_rule p ≡ k = rule_is (blocks_of p) (breaks p) l clear (omega arith) in
        rw (long, f, e, lt-ltb k 18 l)

    pub accepted_is : Clear 18 → Ok (length p) ≡ verdict_of p
    unfolding verdict_of
    accepted_is clear = let f : first_rule p ≡ 18 = rule_none (blocks_of p) (breaks p) (le_refl 18) clear in rw (long, f)

  -- rules 1 to 4
  pub formed_clear : Formed plan_limit p → Clear 5
  formed_clear f k l = any_same (breaks p k) (form_breaks p k) (blocks_of p) (λ b q. row_form l b) ∙ f.passed k l

  form_place : ltb (form_rule p) 5 ≡ true → bad_length plan_limit p ≡ false → Err (rule_at (form_rule p) (lowest_block (blocks_of p) (form_breaks p) (form_rule p))) ≡ verdict_of p
  form_place u long =
      let n = blocks_of p in
      let k = form_rule p in
      let l : k < 5 = ltb-true _ _ u in
      let f = block_facts n (form_breaks p) k in
      let q = block_some n (form_breaks p) 5 l in
      broken_is long (omega arith)
      (λ i h. any_same (breaks p i) (form_breaks p i) n (λ b _. row_form (omega arith) b) ∙ passed_lowest n (form_breaks p) 5 i h)
      q
      (λ b h. row_form l b ∙ f.before b h)
      (row_form l _ ∙ f.here q)

  pub form_broken : {r : Refusal} → form_of plan_limit p ≡ Err r → Err r ≡ verdict_of p
  unfolding form_of verdict_of
  form_broken {r} e =
      ⊎_elim
      (λ (t : bad_length plan_limit p ≡ true). let f = rw t at e in rw t (cc))
      (λ (t : bad_length plan_limit p ≡ false).
      let f = rw t at e in
      ⊎_elim
      (λ (u : ltb (form_rule p) 5 ≡ true).
      let g = rw u at f in
      let same : r ≡ rule_at (form_rule p) (lowest_block (blocks_of p) (form_breaks p) (form_rule p)) = cc in
      rw same (form_place u t))
      (λ (u : ltb (form_rule p) 5 ≡ false). let g = rw u at f in absurd (let z : ◌≡◌ {A = ℕ} 0 1 = cc in omega arith))
      (bool_cases (ltb (form_rule p) 5)))
      (bool_cases (bad_length plan_limit p))

  -- rules 5 to 14 of one period: none below its own is broken, and that one is, unless it is 15
  module _ (b : ℕ) where
    pub rule_low : 5 ≤ rule_of p b
    unfolding rule_of
    rule_low = omega arith

    pub rule_high : rule_of p b ≤ 15
    unfolding rule_of
    rule_high = omega (arith, (first_facts (λ i. period_breaks (5 + i) p b) 10).within)

    pub rule_clear : {k : ℕ} → 5 ≤ k → k < rule_of p b → period_breaks k p b ≡ false
    unfolding rule_of
    rule_clear {k} l h =
        let e : 5 + (k - 5) ≡ k = omega arith in
        rw e at ((first_facts (λ i. period_breaks (5 + i) p b) 10).before (k - 5) (omega arith))

    pub rule_hit : rule_of p b < 15 → period_breaks (rule_of p b) p b ≡ true
    unfolding rule_of
    rule_hit l = (first_facts (λ i. period_breaks (5 + i) p b) 10).here (omega arith)

  pub lowest_zero : (place : ℕ) → Lowest p 0 15 place
  lowest_zero place =
      record {
        low = omega arith;
        high = omega arith;
        none = λ c l. absurd (omega arith);
        some = λ l. absurd (omega arith);
        first = λ l. absurd (omega arith);
      }

  module _ {b rule place : ℕ} (w : Lowest p b rule place) where
    -- block b begins no period, or one that breaks nothing lower
    pub lowest_same : (is_period p b ≡ true → rule ≤ rule_of p b) → Lowest p (b + 1) rule place
    lowest_same h =
        record {
          low = w.low;
          high = w.high;
          none = below_more (λ (c : ℕ). is_period p c ≡ true → rule ≤ rule_of p c) b w.none h;
          some = λ l. let s = w.some l in (omega (arith, s.0), s.1, s.2);
          first = w.first;
        }

    -- or one that does
    pub lowest_new : is_period p b ≡ true → rule_of p b < rule → Lowest p (b + 1) (rule_of p b) b
    lowest_new e l =
        record {
          low = rule_low b;
          high = rule_high b;
          none = below_more (λ (c : ℕ). is_period p c ≡ true → rule_of p b ≤ rule_of p c) b (λ c q t. omega (arith, w.none c q t)) (λ t. omega arith);
          some = λ _. (omega arith, e, refl);
          first = λ _ c q t. omega (arith, w.none c q t);
        }

  module _ {rule place : ℕ} (w : Lowest p (blocks_of p) rule place) where
    no_period_breaks : {k : ℕ} → 5 ≤ k → k < 15 → (c : ℕ) → (is_period p c ≡ true → k < rule_of p c) → breaks p k c ≡ false
    no_period_breaks {k} l h c clear =
        row_period l h c ∙
        ⊎_elim
        (λ (t : is_period p c ≡ true). rw (t, rule_clear c l (clear t)))
        (λ t. rw t)
        (bool_cases (is_period p c))

    -- no rule below the one found is broken
    pub lowest_clear : Clear 5 → Clear rule
    lowest_clear five k l =
        ⊎_elim
        (λ (a : 5 ≤ k).
        any_none (breaks p k)
        (λ c q. no_period_breaks a (omega (arith, w.high)) c (λ t. omega (arith, w.none c q t))))
        (λ a. five k a)
        (le_or_lt 5 k)

    -- and it is broken there first
    pub lowest_broken : bad_length plan_limit p ≡ false → Clear 5 → rule < 15 → Err (rule_at rule place) ≡ verdict_of p
    lowest_broken long five l =
        let s = w.some l in
        let hit : period_breaks rule p place ≡ true = rw s.2 at (rule_hit place (omega (arith, s.2))) in
        broken_is long (omega arith) (lowest_clear five) s.0
        (λ c q. no_period_breaks w.low l c (w.first l c q))
        (row_period w.low l place ∙ rw (s.1, hit))
