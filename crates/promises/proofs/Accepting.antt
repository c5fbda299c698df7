-- Demand 2 of the verdict: accepted exactly when no rule is broken, and otherwise the lowest rule and its lowest block. Assumes
-- nothing.
use Rattle.std.specs.Prelude.{Err, Ok}
use Prim.Native.Nat.{ℕ, ◌<◌}
use mathlib.Core.Bool.{true, false}
use mathlib.Core.List.{List}
use mathlib.Core.Logic.{⊎_elim}
use mathlib.Core.Path.{◌≡◌, refl, sym, ap, ◌∙◌}
use native.Mathlib.Omega.{arith}
use lib.Dec.{ltb}
use borrow.Author.Tests.{eq-eqb, ne_eqb, ltb-true}
use Rattle.below.proofs.Search.{any_none, any_not}
use Rattle.below.proofs.Tests.{bool_cases, true_not_false, le_or_lt, same_or_not}
use Rattle.form.specs.Form.{bad_length}
use Rattle.plan.specs.Periods.{blocks_of}
use Rattle.refusal.proofs.Order.{passed_lowest, block_facts, block_some, block_hit}
use Rattle.refusal.specs.Refusals.{has_no_place, nowhere, rule_at, refusal_in}
use Rattle.refusal.specs.declared.Refusal.{Refusal}
use Rattle.register.proofs.LawDone.{broken_number}
use Rattle.verdict.proofs.Exactly.{NoRuleBroken, accepted_where, accepted_only}
use Rattle.verdict.specs.Verdict.{plan_limit, breaks, first_rule, first_block, verdict_of}
use Rattle.verdict.specs.Answers.{Answer}
use Rattle.promises.specs.Demand2.{IsAccepted, IsLowest, Verdicts}
use Rattle.promises.specs.Orders.{is_broken}
use Rattle.promises.proofs.Orders.{some, no_rule, no_row}

module _ (p : List ℕ) where
  -- rule k is broken: rule 1 by the length, any other at some block
  by_block : (k : ℕ) → (k ≡ 1 → ⊥) → is_broken p k ≡ some p k
  by_block k n = rw (ne_eqb k 1 n)

  unbroken_none : ((k : ℕ) → k < 18 → is_broken p k ≡ false) → NoRuleBroken p
  unbroken_none h =
      record {
        long = h 1 (omega arith);
        none = λ k b l q.
            ⊎_elim
            (λ (e : k ≡ 1). rw e (any_not (breaks p 1) (no_row p) b q))
            (λ n. any_not (breaks p k) (sym (by_block k n) ∙ h k l) b q)
            (same_or_not k 1);
      }

  none_unbroken : NoRuleBroken p → (k : ℕ) → k < 18 → is_broken p k ≡ false
  none_unbroken n k l =
      ⊎_elim
      (λ (e : k ≡ 1). rw e n.long)
      (λ m. by_block k m ∙ any_none (breaks p k) (λ b q. n.none k b l q))
      (same_or_not k 1)

  -- number 0 is of an accepted plan alone
  pub zero_accepted : (a : Answer) → verdict_of p ≡ a → (refusal_in a).number ≡ 0 → NoRuleBroken p
  zero_accepted (Ok n) e z = accepted_only p e
  zero_accepted (Err q) e z = absurd (true_not_false (eq-eqb q.number 0 z) (broken_number p q e))

  pub accepted_none : IsAccepted p → NoRuleBroken p
  accepted_none e = zero_accepted (verdict_of p) refl (ap (λ (x : Refusal). x.number) e)

  -- the lowest rule and its lowest block
  lowest_form : bad_length plan_limit p ≡ true → IsLowest p 1 nowhere
  lowest_form t =
      record {
        rule = omega arith;
        broken = t;
        none_lower = λ j l. let z : j ≡ 0 = omega arith in rw z (no_rule p);
        no_place = λ _. refl;
        at_block = λ e. absurd (true_not_false refl e);
      }

  lowest_row : bad_length plan_limit p ≡ false → first_rule p < 18 → IsLowest p (first_rule p) (rule_at (first_rule p) (first_block p (first_rule p))).place
  lowest_row t l =
      let k = first_rule p in
      let n = blocks_of p in
      let q = block_some n (breaks p) 18 l in
      let hit : some p k ≡ true = block_hit n (breaks p) k q in
      let f = block_facts n (breaks p) k in
      record {
        rule = l;
        broken = by_block k (λ e. true_not_false (rw e at hit) (no_row p)) ∙ hit;
        none_lower = λ j h.
            ⊎_elim
            (λ (e : j ≡ 1). rw e t)
            (λ m. by_block j m ∙ passed_lowest n (breaks p) 18 j h)
            (same_or_not j 1);
        no_place = λ e. rw e;
        at_block = λ e. rw e (q, f.here q, f.before);
      }

  lowest_only : ((refusal_in (verdict_of p)).number ≡ 0 → ⊥) → IsLowest p (refusal_in (verdict_of p)).number (refusal_in (verdict_of p)).place
  unfolding verdict_of
  lowest_only h =
      ⊎_elim
      (λ (t : bad_length plan_limit p ≡ true). rw t (lowest_form t))
      (λ (t : bad_length plan_limit p ≡ false).
      ⊎_elim
      (λ (u : ltb (first_rule p) 18 ≡ true). rw (t, u) (lowest_row t (ltb-true _ _ u)))
      (λ (u : ltb (first_rule p) 18 ≡ false). absurd (h (rw (t, u))))
      (bool_cases (ltb (first_rule p) 18)))
      (bool_cases (bad_length plan_limit p))

-- there is only one such
module _ {p : List ℕ} {j k a b : ℕ} (x : IsLowest p j a) (y : IsLowest p k b) where
  one_rule : j ≡ k
  one_rule =
      ⊎_elim
      (λ l. ⊎_elim (λ h. omega arith) (λ (h : j < k). absurd (true_not_false x.broken (y.none_lower j h))) (le_or_lt k j))
      (λ (h : k < j). absurd (true_not_false y.broken (x.none_lower k h)))
      (le_or_lt j k)

  one_place : a ≡ b
  one_place =
      let e = one_rule in
      ⊎_elim
      (λ (t : has_no_place j ≡ true). x.no_place t ∙ sym (y.no_place (rw (← e) t)))
      (λ (t : has_no_place j ≡ false).
      let m = x.at_block t in
      let n = y.at_block (rw (← e) t) in
      let at : breaks p j b ≡ true = rw e n.1 in
      ⊎_elim
      (λ l. ⊎_elim (λ h. omega arith) (λ (h : a < b). absurd (true_not_false m.1 (rw e (n.2 a h)))) (le_or_lt b a))
      (λ (h : b < a). absurd (true_not_false at (m.2 b h)))
      (le_or_lt a b))
      (bool_cases (has_no_place j))

lowest_where : (p : List ℕ) (k b : ℕ) → IsLowest p k b → refusal_in (verdict_of p) ≡ record { number = k; place = b }
lowest_where p k b x =
    let some_rule : (refusal_in (verdict_of p)).number ≡ 0 → ⊥ =
    λ z. true_not_false x.broken (none_unbroken p (zero_accepted p (verdict_of p) refl z) k x.rule) in
    let y = lowest_only p some_rule in
    λ i. record { number = one_rule y x i; place = one_place y x i }

pub verdicts : Verdicts
verdicts =
    record {
      accepted_where = λ p h. ap refusal_in (accepted_where p (unbroken_none p h));
      accepted_only = λ p e. none_unbroken p (accepted_none p e);
      broken_where = lowest_where;
      broken_only = lowest_only;
    }
