-- A plan is accepted exactly when no rule is broken. Assumes nothing.
use Rattle.std.specs.Prelude.{Err, Ok}
use Prim.Native.Nat.{ℕ, ◌≤◌, ◌<◌}
use mathlib.Core.Bool.{true, false}
use mathlib.Core.List.{List}
use mathlib.Core.Logic.{⊎_elim}
use mathlib.Core.Path.{◌≡◌, sym, ◌∙◌}
use native.Mathlib.Omega.{arith}
use lib.Dec.{ltb}
use lib.ListN.{length}
use borrow.Author.Tests.{ltb-false}
use Rattle.below.proofs.Search.{any_none, any_not}
use Rattle.below.proofs.Tests.{bool_cases}
use Rattle.form.proofs.Formed.{Formed}
use Rattle.form.specs.Form.{bad_length, form_breaks}
use Rattle.plan.specs.Periods.{blocks_of}
use Rattle.refusal.proofs.Order.{passed_lowest}
use Rattle.refusal.specs.declared.Refusal.{Refusal}
use Rattle.verdict.specs.Verdict.{plan_limit, breaks, first_rule, verdict_of}
use Rattle.verdict.proofs.Lowest.{Clear, row_form, accepted_is}

-- no rule is broken: not rule 1, and no other at any block
pub record NoRuleBroken (p : List ℕ) : Type 0 where
  pub long : bad_length plan_limit p ≡ false
  pub none : (k b : ℕ) → k < 18 → b < blocks_of p → breaks p k b ≡ false

not_both : {n : ℕ} {r : Refusal} → Err r ≡ Ok n → ⊥
not_both e = let z : ◌≡◌ {A = ℕ} 0 1 = cc in omega arith

module _ (p : List ℕ) where
  pub clear : NoRuleBroken p → Clear p 18
  clear n k l = any_none (breaks p k) (λ b q. n.none k b l q)

  -- where no rule is broken the plan is accepted
  pub accepted_where : NoRuleBroken p → verdict_of p ≡ Ok (length p)
  accepted_where n = sym (accepted_is p n.long (clear n))

  -- and only there
  pub accepted_only : {n : ℕ} → verdict_of p ≡ Ok n → NoRuleBroken p
  unfolding verdict_of
  accepted_only e =
      ⊎_elim
      (λ (t : bad_length plan_limit p ≡ true). absurd (not_both (rw t at e)))
      (λ (t : bad_length plan_limit p ≡ false).
      let f = rw t at e in
      ⊎_elim
      (λ (u : ltb (first_rule p) 18 ≡ true). absurd (not_both (rw u at f)))
      (λ u.
      let l : 18 ≤ first_rule p = ltb-false _ _ u in
      record {
        long = t;
        none = λ k b h q. any_not (breaks p k) (passed_lowest (blocks_of p) (breaks p) 18 k (omega arith)) b q;
      })
      (bool_cases (ltb (first_rule p) 18)))
      (bool_cases (bad_length plan_limit p))

-- such a plan has the right form
pub formed_of : (p : List ℕ) → NoRuleBroken p → Formed plan_limit p
formed_of p n =
    record {
      long = n.long;
      passed = λ k l. any_none (form_breaks p k) (λ b q. sym (row_form p l b) ∙ n.none k b (omega arith) q);
    }
