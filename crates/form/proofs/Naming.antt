-- Which rule is named, by what the searches over the blocks have found. Assumes nothing.
use Rattle.std.specs.Prelude.{Some, None, Err, Ok}
use Prim.Native.Nat.{ℕ, ◌<◌}
use mathlib.Core.Bool.{Bool, false}
use mathlib.Core.List.{List}
use mathlib.Core.Path.{◌≡◌, ◌∙◌}
use native.Mathlib.Omega.{arith}
use Rattle.below.proofs.Search.{NoneBelow, none_more, any_none, first_facts}
use Rattle.plan.specs.Periods.{blocks_of}
use Rattle.refusal.proofs.Order.{Passed}
use Rattle.refusal.specs.Order.{lowest_block}
use Rattle.refusal.specs.Refusals.{rule_at}
use Rattle.form.specs.Form.{bad_length, sums_wrong, misplaced, form_breaks, form_of}
use Rattle.form.specs.Code.Found.{found_below}
use Rattle.form.specs.Code.Front.{broken_at}
use Rattle.form.proofs.Formed.{none_broken, lowest_broken}
use Rattle.form.proofs.Laws.{none_ahead, broken_is, right_by}
use Rattle.form.proofs.Ranges.{some_found, none_found}

missed : (n : ℕ) (t : ℕ → Bool) → found_below n t ≡ None → NoneBelow t n
missed n t e b l = (first_facts t n).before b (omega (arith, none_found n t e))

module _ (limit : ℕ) (p : List ℕ) (long : bad_length limit p ≡ false) where
  pub nothing_broken : found_below (blocks_of p) (broken_at p) ≡ None → Ok tt ≡ form_of limit p
  nothing_broken e = right_by limit p long (none_broken p (missed _ _ e))

  -- a rule whose number is handed on: the blocks ahead keep it
  named : {k b : ℕ} → k < 5 → Passed (blocks_of p) (form_breaks p) k → b ≡ lowest_block (blocks_of p) (form_breaks p) k → b < blocks_of p → Err (rule_at k b) ≡ form_of limit p
  named {k} {b} l passed e m = rw e (broken_is limit p long l passed (omega (arith, e)))

  pub named_2 : {b : ℕ} → found_below (blocks_of p) (sums_wrong p) ≡ Some b → Err (rule_at 2 b) ≡ form_of limit p
  unfolding lowest_block form_breaks
  named_2 e = let s = some_found (blocks_of p) (sums_wrong p) e in named (omega arith) (none_ahead p) s.0 s.1

  pub passed_2 : found_below (blocks_of p) (sums_wrong p) ≡ None → Passed (blocks_of p) (form_breaks p) 3
  unfolding form_breaks
  passed_2 e = none_more _ (none_ahead p) (any_none (form_breaks p 2) (missed _ _ e))

  module _ (passed : Passed (blocks_of p) (form_breaks p) 3) where
    pub named_3 : {b : ℕ} → found_below (blocks_of p) (misplaced p) ≡ Some b → Err (rule_at 3 b) ≡ form_of limit p
    unfolding lowest_block form_breaks
    named_3 e = let s = some_found (blocks_of p) (misplaced p) e in named (omega arith) passed s.0 s.1

    pub passed_3 : found_below (blocks_of p) (misplaced p) ≡ None → Passed (blocks_of p) (form_breaks p) 4
    unfolding form_breaks
    passed_3 e = none_more _ passed (any_none (form_breaks p 3) (missed _ _ e))

  pub named_4 : {b : ℕ} → Passed (blocks_of p) (form_breaks p) 4 → found_below (blocks_of p) (broken_at p) ≡ Some b → Err (rule_at 4 b) ≡ form_of limit p
  named_4 passed e =
      let s = some_found (blocks_of p) (broken_at p) e in
      named (omega arith) passed (s.0 ∙ lowest_broken p passed) s.1
