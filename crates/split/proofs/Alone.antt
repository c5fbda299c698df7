-- A plan whose periods all have doses of one part alone is that part, byte by byte. Assumes nothing.
use Rattle.std.specs.Prelude.{Ok}
use Prim.Native.Nat.{ℕ, zero, suc, ◌+◌, ◌≤◌, ◌<◌}
use mathlib.Core.Bool.{Bool, true, false, cond, not}
use mathlib.Core.List.{List, [], ◌∷◌}
use mathlib.Core.Logic.{⊎_elim}
use mathlib.Core.Path.{◌≡◌, refl, ◌∙◌}
use native.Mathlib.Omega.{arith}
use lib.ListN.{length}
use borrow.Author.Tests.{not-true, not-false}
use Rattle.below.proofs.Lists.{keep_append, join_same, join_none}
use Rattle.below.proofs.Search.{any_not}
use Rattle.below.proofs.Tests.{bool_cases, true_not_false}
use Rattle.below.specs.Lists.{list_below, keep}
use Rattle.block.proofs.Numbers.{AreBytes}
use Rattle.block.proofs.Put.{put_in}
use Rattle.block.specs.Bytes.{put}
use Rattle.form.specs.Form.{form_of}
use Rattle.layout.proofs.Again.{laid_again}
use Rattle.layout.specs.Reading.{doses_at, period_at, periods_of}
use Rattle.plan.specs.Fields.{is_marked}
use Rattle.plan.specs.Periods.{blocks_of, is_period, doses_of, dose_in, has_unmarked, has_marked, class_by, class_of}
use Rattle.plan.specs.Classes.{is_empty, same_class}
use Rattle.plan.proofs.SameClass.{same_is}
use Rattle.verdict.specs.Coverage.{in_group}
use Rattle.verdict.specs.Verdict.{plan_limit}
use Rattle.split.specs.Code.Wanted.{own_class, is_other, is_alone}
use Rattle.split.specs.Parts.{group_of, is_dosed_in, is_of_part, dosed_period, has_run, run_first, run_last, shared_by, shared_in, behind, brought_by, part_of, part_bytes}
use Rattle.split.specs.Split.{over}
use Rattle.split.proofs.Adding.{dosed_is}
use Rattle.split.proofs.Brought.{brought_none, brought_some}

-- all have the test
keep_all : {A : Type 0} (n : ℕ) (t : A → Bool) (f : ℕ → A) → ((j : ℕ) → j < n → t (f j) ≡ true) → keep t (list_below n f) ≡ list_below n f
unfolding list_below keep
keep_all zero t f h = refl
keep_all (suc n) t f h =
    keep_append t (list_below n f) (f n ∷ []) ∙ rw (keep_all n t f (λ j l. h j (omega arith)), h n (omega arith))

-- a class that has doses of one part alone has none of the other
only : (marked u v : Bool) → same_class (class_by u v) (own_class marked) ≡ true → cond marked u v ≡ false
only true true true e = absurd (true_not_false e refl)
only true true false e = absurd (true_not_false e refl)
only true false v e = refl
only false true true e = absurd (true_not_false e refl)
only false u false e = refl
only false false true e = absurd (true_not_false e refl)

of_part : (marked : Bool) (p : List ℕ) (b : ℕ) → same_class (class_of p b) (own_class marked) ≡ true → (j : ℕ) → j < doses_of p b → is_of_part marked (dose_in p b j) ≡ true
unfolding class_of has_unmarked has_marked
of_part true p b e j l = rw (not-false (is_marked (dose_in p b j)) (any_not (λ (j : ℕ). not (is_marked (dose_in p b j))) (only true (has_unmarked p b) (has_marked p b) e) j l))
of_part false p b e j l = rw (any_not (λ (j : ℕ). is_marked (dose_in p b j)) (only false (has_unmarked p b) (has_marked p b) e) j l)

not_empty : (marked : Bool) → is_empty (own_class marked) ≡ false
not_empty true = refl
not_empty false = refl

own_in : (marked : Bool) → in_group (group_of marked) (own_class marked) ≡ true
own_in true = refl
own_in false = refl

either_none : {A : Type 0} (t : Bool) (xs : List A) → xs ≡ [] → cond t xs [] ≡ []
either_none true xs e = e
either_none false xs e = refl

module _ (marked : Bool) (p : List ℕ) (alone : is_alone marked p ≡ true) where
  own : (b : ℕ) → b < blocks_of p → is_period p b ≡ true → same_class (class_of p b) (own_class marked) ≡ true
  unfolding is_alone
  own b l t =
      let n : is_other marked p b ≡ false = any_not (is_other marked p) (not-true _ alone) b l in
      not-false _ (rw t at n)

  class : (b : ℕ) → b < blocks_of p → is_period p b ≡ true → class_of p b ≡ own_class marked
  class b l t = same_is _ _ (own b l t)

  -- no empty period, and so no piece of one
  none_shared : (lo hi e : ℕ) → e < blocks_of p → shared_by p lo hi e ≡ []
  none_shared lo hi e l =
      ⊎_elim
      (λ (t : is_period p e ≡ true). rw (t, class e l t, not_empty marked))
      (λ (t : is_period p e ≡ false). rw t)
      (bool_cases (is_period p e))

  none_behind : (b : ℕ) → behind marked p b ≡ []
  unfolding behind shared_in
  none_behind b =
      either_none (has_run marked p b) _
      (join_none (blocks_of p) (shared_by p (run_first p b) (run_last marked p b)) (none_shared (run_first p b) (run_last marked p b)))

  -- all doses of a period come into the part
  all_doses : (b : ℕ) → b < blocks_of p → is_period p b ≡ true → dosed_period marked p b ≡ period_at p b
  unfolding doses_at
  all_doses b l t = rw (keep_all (doses_of p b) (is_of_part marked) (dose_in p b) (of_part marked p b (own b l t)))

  brought : (b : ℕ) → b < blocks_of p → brought_by marked p b ≡ cond (is_period p b) (period_at p b ∷ []) []
  brought b l =
      ⊎_elim
      (λ (t : is_period p b ≡ true).
      let d : is_dosed_in marked p b ≡ true = dosed_is marked p b ∙ rw (t, class b l t) (own_in marked) in
      brought_some marked p b d ∙ rw (none_behind b, all_doses b l t, t))
      (λ (t : is_period p b ≡ false).
      brought_none marked p b (dosed_is marked p b ∙ rw t) ∙ rw t)
      (bool_cases (is_period p b))

  alone_part : part_of marked p ≡ periods_of p
  unfolding part_of periods_of
  alone_part = join_same (blocks_of p) (brought_by marked p) (λ b. cond (is_period p b) (period_at p b ∷ []) []) brought

  alone_bytes : AreBytes p → form_of plan_limit p ≡ Ok tt → part_bytes marked p ≡ p
  unfolding part_bytes
  alone_bytes bytes right = rw alone_part (laid_again plan_limit p (omega arith) bytes right)

  -- so the plan, put into the buffer, is the part
  pub alone_put : AreBytes p → form_of plan_limit p ≡ Ok tt → (out : List ℕ) → length p ≤ length out →
      (put out 0 p ≡ over (part_bytes marked p) out) × (length p ≡ length (part_bytes marked p))
  unfolding over
  alone_put bytes right out l =
      let n : 0 + length p ≡ length p = omega arith in
      rw (alone_bytes bytes right, put_in out 0 p (omega arith), n) (refl, refl)
