-- Demand 3 for split: on each day the doses of a part are the plan's doses of its mark, in their order. Assumes nothing.
use Prim.Native.Nat.{ℕ, ◌≤◌}
use mathlib.Core.Bool.{Bool, true, false, cond, not, ◌&&◌}
use mathlib.Core.List.{List, [], ◌∷◌, append-nil}
use mathlib.Core.Logic.{⊎_elim}
use mathlib.Core.Path.{◌≡◌, refl, sym, ap, ◌∙◌}
use native.Mathlib.Nat.{min-eq_left}
use native.Mathlib.Omega.{arith}
use lib.Dec.{leb}
use borrow.Author.Tests.{not-false}
use Rattle.below.specs.Lists.{keep, join_over}
use Rattle.below.proofs.Lists.{join_same, join_none, keep_swap, pick_keep, keep_none, keep_cond, keep_join, over_join, over_one}
use Rattle.below.proofs.Search.{any_not}
use Rattle.below.proofs.Tests.{bool_cases, true_not_false}
use Rattle.block.proofs.Numbers.{AreBytes}
use Rattle.day.specs.Days.{closed_day}
use Rattle.plan.specs.declared.Dose.{Dose}
use Rattle.plan.specs.Fields.{is_marked, header_of}
use Rattle.plan.specs.Periods.{blocks_of, block_at, is_period, doses_of, dose_in, has_unmarked, has_marked, class_by, class_of}
use Rattle.verdict.specs.Coverage.{in_group}
use Rattle.doses.specs.Doses.{covers, position_of, applies, doses_of_period, doses_on}
use Rattle.layout.specs.Layout.{Written, laid_out}
use Rattle.layout.specs.Reading.{head_of, header_at, doses_at, period_at, periods_of}
use Rattle.layout.proofs.Back.{periods_read}
use Rattle.layout.proofs.Blocks.{blocks_laid}
use Rattle.split.specs.Parts.{group_of, run_first, run_last, has_run, is_dosed_in, is_of_part, dosed_period, shares_run, shared, shared_by, shared_in, behind, brought_by, part_of, part_bytes}
use Rattle.split.specs.Days.{doses_on_day}
use Rattle.split.proofs.Adding.{dosed_is}
use Rattle.split.proofs.Kept.{Kept, kept_few}
use Rattle.split.proofs.Range.{part_fits}
use Rattle.split.proofs.Room.{few_blocks}

-- a choice of two tests
cond_and : {A : Type 0} (s t : Bool) (xs : List A) → cond (s && t) xs [] ≡ cond s (cond t xs []) []
cond_and true t xs = refl
cond_and false t xs = refl

-- either way nothing
cond_none : {A : Type 0} (t : Bool) (xs : List A) → xs ≡ [] → cond t xs [] ≡ []
cond_none true xs e = e
cond_none false xs e = refl

over_cond : {A B : Type 0} (f : A → List B) (t : Bool) (x : A) → join_over f (cond t (x ∷ []) []) ≡ cond t (f x) []
unfolding join_over
over_cond f true x = over_one f x
over_cond f false x = refl

-- the doses of a day, over the periods that are read from the bytes
module _ (q : List ℕ) (d : ℕ) where
  of_period : (b : ℕ) → doses_of_period q d b ≡ keep (applies (position_of (header_at q b) d)) (doses_at q b)
  unfolding doses_of_period doses_at position_of header_at
  of_period b = pick_keep (doses_of q b) (applies (position_of (header_of (block_at q b)) d)) (dose_in q b)

  of_block : (b : ℕ) → cond (covers q d b) (doses_of_period q d b) [] ≡ cond (is_period q b) (doses_on_day d (period_at q b)) []
  unfolding doses_on_day header_at
  of_block b = rw (of_period b) (cond_and (is_period q b) _ _)

  pub doses_read : blocks_of q ≤ 64 → doses_on q d ≡ join_over (doses_on_day d) (periods_of q)
  unfolding doses_on periods_of
  doses_read l =
      rw (min-eq_left l)
      (join_same (blocks_of q) _ _ (λ b m. of_block b ∙ sym (over_cond (doses_on_day d) (is_period q b) (period_at q b))) ∙
      sym (over_join (doses_on_day d) (blocks_of q) (λ b. cond (is_period q b) (period_at q b ∷ []) [])))

-- the part's share of a period's doses
module _ (p : List ℕ) (b : ℕ) where
  marked_none : has_marked p b ≡ false → keep (is_of_part true) (doses_at p b) ≡ []
  unfolding has_marked doses_at
  marked_none h =
      keep_none (doses_of p b) (is_of_part true) (dose_in p b)
      (λ j l. rw (any_not (λ (j : ℕ). is_marked (dose_in p b j)) h j l))

  unmarked_none : has_unmarked p b ≡ false → keep (is_of_part false) (doses_at p b) ≡ []
  unfolding has_unmarked doses_at
  unmarked_none h =
      keep_none (doses_of p b) (is_of_part false) (dose_in p b)
      (λ j l. rw (not-false (is_marked (dose_in p b j)) (any_not (λ (j : ℕ). not (is_marked (dose_in p b j))) h j l)))

  -- a period that is none of the part's has none
  class_none : (m : Bool) (u v : Bool) → in_group (group_of m) (class_by u v) ≡ false → cond m v u ≡ false
  class_none true true true e = absurd (true_not_false refl e)
  class_none true true false e = refl
  class_none true false true e = absurd (true_not_false refl e)
  class_none true false false e = refl
  class_none false true true e = absurd (true_not_false refl e)
  class_none false true false e = absurd (true_not_false refl e)
  class_none false false true e = refl
  class_none false false false e = refl

  none_of_part : (m : Bool) → is_period p b ≡ true → is_dosed_in m p b ≡ false → keep (is_of_part m) (doses_at p b) ≡ []
  unfolding class_of
  none_of_part true t e = marked_none (class_none true (has_unmarked p b) (has_marked p b) (rw t at (sym (dosed_is true p b) ∙ e)))
  none_of_part false t e = unmarked_none (class_none false (has_unmarked p b) (has_marked p b) (rw t at (sym (dosed_is false p b) ∙ e)))

-- empty periods bring no dose
no_doses : (d : ℕ) (w : Written) → w.doses ≡ [] → doses_on_day d w ≡ []
unfolding doses_on_day keep
no_doses d w e = rw e (cond_none (leb w.header.first d && leb d (closed_day w.header.end)) [] refl)

shared_none : (d : ℕ) (p : List ℕ) (lo hi : ℕ) → join_over (doses_on_day d) (shared_in p lo hi) ≡ []
unfolding shared_in
shared_none d p lo hi =
    over_join (doses_on_day d) (blocks_of p) (shared_by p lo hi) ∙
    join_none (blocks_of p) _ (λ e l. over_cond (doses_on_day d) (shares_run p lo hi e) (shared p lo hi e) ∙ cond_none (shares_run p lo hi e) _ (no_doses d (shared p lo hi e) refl))

behind_none : (d : ℕ) (m : Bool) (p : List ℕ) (b : ℕ) → join_over (doses_on_day d) (behind m p b) ≡ []
unfolding behind join_over
behind_none d m p b = choice (has_run m p b)
  where
    choice : (t : Bool) → join_over (doses_on_day d) (cond t (shared_in p (run_first p b) (run_last m p b)) []) ≡ []
    choice true = shared_none d p (run_first p b) (run_last m p b)
    choice false = refl

-- what block b brings to the part is the part's share of what it brings to the plan
module _ (m : Bool) (p : List ℕ) (d b : ℕ) where
  dosed_share : doses_on_day d (dosed_period m p b) ≡ keep (is_of_part m) (doses_on_day d (period_at p b))
  unfolding doses_on_day
  dosed_share =
      let t = leb (header_at p b).first d && leb d (closed_day (header_at p b).end) in
      let on = applies (position_of (header_at p b) d) in
      rw (keep_cond (is_of_part m) t (keep on (doses_at p b)))
      (ap (λ (l : List Dose). cond t l []) (keep_swap on (is_of_part m) (doses_at p b)))

  none_share : is_period p b ≡ true → is_dosed_in m p b ≡ false → keep (is_of_part m) (doses_on_day d (period_at p b)) ≡ []
  unfolding keep
  none_share t e = sym dosed_share ∙ no_doses d (dosed_period m p b) (none_of_part p b m t e)

  brought : join_over (doses_on_day d) (brought_by m p b) ≡ cond (is_dosed_in m p b) (doses_on_day d (dosed_period m p b)) []
  unfolding brought_by join_over
  brought = choice (is_dosed_in m p b)
    where
      choice : (t : Bool) → join_over (doses_on_day d) (cond t (dosed_period m p b ∷ behind m p b) []) ≡ cond t (doses_on_day d (dosed_period m p b)) []
      choice true = rw (behind_none d m p b, append-nil)
      choice false = refl

  share : join_over (doses_on_day d) (brought_by m p b) ≡ keep (is_of_part m) (cond (is_period p b) (doses_on_day d (period_at p b)) [])
  share =
      brought ∙
      rw (keep_cond (is_of_part m) (is_period p b) (doses_on_day d (period_at p b)))
      (⊎_elim
      (λ (t : is_period p b ≡ true).
      ⊎_elim
      (λ (e : is_dosed_in m p b ≡ true). rw (e, t) dosed_share)
      (λ (e : is_dosed_in m p b ≡ false). rw (e, t) (sym (none_share t e)))
      (bool_cases (is_dosed_in m p b)))
      (λ (t : is_period p b ≡ false). let e : is_dosed_in m p b ≡ false = dosed_is m p b ∙ rw t in rw (e, t))
      (bool_cases (is_period p b)))

all_shares : (m : Bool) (p : List ℕ) (d : ℕ) → join_over (doses_on_day d) (part_of m p) ≡ keep (is_of_part m) (join_over (doses_on_day d) (periods_of p))
unfolding part_of periods_of
all_shares m p d =
    over_join (doses_on_day d) (blocks_of p) (brought_by m p) ∙
    join_same (blocks_of p) _ _ (λ b l. share m p d b ∙ ap (keep (is_of_part m)) (sym (over_cond (doses_on_day d) (is_period p b) (period_at p b)))) ∙
    sym (keep_join (is_of_part m) (blocks_of p) (λ b. join_over (doses_on_day d) (cond (is_period p b) (period_at p b ∷ []) []))) ∙
    ap (keep (is_of_part m)) (sym (over_join (doses_on_day d) (blocks_of p) (λ b. cond (is_period p b) (period_at p b ∷ []) [])))

-- the law
pub part_doses : (m : Bool) {p : List ℕ} → AreBytes p → Kept p → (d : ℕ) → doses_on (part_bytes m p) d ≡ keep (is_of_part m) (doses_on p d)
unfolding part_bytes
part_doses m {p} bytes kept d =
    let few = few_blocks m p kept bytes in
    let size : blocks_of (laid_out (head_of p) (part_of m p)) ≤ 64 = rw (blocks_laid (head_of p) (part_of m p)) few in
    doses_read (laid_out (head_of p) (part_of m p)) d size ∙
    rw (periods_read (head_of p) (part_of m p) (part_fits m bytes kept) (omega (arith, few)))
    (all_shares m p d ∙ ap (keep (is_of_part m)) (sym (doses_read p d (omega (arith, kept_few kept)))))
