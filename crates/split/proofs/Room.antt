-- A part of an accepted plan has at most 64 blocks, head and all. Assumes nothing.
--
-- Of the plan's 31 further blocks each dosed period of the part gives at most its own blocks, and one more piece than the
-- empty periods that begin in the run behind it; each empty period begins in one run at the most. So no period brings more
-- than twice its own blocks into the part.
use Prim.Native.Nat.{ℕ, zero, suc, ◌+◌, ◌-◌, ◌≤◌, ◌<◌}
use mathlib.Core.Bool.{Bool, true, false, cond}
use mathlib.Core.List.{List, [], ◌∷◌}
use mathlib.Core.Logic.{⊎_elim}
use mathlib.Core.Path.{◌≡◌, ◌∙◌}
use native.Mathlib.Nat.{le_refl}
use native.Mathlib.Omega.{arith}
use lib.ListN.{length}
use Rattle.below.proofs.Lists.{sum_join}
use Rattle.below.proofs.Tests.{bool_cases}
use Rattle.below.proofs.Total.{sum_same, sum_both}
use Rattle.below.specs.Below.{sum_below}
use Rattle.below.specs.Lists.{join_below, keep, sum_over}
use Rattle.block.proofs.Numbers.{AreBytes}
use Rattle.day.specs.Days.{last_number}
use Rattle.layout.proofs.Again.{body_again}
use Rattle.layout.proofs.Standing.{size_of, size_some, length_none, length_body}
use Rattle.layout.specs.Layout.{Written, body_of}
use Rattle.layout.specs.Reading.{doses_at, period_at, periods_of}
use Rattle.plan.specs.Periods.{blocks_of, is_period}
use Rattle.verdict.proofs.Passing.{formed_few}
use Rattle.verdict.specs.Verdict.{plan_limit}
use Rattle.split.specs.Parts.{is_dosed_in, is_of_part, dosed_period, run_first, run_last, has_run, behind, brought_by, part_of}
use Rattle.split.proofs.Kept.{Kept, kept_right}
use Rattle.split.proofs.Pieces.{maybe_sum, begins_by, blanks_by, pieces_few}
use Rattle.split.proofs.Standing.{dosed_period_lem, dosed_not_blank, run_is, Past, dosed_days, past_dosed, past_all}
use Rattle.split.proofs.Totals.{tally, tally_le, sum_mono, sum_part}

-- how many blocks periods have
body_sum : (ws : List Written) → length (body_of ws) ≡ sum_over size_of ws
unfolding sum_over
body_sum [] = length_none
body_sum (w ∷ ws) = length_body w ws ∙ rw (body_sum ws)

-- the period that begins at block b, if one does
abbrev size_at : List ℕ → ℕ → ℕ
size_at p b = cond (is_period p b) (size_of (period_at p b)) 0

-- the plan's blocks are its periods', and the head
plan_sum : {p : List ℕ} → AreBytes p → Kept p → blocks_of p ≡ 1 + sum_below (blocks_of p) (size_at p)
unfolding periods_of
plan_sum {p} bytes k =
    let found = sum_join size_of (blocks_of p) (λ b. cond (is_period p b) (period_at p b ∷ []) []) ∙
    sum_same _ (size_at p) (blocks_of p) (λ b l. maybe_sum (is_period p b) (period_at p b)) in
    body_again plan_limit p (omega arith) bytes (kept_right k) ∙ omega (arith, body_sum (periods_of p), found)

-- what has a test is no longer than all
length_keep : {A : Type 0} (q : A → Bool) (xs : List A) → length (keep q xs) ≤ length xs
unfolding keep
length_keep q [] = omega arith
length_keep q (x ∷ xs) =
    ⊎_elim
    (λ (t : q x ≡ true). rw t (omega (arith, length_keep q xs)))
    (λ (t : q x ≡ false). rw t (omega (arith, length_keep q xs)))
    (bool_cases (q x))

module _ (m : Bool) (p : List ℕ) where
  kept_size : (b : ℕ) → size_of (dosed_period m p b) ≤ size_of (period_at p b)
  kept_size b = omega (arith, length_keep (is_of_part m) (doses_at p b))

  -- what block b brings into the part, and twice its period's blocks, if that is one of the part
  abbrev brought : ℕ → ℕ
  brought b = sum_over size_of (brought_by m p b)

  abbrev twice : ℕ → ℕ
  twice b = cond (is_dosed_in m p b) (size_of (period_at p b) + size_of (period_at p b)) 0

  -- a period is dosed, or empty, or not of the part
  at_most_twice : (x b : ℕ) → twice b + tally (begins_by p x b) ≤ size_at p b + size_at p b
  at_most_twice x b =
      ⊎_elim
      (λ (t : is_dosed_in m p b ≡ true).
      rw (t, dosed_not_blank m p b t, dosed_period_lem m p b t) (omega arith))
      (λ (t : is_dosed_in m p b ≡ false).
      ⊎_elim
      (λ (s : is_period p b ≡ true). rw (t, s) (omega (arith, rw s at (tally_le (begins_by p x b)), size_some (period_at p b))))
      (λ (s : is_period p b ≡ false). rw (t, s) (omega arith))
      (bool_cases (is_period p b)))
      (bool_cases (is_dosed_in m p b))

  twice_all : (x : ℕ) → sum_below (blocks_of p) twice + blanks_by p x ≤ sum_below (blocks_of p) (size_at p) + sum_below (blocks_of p) (size_at p)
  unfolding blanks_by
  twice_all x =
      omega (
        arith,
        sum_both twice (λ b. tally (begins_by p x b)) (blocks_of p),
        sum_both (size_at p) (size_at p) (blocks_of p),
        sum_mono _ _ (blocks_of p) (λ b l. at_most_twice x b),
      )

  -- the part, as far as the blocks below b bring it
  below_sum : (b : ℕ) → length (body_of (join_below b (brought_by m p))) ≡ sum_below b brought
  below_sum b = body_sum (join_below b (brought_by m p)) ∙ sum_join size_of b (brought_by m p)

  module _ (k : Kept p) where
    -- the pieces behind a dosed period, beside those empty periods that begin before a day up to which all else is past
    behind_few : (b x : ℕ) → b < blocks_of p → is_dosed_in m p b ≡ true → Past m p (b + 1) x →
        (y : ℕ) × Past m p b y × (sum_over size_of (behind m p b) + blanks_by p y ≤ 1 + blanks_by p x)
    unfolding behind sum_over
    behind_few b x l t past =
        ⊎_elim
        (λ (r : has_run m p b ≡ true). (
          run_first p b,
          (λ c h s.
              let d = past_dosed m p k b l t c h s in
              let e = dosed_days m p k b l t in
              (omega (arith, d.0, e.0), λ r. omega (arith, d.1 r, e.0))),
          rw r (pieces_few k (run_first p b) (run_last m p b) x (run_is m p b r).days ((past b (omega arith) t).1 r)),
        ))
        (λ (r : has_run m p b ≡ false). (x, (λ c h. past c (omega arith)), rw r (omega arith)))
        (bool_cases (has_run m p b))

    brought_below : (b x : ℕ) → b ≤ blocks_of p → Past m p b x → sum_below b brought ≤ sum_below b twice + blanks_by p x
    unfolding sum_below brought_by sum_over
    brought_below zero x l past = omega arith
    brought_below (suc b) x l past =
        ⊎_elim
        (λ (t : is_dosed_in m p b ≡ true).
        let few = behind_few b x (omega arith) t (λ c h. past c (omega arith)) in
        rw t (omega (arith, brought_below b few.0 (omega arith) few.1, few.2, kept_size b, size_some (period_at p b))))
        (λ (t : is_dosed_in m p b ≡ false).
        rw t (omega (arith, brought_below b x (omega arith) (λ c h. past c (omega arith)))))
        (bool_cases (is_dosed_in m p b))

    -- so 32,768 bytes are room enough for the part, and for it as far as the blocks below b bring it
    pub few_blocks : AreBytes p → 1 + length (body_of (part_of m p)) ≤ 64
    unfolding part_of
    few_blocks bytes =
        omega (
          arith,
          below_sum (blocks_of p),
          brought_below (blocks_of p) (last_number + 1) (le_refl (blocks_of p)) (past_all m p k),
          twice_all (last_number + 1),
          plan_sum bytes k,
          formed_few k.form,
        )

    pub few_below : AreBytes p → (b : ℕ) → b ≤ blocks_of p → 1 + length (body_of (join_below b (brought_by m p))) ≤ 64
    unfolding part_of
    few_below bytes b l =
        let e : b + (blocks_of p - b) ≡ blocks_of p = omega arith in
        let all = rw e at (sum_part brought b (blocks_of p - b)) in
        omega (arith, below_sum b, below_sum (blocks_of p), all, few_blocks bytes)
