-- What is read from the bytes of a head and periods is that head and those periods. Assumes nothing.
use Prim.Native.Nat.{ℕ, suc, ◌+◌, ◌-◌, ◌*◌, ◌≤◌}
use mathlib.Core.Bool.{cond}
use mathlib.Core.List.{List, [], ◌∷◌}
use mathlib.Core.Path.{◌≡◌, ap, ◌∙◌}
use native.Mathlib.Omega.{arith}
use lib.ListN.{length, drop_of_length-le}
use Rattle.below.proofs.Lists.{join_zero, join_split, join_none, join_same}
use Rattle.below.specs.Lists.{join_below, Every.none, Every.more}
use Rattle.block.specs.Sums.{sealed}
use Rattle.plan.specs.Periods.{block_at, is_period}
use Rattle.plan.specs.declared.Head.{Head}
use Rattle.layout.specs.Code.Fits.{HeadFits, WrittenFits, AllFit}
use Rattle.layout.specs.Layout.{Written, head_bytes, body_of, laid_out}
use Rattle.layout.specs.Reading.{head_of, period_at, periods_of}
use Rattle.layout.proofs.Blocks.{length_laid, blocks_laid, block_laid}
use Rattle.layout.proofs.Content.{head_kind, head_unit, head_start, head_end, head_plan_number, head_revision, head_vka}
use Rattle.layout.proofs.Standing.{size_of, size_some, length_none, length_body, Stands, kind_at, kind_later, period_back, AllStand, stand_rest, stand_first}

-- what is read at block b: a period, or none
abbrev pub found_at : List ℕ → ℕ → List Written
found_at p b = cond (is_period p b) (period_at p b ∷ []) []

module _ {p : List ℕ} where
  -- the blocks of one period give that period
  pub one_found : {at : ℕ} {w : Written} → WrittenFits w → size_of w ≤ 63 → Stands p at w → join_below (size_of w) (λ i. found_at p (at + i)) ≡ w ∷ []
  unfolding join_below
  one_found {at} {w} f few s =
      let some = size_some w in
      let e : size_of w ≡ 1 + (size_of w - 1) = omega arith in
      let z : at + 0 ≡ at = omega arith in
      let first : join_below 1 (λ i. found_at p (at + i)) ≡ w ∷ [] = rw (z, kind_at s, period_back s f few) in
      let later : join_below (size_of w - 1) (λ i. found_at p (at + (1 + i))) ≡ [] =
      join_none (size_of w - 1) (λ i. found_at p (at + (1 + i)))
      (λ i l. let z : 1 + i ≡ suc i = omega arith in rw (z, kind_later s i (omega arith))) in
      ap (λ (n : ℕ). join_below n (λ i. found_at p (at + i))) e ∙
      join_split 1 (size_of w - 1) (λ i. found_at p (at + i)) ∙
      rw (first, later)

  -- and those of all give all
  all_found : {at : ℕ} {ws : List Written} → AllFit ws → length (body_of ws) ≤ 63 → AllStand p at ws → join_below (length (body_of ws)) (λ i. found_at p (at + i)) ≡ ws
  all_found {at} none few s = rw length_none (join_zero (λ i. found_at p (at + i)))
  all_found {at} (more {x = w} {xs = ws} f fs) few s =
      let n = length_body w ws in
      let rest : join_below (length (body_of ws)) (λ i. found_at p (at + (size_of w + i))) ≡ ws =
      join_same (length (body_of ws)) (λ i. found_at p (at + (size_of w + i))) (λ i. found_at p (at + size_of w + i))
      (λ i l. let e : at + (size_of w + i) ≡ at + size_of w + i = omega arith in rw e) ∙
      all_found {at = at + size_of w} fs (omega arith) (stand_rest s) in
      ap (λ (n : ℕ). join_below n (λ i. found_at p (at + i))) n ∙
      join_split (size_of w) (length (body_of ws)) (λ i. found_at p (at + i)) ∙
      rw (one_found f (omega arith) (stand_first s), rest)

module _ (h : Head) (ws : List Written) where
  -- block 0 is the head
  pub block_head : block_at (laid_out h ws) 0 ≡ sealed (head_bytes h (length (body_of ws)))
  block_head = block_laid h ws 0 (omega arith)

  -- the periods stand behind the head, and nothing stands behind them
  pub laid_stand : AllStand (laid_out h ws) 1 ws
  laid_stand =
      record {
        block = λ i l.
            let e : 1 + i ≡ suc i = omega arith in
            rw e (block_laid h ws (suc i) (omega arith));
        behind = rw (past (1 + length (body_of ws)) (omega (arith, length_laid h ws)));
      }
    where
      past : (b : ℕ) → length (laid_out h ws) ≤ b * 512 → block_at (laid_out h ws) b ≡ []
      past b l = unfold block_at in rw (drop_of_length-le (laid_out h ws) l)

  -- the head is read back
  pub head_read : HeadFits h → head_of (laid_out h ws) ≡ h
  unfolding head_of
  head_read f =
      let n = length (body_of ws) in
      rw block_head
      (λ i.
      record {
        unit = head_unit h n f i;
        start = head_start h n f i;
        end = head_end h n f i;
        number = head_plan_number h n f i;
        revision = head_revision h n f i;
        vka = head_vka h n i;
      })

  -- the periods are read back
  pub periods_read : AllFit ws → length (body_of ws) ≤ 63 → periods_of (laid_out h ws) ≡ ws
  unfolding periods_of join_below
  periods_read f few =
      let p = laid_out h ws in
      let n = length (body_of ws) in
      let head : join_below 1 (found_at p) ≡ [] = rw (block_head, head_kind h n) in
      ap (λ (m : ℕ). join_below m (found_at p)) (blocks_laid h ws) ∙
      join_split 1 n (found_at p) ∙
      rw (head, all_found f few laid_stand)
