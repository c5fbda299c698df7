-- What is laid out is whole blocks, and which block stands where. Assumes nothing.
use Prim.Native.Nat.{ℕ, zero, suc, ◌+◌, ◌-◌, ◌*◌, ◌≤◌, ◌<◌}
use mathlib.Core.Bool.{cond}
use mathlib.Core.List.{List, [], ◌∷◌, ◌++◌}
use mathlib.Core.Logic.{⊎_elim}
use mathlib.Core.Path.{◌≡◌, refl, sym, ap, ◌∙◌}
use native.Mathlib.Omega.{arith}
use lib.Dec.{eqb, eqb-suc-zero}
use lib.ListN.{length, get_or, drop, replicate, length-append, length-replicate, length-take, get_or-replicate, get_or-eq_default, get_or-append}
use lib.Seq.{get_or-append-add}
use Rattle.below.proofs.Tests.{le_or_lt}
use Rattle.below.specs.Lists.{list_below, join_over, Every, Every.more}
use Rattle.block.proofs.Numbers.{number_same}
use Rattle.block.proofs.Sealing.{length_sealed, sealed_ahead}
use Rattle.block.specs.Bytes.{byte_at, number_at, bytes_of}
use Rattle.block.specs.Sums.{sealed}
use Rattle.plan.proofs.DoseRecord.{length_dose}
use Rattle.plan.specs.Periods.{blocks_of, block_at}
use Rattle.plan.specs.declared.Dose.{Dose}
use Rattle.plan.specs.declared.Head.{Head}
use Rattle.plan.specs.declared.Header.{Header}
use Rattle.plan.specs.Fields.{dose_bytes}
use Rattle.layout.specs.Layout.{Written, filled, head_bytes, period_start, continuation_start, doses_here, period_block, blocks_for, body_of, laid_out}
use Rattle.layout.proofs.Every.{every_all, every_map, every_list, all_over}
use Rattle.layout.proofs.Runs.{Alike, length_run, part_run}

-- a zero stands wherever zeros do, and behind them
pub byte_zeros : (n k : ℕ) → byte_at (replicate n 0) k ≡ 0
byte_zeros n k =
    ⊎_elim
    (λ (h : n ≤ k). get_or-eq_default (replicate n 0) 0 (rw length-replicate h))
    (λ (h : k < n). get_or-replicate n k 0 0 h)
    (le_or_lt n k)

-- what is filled up with zeros reads as before: past the end a byte counts as 0
module _ (bs : List ℕ) where
  pub length_filled : length bs ≤ 512 → length (filled bs) ≡ 512
  unfolding filled
  length_filled h = rw (length-append, length-replicate) (omega arith)

  pub byte_filled : (j : ℕ) → byte_at (filled bs) j ≡ byte_at bs j
  unfolding filled
  byte_filled j =
      ⊎_elim
      (λ (h : length bs ≤ j).
      let z = replicate (512 - length bs) 0 in
      let k = j - length bs in
      let e : j ≡ length bs + k = omega arith in
      ap (λ (m : ℕ). byte_at (bs ++ z) m) e ∙ get_or-append-add bs z k 0 ∙ byte_zeros (512 - length bs) k ∙ sym (get_or-eq_default bs 0 h))
      (λ (h : j < length bs). get_or-append bs (replicate (512 - length bs) 0) 0 j h)
      (le_or_lt (length bs) j)

  -- .. and with its sums too, up to them
  pub byte_sealed : length bs ≤ 512 → (j : ℕ) → j < 504 → byte_at (sealed (filled bs)) j ≡ byte_at bs j
  byte_sealed h j l = sealed_ahead (filled bs) (length_filled h) j l ∙ byte_filled j

  pub number_sealed : length bs ≤ 512 → (w j : ℕ) → j + w ≤ 504 → number_at w (sealed (filled bs)) j ≡ number_at w bs j
  number_sealed h w j l = number_same w (sealed (filled bs)) bs j j (λ k m. byte_sealed h (j + k) (omega arith))

-- each dose has 24 bytes
pub doses_alike : (ds : List Dose) → Alike dose_bytes 24 ds
doses_alike ds = every_all length_dose ds

pub length_doses : (ds : List Dose) → length (join_over dose_bytes ds) ≡ length ds * 24
length_doses ds = length_run dose_bytes 24 (doses_alike ds)

pub length_period_start : (q : Header) (n : ℕ) → length (period_start q n) ≡ 24
unfolding period_start bytes_of
length_period_start q n = refl

pub length_continuation_start : (n : ℕ) → length (continuation_start n) ≡ 24
unfolding continuation_start
length_continuation_start n = refl

-- a block holds 20 doses at the most
pub few_here : (i : ℕ) (ds : List Dose) → length (doses_here i ds) ≤ 20
few_here i ds = omega (arith, length-take 20 (drop (i * 20) ds))

-- so it is 512 bytes long
pub length_head : (h : Head) (n : ℕ) → length (head_bytes h n) ≡ 512
unfolding head_bytes bytes_of
length_head h n = length_filled _ (omega arith)

-- a block of doses: the first 24 bytes and the doses behind them
abbrev pub dose_block : List ℕ → List Dose → List ℕ
dose_block start ds = filled (start ++ join_over dose_bytes ds)

module _ (start : List ℕ) (ds : List Dose) (long : length start ≡ 24) (few : length ds ≤ 20) where
  pub length_content : length (start ++ join_over dose_bytes ds) ≡ 24 + length ds * 24
  length_content = rw (length-append, long, length_doses ds)

  pub length_dose_block : length (dose_block start ds) ≡ 512
  length_dose_block = length_filled (start ++ join_over dose_bytes ds) (omega (arith, length_content))

-- the first 24 bytes of a period's block i
module _ (w : Written) where
  unfoldable pub start_at : ℕ → List ℕ
  start_at i =
      cond (eqb i 0)
      (period_start w.header (length (doses_here i w.doses)))
      (continuation_start (length (doses_here i w.doses)))

  pub period_is : (i : ℕ) → period_block w i ≡ dose_block (start_at i) (doses_here i w.doses)
  unfolding period_block start_at
  period_is i = refl

  pub start_first : start_at 0 ≡ period_start w.header (length (doses_here 0 w.doses))
  unfolding start_at
  start_first = refl

  pub start_next : (i : ℕ) → start_at (suc i) ≡ continuation_start (length (doses_here (suc i) w.doses))
  unfolding start_at
  start_next i = rw (eqb-suc-zero i)

  pub length_start : (i : ℕ) → length (start_at i) ≡ 24
  length_start zero = rw start_first (length_period_start _ _)
  length_start (suc i) = rw (start_next i) (length_continuation_start _)

  pub length_period : (i : ℕ) → length (period_block w i) ≡ 512
  length_period i =
      rw (period_is i) (length_dose_block (start_at i) (doses_here i w.doses) (length_start i) (few_here i w.doses))

module _ (h : Head) (ws : List Written) where
  -- every block, ahead of its sums
  pub blocks_whole : Every (λ b. length b ≡ 512) (head_bytes h (length (body_of ws)) ∷ body_of ws)
  unfolding body_of
  blocks_whole =
      more (length_head h _)
      (all_over (λ w. list_below (blocks_for (length w.doses)) (period_block w))
      (λ w. every_list (blocks_for (length w.doses)) (period_block w) (λ i l. length_period w i)) ws)

  alike : Alike sealed 512 (head_bytes h (length (body_of ws)) ∷ body_of ws)
  alike = every_map (λ b e. length_sealed b e) blocks_whole

  pub length_laid : length (laid_out h ws) ≡ (1 + length (body_of ws)) * 512
  unfolding laid_out
  length_laid = length_run sealed 512 alike ∙ omega arith

  pub blocks_laid : blocks_of (laid_out h ws) ≡ 1 + length (body_of ws)
  blocks_laid = omega (arith, length_laid)

  pub block_laid : (b : ℕ) → b < 1 + length (body_of ws) → block_at (laid_out h ws) b ≡ sealed (get_or (head_bytes h (length (body_of ws)) ∷ body_of ws) b [])
  unfolding laid_out block_at
  block_laid b l = part_run sealed 512 alike [] b (omega arith)
