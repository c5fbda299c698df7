-- The blocks that a plan is laid out in are whole, and what one dose more makes of a period's. Assumes nothing.
use Prim.Native.Nat.{ℕ, ◌+◌, ◌-◌, ◌*◌, ◌/◌, ◌%◌, ◌≤◌, ◌<◌}
use mathlib.Core.Bool.{Bool, true, false, cond}
use mathlib.Core.List.{List, [], ◌∷◌, ◌++◌, append_assoc, append-nil}
use mathlib.Core.Logic.{⊎_elim}
use mathlib.Core.Path.{◌≡◌, ap, ◌∙◌}
use native.Mathlib.Nat.{max-eq_left, max-eq_right}
use native.Mathlib.Omega.{arith}
use lib.Dec.{eqb}
use lib.ListN.{length, drop, length-append, length-drop, drop_of_length-le}
use lib.Seq.{take_all, take-append-le, drop-append-le}
use borrow.Author.Tests.{ne_eqb}
use Rattle.below.specs.Lists.{list_below, join_over}
use Rattle.below.proofs.Lists.{list_same, length_list, over_append, over_one}
use Rattle.below.proofs.Tests.{le_or_lt}
use Rattle.block.specs.Bytes.{put}
use Rattle.block.proofs.Put.{put_in}
use Rattle.plan.specs.declared.Dose.{Dose}
use Rattle.plan.specs.Fields.{dose_bytes}
use Rattle.layout.specs.Layout.{Written, filled, head_bytes, period_start, continuation_start, doses_here, period_block, blocks_for, body_of}
use Rattle.plan.specs.declared.Head.{Head}
use Rattle.plan.specs.declared.Header.{Header}
use Rattle.writer.specs.Code.Holds.{in_last}
use Rattle.layout.proofs.Blocks.{length_filled, length_head, length_period_start, length_continuation_start, length_doses, length_period}
use Rattle.plan.proofs.DoseRecord.{length_dose}
use Rattle.writer.proofs.Filling.{front_filled}
use Rattle.writer.proofs.Lying.{Whole, Whole.none, Whole.more, whole_append, whole_list}

-- a block's start: a period's, or a continuation's
abbrev start_of : Bool → Header → ℕ → List ℕ
start_of t q n = cond t (period_start q n) (continuation_start n)

length_start : (t : Bool) (q : Header) (n : ℕ) → length (start_of t q n) ≡ 24
length_start true q n = length_period_start q n
length_start false q n = length_continuation_start n

pub whole_body : (ws : List Written) → Whole (body_of ws)
unfolding body_of join_over
whole_body [] = none
whole_body (w ∷ ws) = whole_append (whole_list (period_block w) (length_period w) (blocks_for (length w.doses))) (whole_body ws)

pub whole_plan : (h : Head) (n : ℕ) (ws : List Written) → Whole (head_bytes h n ∷ body_of ws)
whole_plan h n ws = more (length_head h n) (whole_body ws)

-- one period more, behind the others
pub body_last : (ws : List Written) (w : Written) → body_of (ws ++ (w ∷ [])) ≡ body_of ws ++ list_below (blocks_for (length w.doses)) (period_block w)
unfolding body_of
body_last ws w = over_append _ ws (w ∷ []) ∙ ap (λ (l : List (List ℕ)). body_of ws ++ l) (over_one _ w)

pub length_body_last : (ws : List Written) (w : Written) → length (body_of (ws ++ (w ∷ []))) ≡ length (body_of ws) + blocks_for (length w.doses)
length_body_last ws w = rw (body_last ws w, length-append, length_list)

-- that without doses has one block
pub empty_block : (q : Header) → period_block (record { header = q; doses = [] }) 0 ≡ filled (period_start q 0)
unfolding period_block join_over
empty_block q = rw append-nil

-- how many blocks n doses need, and how many of them stand in the last
pub blocks_are : (n : ℕ) → blocks_for n ≡ (n - 1) / 20 + 1
blocks_are n =
    ⊎_elim
    (λ (l : n ≤ 0). rw (max-eq_left {n = 1} {m = (n + 19) / 20} (omega arith)) (omega arith))
    (λ (l : 0 < n). rw (max-eq_right {n = 1} {m = (n + 19) / 20} (omega arith)) (omega arith))
    (le_or_lt n 0)

pub one_dose_more : (n : ℕ) → (blocks_for (n + 1) ≡ n / 20 + 1) × (in_last (n + 1) ≡ n % 20 + 1)
one_dose_more n = let b = blocks_are (n + 1) in (omega arith, omega arith)

-- the dose goes into a block that has room, or it is the first of the next
pub with_room : (n : ℕ) → in_last n < 20 → (blocks_for n ≡ n / 20 + 1) × (in_last n ≡ n % 20)
with_room n l = let b = blocks_are n in (omega arith, omega arith)

pub without_room : (n : ℕ) → 20 ≤ in_last n → (blocks_for n ≡ n / 20) × (n % 20 ≡ 0)
without_room n l = let b = blocks_are n in (omega arith, omega arith)

-- a block's count of doses, put anew
count_put : (t : Bool) (q : Header) (m n : ℕ) (s : List ℕ) → length s ≤ 480 → put (filled (start_of t q m ++ s)) 1 (n ∷ []) ≡ filled (start_of t q n ++ s)
unfolding filled period_start continuation_start
count_put true q m n s l =
    let h : length (filled (start_of true q m ++ s)) ≡ 512 = length_filled (start_of true q m ++ s) (rw length-append (omega (arith, length_period_start q m))) in
    put_in (filled (start_of true q m ++ s)) 1 (n ∷ []) (omega arith)
count_put false q m n s l =
    let h : length (filled (start_of false q m ++ s)) ≡ 512 = length_filled (start_of false q m ++ s) (rw length-append (omega (arith, length_continuation_start m))) in
    put_in (filled (start_of false q m ++ s)) 1 (n ∷ []) (omega arith)

-- a period with these doses
abbrev pub period_of : Header → List Dose → Written
period_of q ds = record { header = q; doses = ds }

-- dose d behind ds: it goes into block `length ds / 20`, and the blocks ahead of that stay
module _ (q : Header) (ds : List Dose) (d : Dose) where
  here_same : (i : ℕ) → i < length ds / 20 → doses_here i (ds ++ (d ∷ [])) ≡ doses_here i ds
  here_same i l =
      let a : i * 20 ≤ length ds = omega arith in
      let b : 20 ≤ length (drop (i * 20) ds) = rw length-drop (omega arith) in
      rw (drop-append-le (i * 20) ds (d ∷ []) a, take-append-le 20 (drop (i * 20) ds) (d ∷ []) b)

  pub ahead_same : list_below (length ds / 20) (period_block (period_of q (ds ++ (d ∷ [])))) ≡ list_below (length ds / 20) (period_block (period_of q ds))
  unfolding period_block
  ahead_same = list_same (length ds / 20) _ _ (λ i l. rw (here_same i l))

  rest_length : length (drop (length ds / 20 * 20) ds) ≡ length ds % 20
  rest_length = rw length-drop (omega arith)

  length_here : length (doses_here (length ds / 20) ds) ≡ length ds % 20
  length_here = rw (take_all 20 (drop (length ds / 20 * 20) ds) (omega (arith, rest_length))) rest_length

  here_more : doses_here (length ds / 20) (ds ++ (d ∷ [])) ≡ doses_here (length ds / 20) ds ++ (d ∷ [])
  here_more =
      let k = length ds / 20 * 20 in
      let a : k ≤ length ds = omega arith in
      let b : length (drop k ds ++ (d ∷ [])) ≤ 20 = rw length-append (omega (arith, rest_length)) in
      rw (drop-append-le k ds (d ∷ []) a, take_all 20 (drop k ds ++ (d ∷ [])) b, take_all 20 (drop k ds) (omega (arith, rest_length)))

  pub block_more : put (put (period_block (period_of q ds) (length ds / 20)) (24 + length ds % 20 * 24) (dose_bytes d)) 1 ((length ds % 20 + 1) ∷ []) ≡ period_block (period_of q (ds ++ (d ∷ []))) (length ds / 20)
  unfolding period_block
  block_more =
      let k = length ds / 20 in
      let t = eqb k 0 in
      let m = length ds % 20 in
      let here = doses_here k ds in
      let bs = start_of t q m ++ join_over dose_bytes here in
      let n : length bs ≡ 24 + m * 24 = rw length-append (omega (arith, length_start t q m, length_doses here, length_here)) in
      let one : put (filled bs) (24 + m * 24) (dose_bytes d) ≡ filled (start_of t q m ++ join_over dose_bytes (here ++ (d ∷ []))) =
      rw (← n, front_filled bs (dose_bytes d) (omega (arith, length_dose d)), over_append dose_bytes here (d ∷ []), over_one dose_bytes d)
      (ap filled (append_assoc (start_of t q m) (join_over dose_bytes here) (dose_bytes d))) in
      let two : length (join_over dose_bytes (here ++ (d ∷ []))) ≤ 480 =
      omega (arith, length_doses (here ++ (d ∷ [])), length-append here (d ∷ []), length_here) in
      let e : length (here ++ (d ∷ [])) ≡ m + 1 = omega (arith, length-append here (d ∷ []), length_here) in
      rw (here_more, length_here, e, one) (count_put t q m (m + 1) (join_over dose_bytes (here ++ (d ∷ []))) two)

-- and where the blocks ahead of it are full, it begins as a continuation
pub next_block : (q : Header) (ds : List Dose) → 20 ≤ length ds → length ds % 20 ≡ 0 → period_block (period_of q ds) (length ds / 20) ≡ filled (continuation_start 0)
unfolding period_block join_over
next_block q ds l e =
    let k = length ds / 20 in
    let f : k ≡ 0 → ⊥ = λ z. omega arith in
    let a : length ds ≤ k * 20 = omega arith in
    rw (ne_eqb k 0 f, drop_of_length-le ds a) (rw append-nil)
