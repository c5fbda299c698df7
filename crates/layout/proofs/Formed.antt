-- What is laid out breaks none of rules 1 to 4. Assumes nothing.
use Rattle.std.specs.Prelude.{Ok}
use Prim.Native.Nat.{ℕ, zero, suc, ◌+◌, ◌-◌, ◌*◌, ◌%◌, ◌≤◌, ◌<◌}
use mathlib.Core.Bool.{true, false, not}
use mathlib.Core.List.{List, []}
use mathlib.Core.Path.{◌≡◌, refl, sym, ap, ◌∙◌}
use native.Mathlib.Omega.{arith}
use lib.ListN.{length, take, drop, replicate, length-take}
use lib.Seq.{get_or-take, get_or-drop}
use borrow.Author.Tests.{eq-eqb, ne_eqb, le-ltb}
use Rattle.below.proofs.Search.{any_none}
use Rattle.below.proofs.Tests.{neither_or}
use Rattle.block.proofs.Sealing.{sealed_ahead, sealed_right}
use Rattle.block.proofs.Zero.{at_zero, zeros_zero}
use Rattle.block.specs.Bytes.{byte_at, bytes_of, is_zero}
use Rattle.block.specs.Sums.{sealed}
use Rattle.form.proofs.Formed.{right}
use Rattle.form.specs.Form.{bad_length, goes_on, misplaced, days_out, not_zero, record_out, doses_out, head_out, period_out, continuation_out, block_out, form_of}
use Rattle.plan.specs.Fields.{count_of, record_at, dose_bytes}
use Rattle.plan.specs.Periods.{blocks_of, block_at}
use Rattle.plan.specs.declared.Dose.{Dose}
use Rattle.plan.specs.declared.Head.{Head}
use Rattle.plan.specs.declared.Header.{Header}
use Rattle.layout.specs.Code.Fits.{HeadFits, DoseFits, WrittenFits, AllFit, HeadRanged, DoseRanged, WrittenRanged, Ranged}
use Rattle.layout.specs.Layout.{Written, filled, head_bytes, period_start, continuation_start, doses_here, period_block, body_of, laid_out}
use Rattle.layout.proofs.Back.{block_head, laid_stand}
use Rattle.layout.proofs.Blocks.{byte_zeros, length_head, few_here, start_first, start_next, length_laid, blocks_laid, block_laid, blocks_whole}
use Rattle.layout.proofs.Content.{no_dose, dose_back, kind_first, kind_next, count_here, first_back, end_back, period_byte, period_record, period_behind, head_kind, head_count, head_vka, head_start, head_end}
use Rattle.layout.proofs.Every.{every_at, every_both, every_take, every_drop}
use Rattle.layout.proofs.Standing.{size_of, here_full, here_some, Stands, kind_at, kind_later, count_at, all_blocks}

-- bytes that are zero are no broken zero bytes
zero_part : (r : List ℕ) (a e : ℕ) → ((j : ℕ) → a ≤ j → j < e → byte_at r j ≡ 0) → not_zero r a e ≡ false
zero_part r a e h =
    let part = take (e - a) (drop a r) in
    let zero : is_zero part ≡ true =
    at_zero part
    (λ i l.
    let k : i < e - a = omega (arith, length-take (e - a) (drop a r)) in
    get_or-take (e - a) (drop a r) i 0 k ∙ get_or-drop a r i 0 ∙ h (a + i) (omega arith) (omega arith)) in
    rw zero

-- .. such as those that a list ends in
zero_from : (s : List ℕ) (a n : ℕ) → drop a s ≡ replicate n 0 → (j : ℕ) → a ≤ j → byte_at s j ≡ 0
zero_from s a n e j l =
    let z : a + (j - a) ≡ j = omega arith in
    ap (byte_at s) (sym z) ∙ sym (get_or-drop a s (j - a) 0) ∙ ap (λ (t : List ℕ). byte_at t (j - a)) e ∙ byte_zeros n (j - a)

period_zeros : (q : Header) (n j : ℕ) → 12 ≤ j → byte_at (period_start q n) j ≡ 0
unfolding period_start bytes_of
period_zeros q n j l = zero_from (period_start q n) 12 12 refl j l

continuation_zeros : (n j : ℕ) → 2 ≤ j → byte_at (continuation_start n) j ≡ 0
unfolding continuation_start
continuation_zeros n j l = zero_from (continuation_start n) 2 22 refl j l

head_zeros : (h : Head) (n j : ℕ) → 21 ≤ j → byte_at (head_bytes h n) j ≡ 0
unfolding head_bytes filled bytes_of
head_zeros h n j l = zero_from (head_bytes h n) 21 491 refl j l

-- rule 4 of a dose record, and of the doses of a block
blank : (d : Dose) → not_zero (dose_bytes d) 6 8 ≡ false
unfolding dose_bytes bytes_of
blank d = ap not (zeros_zero 2)

record_in : (d : Dose) → DoseFits d → DoseRanged d → record_out (dose_bytes d) ≡ false
unfolding record_out
record_in d f e = rw (dose_back d f) (neither_or e (blank d))

module _ (w : Written) (f : WrittenFits w) (g : WrittenRanged w) where
  doses_in_lem : (i : ℕ) → doses_out (sealed (period_block w i)) ≡ false
  unfolding doses_out
  doses_in_lem i =
      let r = sealed (period_block w i) in
      let c : count_of r ≡ length (doses_here i w.doses) = count_here w i in
      let few : count_of r ≤ 20 = omega (arith, few_here i w.doses) in
      neither_or
      (neither_or
      (le-ltb 20 (count_of r) few)
      (any_none (λ k. record_out (record_at r k))
      (λ k l.
      let h : k < length (doses_here i w.doses) = omega arith in
      rw (period_record w i no_dose k h)
      (record_in _
      (every_at (every_take 20 (every_drop (i * 20) f.doses)) no_dose k h)
      (every_at (every_take 20 (every_drop (i * 20) g.doses)) no_dose k h)))))
      (zero_part r (24 + count_of r * 24) 504 (λ j a b. period_behind w i j (omega arith) b))

  -- rule 4 of a period's first block, and of its continuations
  first_in : block_out (sealed (period_block w 0)) ≡ false
  unfolding block_out period_out
  first_in =
      let r = sealed (period_block w 0) in
      let days : days_out r ≡ false = rw (first_back w f.header, end_back w f.header) g.days in
      rw (kind_first w)
      (neither_or
      (neither_or days
      (zero_part r 12 24 (λ j a b. period_byte w 0 j b ∙ ap (λ (s : List ℕ). byte_at s j) (start_first w) ∙ period_zeros _ _ j a)))
      (doses_in_lem 0))

  next_in : (i : ℕ) → suc i < size_of w → block_out (sealed (period_block w (suc i))) ≡ false
  unfolding block_out continuation_out
  next_in i l =
      let r = sealed (period_block w (suc i)) in
      rw (kind_next w i)
      (neither_or
      (neither_or
      (ne_eqb (count_of r) 0 (λ e. omega (arith, count_here w (suc i), here_some w.doses i l)))
      (zero_part r 2 24 (λ j a b. period_byte w (suc i) j b ∙ ap (λ (s : List ℕ). byte_at s j) (start_next w i) ∙ continuation_zeros _ j a)))
      (doses_in_lem (suc i)))

  pub period_in : (i : ℕ) → i < size_of w → block_out (sealed (period_block w i)) ≡ false
  period_in zero l = first_in
  period_in (suc i) l = next_in i l

-- .. and of the head
pub head_in : (h : Head) (n : ℕ) → HeadFits h → HeadRanged h → block_out (sealed (head_bytes h n)) ≡ false
unfolding block_out head_out
head_in h n f g =
    let r = sealed (head_bytes h n) in
    let days : days_out r ≡ false = rw (head_start h n f, head_end h n f) g.days in
    rw (head_kind h n)
    (neither_or
    (neither_or days (rw (head_vka h n) (le-ltb 1 h.vka g.vka)))
    (zero_part r 21 504 (λ j a b. sealed_ahead (head_bytes h n) (length_head h n) j b ∙ head_zeros h n j a)))

-- rule 3 of a period's blocks
module _ {p : List ℕ} {at : ℕ} {w : Written} (s : Stands p at w) where
  goes : (i : ℕ) → suc i < size_of w → goes_on p (at + i) ≡ true
  goes zero l =
      let z : at + 0 ≡ at = omega arith in
      let c : count_of (block_at p at) ≡ 20 = rw z at (count_at s 0 (omega arith) ∙ here_full w.doses 0 l) in
      rw (z, kind_at s, c)
  goes (suc i) l =
      rw (kind_later s i (omega arith), count_at s (suc i) (omega arith), here_full w.doses (suc i) l)

  pub period_placed : 0 < at → (i : ℕ) → i < size_of w → misplaced p (at + i) ≡ false
  unfolding misplaced
  period_placed pos zero l =
      let z : at + 0 ≡ at = omega arith in
      rw (z, ne_eqb at 0 (λ e. omega arith), kind_at s)
  period_placed pos (suc i) l =
      let z : at + suc i - 1 ≡ at + i = omega arith in
      rw (ne_eqb (at + suc i) 0 (λ e. omega arith), kind_later s i l, z, goes i l)

module _ (h : Head) (ws : List Written) where
  head_placed : misplaced (laid_out h ws) 0 ≡ false
  unfolding misplaced
  head_placed =
      let n = length (body_of ws) in
      let c : n + 1 ≡ blocks_of (laid_out h ws) = omega (arith, blocks_laid h ws) in
      rw (block_head h ws, head_kind h n, head_count h n, eq-eqb _ _ c)

  -- every block is the head or one behind it
  each : (P : ℕ → Type 0) → P 0 → ((i : ℕ) → i < length (body_of ws) → P (1 + i)) → (b : ℕ) → b < blocks_of (laid_out h ws) → P b
  each P z s zero l = z
  each P z s (suc b) l =
      let e : suc b ≡ 1 + b = omega arith in
      rw e (s b (omega (arith, blocks_laid h ws)))

  module _ (f : HeadFits h) (fs : AllFit ws) (g : Ranged h ws) where
    pub laid_right : (limit : ℕ) → length (laid_out h ws) ≤ limit → form_of limit (laid_out h ws) ≡ Ok tt
    laid_right limit fit =
        let p = laid_out h ws in
        let n = length_laid h ws in
        let some : length p ≡ 0 → ⊥ = λ e. omega arith in
        let even : length p % 512 ≡ 0 = omega arith in
        let long : bad_length limit p ≡ false =
        rw (ne_eqb (length p) 0 some, eq-eqb _ _ even, le-ltb limit (length p) fit) in
        right limit p long
        (λ b l.
        rw (block_laid h ws b (omega (arith, blocks_laid h ws)))
        (sealed_right _ (every_at (blocks_whole h ws) [] b (omega (arith, blocks_laid h ws)))))
        (each (λ b. misplaced p b ≡ false) head_placed
        (all_blocks (λ b. misplaced p b ≡ false) (λ at w pos q s i l. period_placed s pos i l) (omega arith) fs (laid_stand h ws)))
        (each (λ b. block_out (block_at p b) ≡ false)
        (rw (block_head h ws) (head_in h (length (body_of ws)) f g.head))
        (all_blocks (λ b. block_out (block_at p b) ≡ false)
        (λ at w pos q s i l. rw (s.block i l) (period_in w q.0 q.1 i l))
        (omega arith) (every_both fs g.periods) (laid_stand h ws)))
