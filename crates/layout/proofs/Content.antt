-- What is read from one laid-out block: its first bytes, its doses, and the zeros behind them. Assumes nothing.
use Prim.Native.Nat.{ℕ, zero, suc, ◌+◌, ◌*◌, ◌≤◌, ◌<◌}
use mathlib.Core.List.{List, ◌++◌}
use mathlib.Core.Path.{◌≡◌, ap, ◌∙◌}
use native.Mathlib.Omega.{arith}
use lib.ListN.{length, get_or, get_or-append, get_or-eq_default}
use lib.Seq.{get_or-append-add}
use Rattle.below.specs.Lists.{join_over}
use Rattle.block.proofs.Numbers.{number_same, number_bytes}
use Rattle.block.proofs.Sealing.{length_sealed, sealed_ahead}
use Rattle.block.specs.Bytes.{byte_at, number_at, bytes_of}
use Rattle.block.specs.Sums.{sealed}
use Rattle.plan.specs.Fields.{kind_of, count_of, interval_of, first_of, end_of, unit_of, plan_number_of, revision_of, vka_of, record_at, dose_of, dose_bytes}
use Rattle.plan.specs.declared.Dose.{Dose}
use Rattle.plan.specs.declared.Head.{Head}
use Rattle.layout.specs.Code.Fits.{HeadFits, HeaderFits, DoseFits}
use Rattle.layout.specs.Layout.{Written, filled, head_bytes, period_start, continuation_start, doses_here, period_block}
use Rattle.layout.proofs.Blocks.{byte_sealed, length_head, length_doses, doses_alike, few_here, dose_block, length_content, length_dose_block, start_at, period_is, start_first, start_next, length_start}
use Rattle.layout.proofs.Runs.{part_run, part_same}

-- sealing keeps the numbers ahead of the sums
pub number_ahead : (b : List ℕ) → length b ≡ 512 → (w j : ℕ) → j + w ≤ 504 → number_at w (sealed b) j ≡ number_at w b j
number_ahead b h w j l = number_same w (sealed b) b j j (λ k m. sealed_ahead b h (j + k) (omega arith))

-- what a list of doses gives past its end
abbrev pub no_dose : Dose
no_dose = record { day = 0; kind = 0; mark = 0; minute = 0; low = 0; high = 0 }

-- a dose is read from its bytes
pub dose_back : (d : Dose) → DoseFits d → dose_of (dose_bytes d) ≡ d
unfolding dose_of dose_bytes bytes_of number_at
dose_back d f =
    λ i.
    record {
      day = number_bytes 2 d.day f.day i;
      kind = d.kind;
      mark = d.mark;
      minute = number_bytes 2 d.minute f.minute i;
      low = number_bytes 8 d.low f.low i;
      high = number_bytes 8 d.high f.high i;
    }

-- a block of doses
module _ (start : List ℕ) (ds : List Dose) (long : length start ≡ 24) (few : length ds ≤ 20) where
  size : length (start ++ join_over dose_bytes ds) ≤ 504
  size = omega (arith, length_content start ds long few)

  -- its first 24 bytes
  pub byte_start : (j : ℕ) → j < 24 → byte_at (sealed (dose_block start ds)) j ≡ byte_at start j
  byte_start j l =
      byte_sealed (start ++ join_over dose_bytes ds) (omega (arith, size)) j (omega arith) ∙
      get_or-append start (join_over dose_bytes ds) 0 j (omega arith)

  pub number_start : (w j : ℕ) → j + w ≤ 24 → number_at w (sealed (dose_block start ds)) j ≡ number_at w start j
  number_start w j l = number_same w (sealed (dose_block start ds)) start j j (λ k m. byte_start (j + k) (omega arith))

  -- its doses
  byte_doses : (j : ℕ) → j < 480 → byte_at (sealed (dose_block start ds)) (24 + j) ≡ byte_at (join_over dose_bytes ds) j
  byte_doses j l =
      let e : 24 + j ≡ length start + j = omega arith in
      byte_sealed (start ++ join_over dose_bytes ds) (omega (arith, size)) (24 + j) (omega arith) ∙
      ap (λ (m : ℕ). byte_at (start ++ join_over dose_bytes ds) m) e ∙
      get_or-append-add start (join_over dose_bytes ds) j 0

  pub record_back : (x : Dose) (i : ℕ) → i < length ds → record_at (sealed (dose_block start ds)) i ≡ dose_bytes (get_or ds i x)
  record_back x i l =
      let n : length (sealed (dose_block start ds)) ≡ 512 = length_sealed _ (length_dose_block start ds long few) in
      part_same (sealed (dose_block start ds)) (join_over dose_bytes ds) (24 + i * 24) (i * 24) 24 (omega arith) (rw (length_doses ds) (omega arith))
      (λ k m.
      let e : 24 + i * 24 + k ≡ 24 + (i * 24 + k) = omega arith in
      rw e (byte_doses (i * 24 + k) (omega arith))) ∙
      part_run dose_bytes 24 (doses_alike ds) x i l

  -- and the zeros behind them
  pub byte_behind : (j : ℕ) → 24 + length ds * 24 ≤ j → j < 504 → byte_at (sealed (dose_block start ds)) j ≡ 0
  byte_behind j h l =
      byte_sealed (start ++ join_over dose_bytes ds) (omega (arith, size)) j l ∙
      get_or-eq_default (start ++ join_over dose_bytes ds) 0 (omega (arith, length_content start ds long few))

-- a period's block i
module _ (w : Written) (i : ℕ) where
  pub period_byte : (j : ℕ) → j < 24 → byte_at (sealed (period_block w i)) j ≡ byte_at (start_at w i) j
  period_byte j l =
      rw (period_is w i)
      (byte_start (start_at w i) (doses_here i w.doses) (length_start w i) (few_here i w.doses) j l)

  pub period_number : (v j : ℕ) → j + v ≤ 24 → number_at v (sealed (period_block w i)) j ≡ number_at v (start_at w i) j
  period_number v j l =
      rw (period_is w i)
      (number_start (start_at w i) (doses_here i w.doses) (length_start w i) (few_here i w.doses) v j l)

  pub period_record : (x : Dose) (k : ℕ) → k < length (doses_here i w.doses) → record_at (sealed (period_block w i)) k ≡ dose_bytes (get_or (doses_here i w.doses) k x)
  period_record x k l =
      rw (period_is w i)
      (record_back (start_at w i) (doses_here i w.doses) (length_start w i) (few_here i w.doses) x k l)

  pub period_behind : (j : ℕ) → 24 + length (doses_here i w.doses) * 24 ≤ j → j < 504 → byte_at (sealed (period_block w i)) j ≡ 0
  period_behind j h l =
      rw (period_is w i)
      (byte_behind (start_at w i) (doses_here i w.doses) (length_start w i) (few_here i w.doses) j h l)

module _ (w : Written) where
  pub kind_first : kind_of (sealed (period_block w 0)) ≡ 2
  unfolding period_start
  kind_first = period_byte w 0 0 (omega arith) ∙ ap (λ (s : List ℕ). byte_at s 0) (start_first w)

  pub kind_next : (i : ℕ) → kind_of (sealed (period_block w (suc i))) ≡ 3
  unfolding continuation_start
  kind_next i = period_byte w (suc i) 0 (omega arith) ∙ ap (λ (s : List ℕ). byte_at s 0) (start_next w i)

  pub count_here : (i : ℕ) → count_of (sealed (period_block w i)) ≡ length (doses_here i w.doses)
  unfolding period_start continuation_start
  count_here zero = period_byte w 0 1 (omega arith) ∙ ap (λ (s : List ℕ). byte_at s 1) (start_first w)
  count_here (suc i) = period_byte w (suc i) 1 (omega arith) ∙ ap (λ (s : List ℕ). byte_at s 1) (start_next w i)

  module _ (f : HeaderFits w.header) where
    start_number : (v j : ℕ) → j + v ≤ 24 → number_at v (sealed (period_block w 0)) j ≡ number_at v (period_start w.header (length (doses_here 0 w.doses))) j
    start_number v j l = period_number w 0 v j l ∙ ap (λ (s : List ℕ). number_at v s j) (start_first w)

    pub interval_back : interval_of (sealed (period_block w 0)) ≡ w.header.interval
    unfolding period_start bytes_of number_at
    interval_back = start_number 2 2 (omega arith) ∙ number_bytes 2 w.header.interval f.interval

    pub first_back : first_of (sealed (period_block w 0)) ≡ w.header.first
    unfolding period_start bytes_of number_at
    first_back = start_number 4 4 (omega arith) ∙ number_bytes 4 w.header.first f.first

    pub end_back : end_of (sealed (period_block w 0)) ≡ w.header.end
    unfolding period_start bytes_of number_at
    end_back = start_number 4 8 (omega arith) ∙ number_bytes 4 w.header.end f.end

-- the head
module _ (h : Head) (n : ℕ) where
  head_number : (v j : ℕ) → j + v ≤ 504 → number_at v (sealed (head_bytes h n)) j ≡ number_at v (head_bytes h n) j
  head_number v j l = number_ahead (head_bytes h n) (length_head h n) v j l

  head_byte : (j : ℕ) → j < 504 → byte_at (sealed (head_bytes h n)) j ≡ byte_at (head_bytes h n) j
  head_byte j l = sealed_ahead (head_bytes h n) (length_head h n) j l

  pub head_kind : kind_of (sealed (head_bytes h n)) ≡ 1
  unfolding head_bytes filled
  head_kind = head_byte 0 (omega arith)

  pub head_count : count_of (sealed (head_bytes h n)) ≡ n
  unfolding head_bytes filled
  head_count = head_byte 1 (omega arith)

  pub head_vka : vka_of (sealed (head_bytes h n)) ≡ h.vka
  unfolding head_bytes filled bytes_of
  head_vka = head_byte 20 (omega arith)

  module _ (f : HeadFits h) where
    pub head_unit : unit_of (sealed (head_bytes h n)) ≡ h.unit
    unfolding head_bytes filled bytes_of number_at
    head_unit = head_number 2 2 (omega arith) ∙ number_bytes 2 h.unit f.unit

    pub head_start : first_of (sealed (head_bytes h n)) ≡ h.start
    unfolding head_bytes filled bytes_of number_at
    head_start = head_number 4 4 (omega arith) ∙ number_bytes 4 h.start f.start

    pub head_end : end_of (sealed (head_bytes h n)) ≡ h.end
    unfolding head_bytes filled bytes_of number_at
    head_end = head_number 4 8 (omega arith) ∙ number_bytes 4 h.end f.end

    pub head_plan_number : plan_number_of (sealed (head_bytes h n)) ≡ h.number
    unfolding head_bytes filled bytes_of number_at
    head_plan_number = head_number 4 12 (omega arith) ∙ number_bytes 4 h.number f.number

    pub head_revision : revision_of (sealed (head_bytes h n)) ≡ h.revision
    unfolding head_bytes filled bytes_of number_at
    head_revision = head_number 4 16 (omega arith) ∙ number_bytes 4 h.revision f.revision
