-- One block that breaks none of rules 2 to 4 is the block that is laid out for what is read from it. Assumes nothing.
use Prim.Native.Nat.{ℕ, zero, suc, ◌+◌, ◌-◌, ◌*◌, ◌≤◌, ◌<◌}
use mathlib.Core.Bool.{true, false, ◌||◌}
use mathlib.Core.List.{List, [], ◌∷◌, ◌++◌, append_assoc}
use mathlib.Core.Logic.{⊎_elim}
use mathlib.Core.Path.{◌≡◌, refl, sym, ap, ◌∙◌}
use native.Mathlib.Omega.{arith}
use lib.Dec.{ltb}
use lib.ListN.{length, take, drop, replicate, length-drop, take-append-drop, drop_of_length-le, get_or-append, get_or-eq_default}
use lib.Seq.{drop-cons, drop-drop, length-take-le, get_or-take, get_or-drop}
use borrow.Author.Tests.{ltb-false, not-false}
use Rattle.below.proofs.Lists.{length_list, over_nil, over_one, over_append}
use Rattle.below.proofs.Search.{any_not}
use Rattle.below.proofs.Tests.{or_neither, le_or_lt}
use Rattle.below.specs.Below.{any_below}
use Rattle.below.specs.Lists.{list_below, join_over}
use Rattle.block.proofs.Numbers.{AreBytes, bytes_number}
use Rattle.block.proofs.Sealing.{sealed_again}
use Rattle.block.proofs.Zero.{zero_at, zeros}
use Rattle.block.specs.Bytes.{byte_at, number_at, bytes_of, is_zero}
use Rattle.block.specs.Sums.{sealed, sums_right}
use Rattle.form.specs.Form.{days_out, not_zero, field_out, record_out, doses_out, head_out}
use Rattle.plan.specs.Fields.{kind_of, count_of, interval_of, first_of, end_of, unit_of, plan_number_of, revision_of, vka_of, record_at, dose_of, dose_bytes}
use Rattle.plan.specs.declared.Dose.{Dose}
use Rattle.layout.specs.Layout.{filled, head_bytes, period_start, continuation_start}
use Rattle.layout.proofs.Blocks.{byte_filled, length_filled, dose_block, length_content, length_dose_block}
use Rattle.layout.proofs.Bytes.{part_bytes_lem}

-- bytes taken apart, piece by piece from the front
module _ (s : List ℕ) where
  pub cut : (o n : ℕ) → drop o s ≡ take n (drop o s) ++ drop (o + n) s
  cut o n = rw (← (drop-drop n o s)) (sym (take-append-drop n (drop o s)))

  -- a number
  piece : AreBytes s → (o n : ℕ) {t : List ℕ} → o + n ≤ length s → drop (o + n) s ≡ t → drop o s ≡ bytes_of n (number_at n s o) ++ t
  piece bytes o n h e = rw (bytes_number n s o bytes h, ← e) (cut o n)

  -- a byte
  single : (o : ℕ) {x : ℕ} {t : List ℕ} → o < length s → byte_at s o ≡ x → drop (suc o) s ≡ t → drop o s ≡ x ∷ t
  single o h f e = rw (← e, ← f) (drop-cons s o 0 h)

  -- zeros that rule 4 asks for
  zero_in_lem : (a e : ℕ) → e ≤ length s → not_zero s a e ≡ false → (j : ℕ) → a ≤ j → j < e → byte_at s j ≡ 0
  zero_in_lem a e h z j l m =
      let part = take (e - a) (drop a s) in
      let n : length part ≡ e - a = length-take-le (e - a) (drop a s) (rw length-drop (omega arith)) in
      let q : a + (j - a) ≡ j = omega arith in
      let k : j - a < e - a = omega arith in
      ap (byte_at s) (sym q) ∙
      sym (get_or-take (e - a) (drop a s) (j - a) 0 k ∙ get_or-drop a s (j - a) 0) ∙
      zero_at part (not-false _ z) (j - a) (omega arith)

  blanks : (a n : ℕ) {t : List ℕ} → a + n ≤ length s → is_zero (take n (drop a s)) ≡ true → drop (a + n) s ≡ t → drop a s ≡ replicate n 0 ++ t
  blanks a n h z e =
      let part = take n (drop a s) in
      let m : length part ≡ n = length-take-le n (drop a s) (rw length-drop (omega arith)) in
      let q : part ≡ replicate n 0 = zeros part z ∙ ap (λ (k : ℕ). replicate k 0) m in
      rw (← e, ← q) (cut a n)

-- a dose record
record_again : (d : List ℕ) → length d ≡ 24 → AreBytes d → not_zero d 6 8 ≡ false → dose_bytes (dose_of d) ≡ d
unfolding dose_bytes dose_of bytes_of
record_again d long bytes z =
    sym
    (piece d bytes 0 2 (omega arith)
    (single d 2 (omega arith) refl
    (single d 3 (omega arith) refl
    (piece d bytes 4 2 (omega arith)
    (blanks d 6 2 (omega arith) (not-false _ z)
    (piece d bytes 8 8 (omega arith) (piece d bytes 16 8 (omega arith) (drop_of_length-le d {i = 24} (omega arith)))))))))

-- bytes that stand in front of zeros are filled up to the block
agree : (r bs : List ℕ) (n : ℕ) → length bs ≡ n → r ≡ bs ++ drop n r → ((j : ℕ) → n ≤ j → j < 504 → byte_at r j ≡ 0) → (j : ℕ) → j < 504 → byte_at (filled bs) j ≡ byte_at r j
agree r bs n m e z j l =
    ⊎_elim
    (λ (h : n ≤ j). byte_filled bs j ∙ get_or-eq_default bs 0 (omega arith) ∙ sym (z j h l))
    (λ (h : j < n).
    byte_filled bs j ∙ sym (ap (λ (t : List ℕ). byte_at t j) e ∙ get_or-append bs (drop n r) 0 j (omega arith)))
    (le_or_lt n j)

-- the doses of a block
abbrev pub doses_in : List ℕ → List Dose
doses_in r = list_below (count_of r) (λ i. dose_of (record_at r i))

module _ (r : List ℕ) (long : length r ≡ 512) (bytes : AreBytes r) where
  -- the first 24 bytes of a period's first block, and of a continuation
  pub period_start_lem : kind_of r ≡ 2 → not_zero r 12 24 ≡ false →
      r ≡ period_start (record { interval = interval_of r; first = first_of r; end = end_of r }) (count_of r) ++ drop 24 r
  unfolding period_start bytes_of
  period_start_lem k z =
      single r 0 (omega arith) k
      (single r 1 (omega arith) refl
      (piece r bytes 2 2 (omega arith)
      (piece r bytes 4 4 (omega arith)
      (piece r bytes 8 4 (omega arith) (blanks r 12 12 (omega arith) (not-false _ z) refl)))))

  pub continuation_start_lem : kind_of r ≡ 3 → not_zero r 2 24 ≡ false → r ≡ continuation_start (count_of r) ++ drop 24 r
  unfolding continuation_start
  continuation_start_lem k z =
      single r 0 (omega arith) k (single r 1 (omega arith) refl (blanks r 2 22 (omega arith) (not-false _ z) refl))

  -- the head
  pub head_again : sums_right r ≡ true → kind_of r ≡ 1 → head_out r ≡ false →
      sealed (head_bytes (record { unit = unit_of r; start = first_of r; end = end_of r; number = plan_number_of r; revision = revision_of r; vka = vka_of r }) (count_of r)) ≡ r
  unfolding head_bytes bytes_of head_out
  head_again sums k o =
      sealed_again _ r (length_filled _ (omega arith)) long bytes sums
      (agree r _ 21 refl
      (single r 0 (omega arith) k
      (single r 1 (omega arith) refl
      (piece r bytes 2 2 (omega arith)
      (piece r bytes 4 4 (omega arith)
      (piece r bytes 8 4 (omega arith)
      (piece r bytes 12 4 (omega arith) (piece r bytes 16 4 (omega arith) (single r 20 (omega arith) refl refl))))))))
      (zero_in_lem r 21 504 (omega arith) (or_neither (days_out r || ltb 1 (vka_of r)) (not_zero r 21 504) o).1))

  module _ (out : doses_out r ≡ false) where
    -- what rule 4 says of it, part by part
    apart : ((ltb 20 (count_of r) ≡ false) × (any_below (count_of r) (λ i. record_out (record_at r i)) ≡ false)) × (not_zero r (24 + count_of r * 24) 504 ≡ false)
    unfolding doses_out
    apart =
        let any = any_below (count_of r) (λ i. record_out (record_at r i)) in
        let both = or_neither (ltb 20 (count_of r) || any) (not_zero r (24 + count_of r * 24) 504) out in
        (or_neither (ltb 20 (count_of r)) any both.0, both.1)

    few : count_of r ≤ 20
    few = ltb-false _ _ apart.0.0

    blank : (i : ℕ) → i < count_of r → not_zero (record_at r i) 6 8 ≡ false
    unfolding record_out
    blank i l =
        (or_neither (field_out (dose_of (record_at r i))) (not_zero (record_at r i) 6 8) (any_not (λ i. record_out (record_at r i)) apart.0.1 i l)).1

    one : (i : ℕ) → i < count_of r → dose_bytes (dose_of (record_at r i)) ≡ record_at r i
    one i l =
        record_again (record_at r i)
        (length-take-le 24 (drop (24 + i * 24) r) (rw (length-drop, long) (omega (arith, few))))
        (part_bytes_lem r (24 + i * 24) 24 bytes)
        (blank i l)

    doses_again : (n : ℕ) → n ≤ count_of r → drop 24 r ≡ join_over dose_bytes (list_below n (λ i. dose_of (record_at r i))) ++ drop (24 + n * 24) r
    unfolding list_below
    doses_again zero l = rw (over_nil dose_bytes)
    doses_again (suc n) l =
        let ds = list_below n (λ i. dose_of (record_at r i)) in
        let e : 24 + suc n * 24 ≡ 24 + n * 24 + 24 = omega arith in
        let joined : join_over dose_bytes (ds ++ (dose_of (record_at r n) ∷ [])) ≡ join_over dose_bytes ds ++ record_at r n =
        over_append dose_bytes ds (dose_of (record_at r n) ∷ []) ∙ ap (λ (t : List ℕ). join_over dose_bytes ds ++ t) (over_one dose_bytes (dose_of (record_at r n)) ∙ one n (omega arith)) in
        doses_again n (omega arith) ∙
        ap (λ (t : List ℕ). join_over dose_bytes ds ++ t) (cut r (24 + n * 24) 24) ∙
        sym (rw (joined, e) (append_assoc (join_over dose_bytes ds) (record_at r n) (drop (24 + n * 24 + 24) r)))

    -- a block of doses
    pub doses_block : sums_right r ≡ true → (start : List ℕ) → length start ≡ 24 → r ≡ start ++ drop 24 r → sealed (dose_block start (doses_in r)) ≡ r
    doses_block sums start n e =
        let ds = doses_in r in
        let c : length ds ≡ count_of r = length_list (count_of r) (λ i. dose_of (record_at r i)) in
        let some : length ds ≤ 20 = omega (arith, few) in
        let all : r ≡ start ++ join_over dose_bytes ds ++ drop (24 + count_of r * 24) r =
        e ∙ ap (λ (t : List ℕ). start ++ t) (doses_again (count_of r) (omega arith)) ∙ sym (append_assoc start (join_over dose_bytes ds) (drop (24 + count_of r * 24) r)) in
        sealed_again (dose_block start ds) r (length_dose_block start ds n some) long bytes sums
        (agree r (start ++ join_over dose_bytes ds) (24 + count_of r * 24) (omega (arith, length_content start ds n some)) all
        (zero_in_lem r (24 + count_of r * 24) 504 (omega arith) apart.1))
