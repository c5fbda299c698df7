-- The part's doses of a block, one by one and as they lie in a period, and the loop that copies them. Assumes nothing.
use Prim.Native.Nat.{ℕ, zero, suc, ◌+◌, ◌-◌, ◌*◌, ◌≤◌, ◌<◌, min}
use mathlib.Core.Bool.{Bool, true, false, cond}
use mathlib.Core.List.{List, [], ◌∷◌, ◌++◌, append_assoc, append-nil}
use mathlib.Core.Path.{◌≡◌, sym, ◌∙◌}
use native.Mathlib.Omega.{arith}
use lib.ListN.{length, take, drop, length-append, length-drop}
use lib.Seq.{length-take-le}
use borrow.Rule.Slice.PartMut.{put_mid}
use Rattle.below.proofs.Lists.{list_more, list_same, keep_append}
use Rattle.below.specs.Lists.{list_below, keep}
use Rattle.block.proofs.Put.{part_put}
use Rattle.block.proofs.Puts.{put_all}
use Rattle.block.specs.Bytes.{put}
use Rattle.plan.proofs.DoseRecord.{length_dose}
use Rattle.plan.proofs.Marks.{at_place}
use Rattle.plan.specs.declared.Dose.{Dose}
use Rattle.plan.specs.Fields.{record_at, dose_of, dose_bytes, record_start}
use Rattle.plan.specs.Periods.{block_at, dose_in}
use Rattle.split.specs.Code.Adding.{kept_in, records_put}
use Rattle.split.specs.Parts.{is_of_part}
use Rattle.split.proofs.Records.{records_none, records_one, records_more}

-- the first a, and the m behind them
list_split : {A : Type 0} (f : ℕ → A) (a m : ℕ) → list_below (a + m) f ≡ list_below a f ++ list_below m (λ k. f (a + k))
unfolding list_below
list_split f a zero = let z : a + 0 ≡ a = omega arith in rw z (sym (append-nil (list_below a f)))
list_split f a (suc m) =
    let e : a + suc m ≡ suc (a + m) = omega arith in
    rw (e, list_split f a m) (append_assoc (list_below a f) (list_below m (λ k. f (a + k))) (f (a + m) ∷ []))

-- the part's doses of a block: none, one more, and the rest of them
module _ (marked : Bool) (r : List ℕ) where
  pub kept_none : (i : ℕ) → kept_in marked r i i ≡ []
  unfolding kept_in list_below keep
  kept_none i = let z : i - i ≡ 0 = omega arith in rw z

  pub kept_more : (from i : ℕ) → from ≤ i → kept_in marked r from (i + 1) ≡ kept_in marked r from i ++ keep (is_of_part marked) (dose_of (record_at r i) ∷ [])
  unfolding kept_in
  kept_more from i l =
      let e : i + 1 - from ≡ i - from + 1 = omega arith in
      let f : from + (i - from) ≡ i = omega arith in
      rw (e, list_more (i - from) (λ k. dose_of (record_at r (from + k))), f, keep_append)

  pub kept_rest : (i n : ℕ) → i ≤ n → kept_in marked r 0 n ≡ kept_in marked r 0 i ++ kept_in marked r i n
  unfolding kept_in
  kept_rest i n l =
      let e : n - 0 ≡ i - 0 + (n - i) = omega arith in
      rw (e, list_split (λ k. dose_of (record_at r (0 + k))) (i - 0) (n - i), keep_append, list_same (n - i) (λ k. dose_of (record_at r (0 + (i - 0 + k)))) (λ k. dose_of (record_at r (i + k))) (λ k h. let z : 0 + (i - 0 + k) ≡ i + k = omega arith in rw z))

pub kept_few : (marked : Bool) (r : List ℕ) (i : ℕ) → length (keep (is_of_part marked) (dose_of (record_at r i) ∷ [])) ≤ 1
unfolding keep
kept_few marked r i =
    few (dose_of (record_at r i)) (is_of_part marked (dose_of (record_at r i)))
  where
    few : (d : Dose) (t : Bool) → length (cond t (d ∷ []) []) ≤ 1
    few d true = omega arith
    few d false = omega arith

-- those of a period's block i, behind those of the blocks ahead
module _ (marked : Bool) (p : List ℕ) (b : ℕ) where
  pub block_none : (n : ℕ) → keep (is_of_part marked) (list_below (min (0 * 20) n) (dose_in p b)) ≡ []
  unfolding list_below keep
  block_none n = let z : min (0 * 20) n ≡ 0 = omega arith in rw z

  pub block_more : (n i : ℕ) → i * 20 < n →
      keep (is_of_part marked) (list_below (min ((i + 1) * 20) n) (dose_in p b)) ≡
      keep (is_of_part marked) (list_below (min (i * 20) n) (dose_in p b)) ++ kept_in marked (block_at p (b + i)) 0 (min 20 (n - i * 20))
  unfolding kept_in
  block_more n i l =
      let m = min 20 (n - i * 20) in
      let a : min (i * 20) n ≡ i * 20 = omega arith in
      let e : min ((i + 1) * 20) n ≡ i * 20 + m = omega arith in
      let z : m - 0 ≡ m = omega arith in
      rw (a, e, z, list_split (dose_in p b) (i * 20) m, keep_append (is_of_part marked) (list_below (i * 20) (dose_in p b)) (list_below m (λ k. dose_in p b (i * 20 + k))), list_same m (λ k. dose_in p b (i * 20 + k)) (λ k. dose_of (record_at (block_at p (b + i)) (0 + k))) (λ k h. let f : 0 + k ≡ k = omega arith in rw f (at_place p b i k (omega arith))))

-- a dose of a block that is none of the part's, and one that is
module _ (out : List ℕ) (block m : ℕ) (r : List ℕ) (i : ℕ) (marked : Bool) (h : block + 512 ≤ length out) (l : m < 20) where
  abbrev kept : List Dose
  kept = keep (is_of_part marked) (dose_of (record_at r i) ∷ [])

  pub not_kept : is_of_part marked (dose_of (record_at r i)) ≡ false → (out ≡ records_put out block m kept) × (m ≡ m + length kept)
  unfolding keep
  not_kept f = rw f (sym (records_none out block m h (omega arith)), omega arith)

  pub is_kept : is_of_part marked (dose_of (record_at r i)) ≡ true → {at : ℕ} → at ≡ record_start m → (s : List ℕ) →
      s ≡ put (take (block + at + 24 - (block + at)) (drop (block + at) out)) 0 (dose_bytes (dose_of (record_at r i))) →
      (put_mid (block + at) (block + at + 24 - (block + at)) out s ≡ records_put out block m kept) × (m + 1 ≡ m + length kept)
  unfolding keep
  is_kept f {at} z s g =
      let d = dose_of (record_at r i) in
      let a = block + at in
      let q = take (a + 24 - a) (drop a out) in
      let n : length q ≡ 24 = length-take-le (a + 24 - a) (drop a out) (rw length-drop (omega arith)) ∙ omega arith in
      let w : s ≡ dose_bytes d = g ∙ put_all q (dose_bytes d) (length_dose d ∙ sym n) in
      let b : put_mid a (a + 24 - a) out (dose_bytes d) ≡ put out a (dose_bytes d) = part_put out (dose_bytes d) a (a + 24) (omega arith) (omega arith) (omega (arith, length_dose d)) in
      rw (f, w) (b ∙ rw z (sym (records_one out block m d)), omega arith)

-- the loop over a block's doses: it begins and turns
module _ (first : List ℕ) (block held : ℕ) (marked : Bool) (r : List ℕ) (from : ℕ) (h : block + 512 ≤ length first) where
  pub kept_start : held ≤ 20 → (held ≡ held + length (kept_in marked r from from)) × (first ≡ records_put first block held (kept_in marked r from from))
  kept_start l = rw (kept_none marked r from) (omega arith, sym (records_none first block held h l))

  pub kept_turn : (i : ℕ) → from ≤ i → held + (i - from) < 20 → (out next : List ℕ) (m n : ℕ) → m ≤ held + (i - from) → m ≡ held + length (kept_in marked r from i) →
      out ≡ records_put first block held (kept_in marked r from i) → next ≡ records_put out block m (keep (is_of_part marked) (dose_of (record_at r i) ∷ [])) →
      n ≡ m + length (keep (is_of_part marked) (dose_of (record_at r i) ∷ [])) →
      (n ≤ held + (i + 1 - from)) × (n ≡ held + length (kept_in marked r from (i + 1))) × (next ≡ records_put first block held (kept_in marked r from (i + 1)))
  kept_turn i a l out next m n few e f g k =
      let xs = kept_in marked r from i in
      let ys = keep (is_of_part marked) (dose_of (record_at r i) ∷ []) in
      let one = kept_few marked r i in
      let long : length (xs ++ ys) ≡ length xs + length ys = length-append xs ys in
      let joined = records_more first block held xs ys h (omega arith) in
      rw (kept_more marked r from i a) (omega arith, omega arith, g ∙ rw (f, e) joined)
