-- The doses of a period, over all its blocks, are in their ranges. Assumes nothing.
use Prim.Native.Nat.{ℕ, zero, suc, ◌+◌, ◌-◌, ◌*◌, ◌/◌, ◌%◌, ◌≤◌, ◌<◌}
use mathlib.Core.Bool.{true, false, cond, not, ◌&&◌, ◌||◌}
use mathlib.Core.List.{List}
use mathlib.Core.Logic.{◌⊎◌, inl, inr, ⊎_elim}
use mathlib.Core.Path.{◌≡◌}
use native.Mathlib.Omega.{arith}
use lib.Dec.{eqb, ltb}
use lib.ListN.{length, drop_of_length-le}
use borrow.Author.Tests.{eqb-true, ltb-false, not-false, ne_eqb}
use Rattle.below.proofs.Search.{any_not, first_facts}
use Rattle.below.proofs.Tests.{and_both, or_either, or_neither, le_or_lt}
use Rattle.below.specs.Below.{any_below}
use Rattle.plan.specs.Fields.{kind_of, count_of, record_at, dose_of}
use Rattle.plan.specs.Periods.{blocks_of, block_at, is_period, is_continuation, more_of, doses_of, dose_in}
use Rattle.plan.specs.declared.Dose.{Dose}
use Rattle.form.specs.Form.{goes_on, misplaced, days_out, not_zero, field_out, record_out, doses_out, period_out, continuation_out, block_out}
use Rattle.form.specs.Code.Whole.{Whole}
use Rattle.form.proofs.Formed.{Formed, placed, ranged}
use Rattle.form.proofs.Laws.{whole}

module _ {limit : ℕ} {p : List ℕ} (small : limit < 65536) (f : Formed limit p) where
  w : Whole p
  w = whole limit p small f.long

  -- a block that has a kind is there
  there : (c : ℕ) {k : ℕ} → kind_of (block_at p c) ≡ suc k → c < blocks_of p
  unfolding block_at
  there c {k} e =
      ⊎_elim
      (λ (l : blocks_of p ≤ c).
      let h : length p ≤ c * 512 = omega (arith, w.whole) in
      let z : kind_of (block_at p c) ≡ 0 = rw (drop_of_length-le p h) in
      absurd (omega arith))
      (λ l. l)
      (le_or_lt (blocks_of p) c)

  module _ (b : ℕ) (l : b < blocks_of p) (e : is_period p b ≡ true) where
    -- the blocks behind the first that belong to the period
    pub goes : (i : ℕ) → i < more_of p b → is_continuation p (b + 1 + i) ≡ true
    unfolding more_of
    goes i h = not-false _ ((first_facts (λ i. not (is_continuation p (b + 1 + i))) 63).before i h)

    -- .. are all there, and hold a dose block's doses
    kinds : (q : ℕ) → q ≤ more_of p b → (is_period p (b + q) ≡ true) ⊎ (is_continuation p (b + q) ≡ true)
    kinds zero h = let z : b + 0 ≡ b = omega arith in inl (rw z e)
    kinds (suc q) h = let z : b + suc q ≡ b + 1 + q = omega arith in inr (rw z (goes q (omega arith)))

    pub inside : (q : ℕ) → q ≤ more_of p b → b + q < blocks_of p
    inside q h =
        ⊎_elim
        (λ t. there (b + q) {k = 1} (eqb-true _ _ t))
        (λ t. there (b + q) {k = 2} (eqb-true _ _ t))
        (kinds q h)

    pub doses_in_lem : (q : ℕ) → q ≤ more_of p b → doses_out (block_at p (b + q)) ≡ false
    unfolding block_out period_out continuation_out
    doses_in_lem q h =
        let r = block_at p (b + q) in
        let o = ranged f (b + q) (inside q h) in
        ⊎_elim
        (λ (t : is_period p (b + q) ≡ true).
        let k : kind_of r ≡ 2 = eqb-true _ _ t in
        let x : period_out r ≡ false = rw k at o in
        (or_neither (days_out r || not_zero r 12 24) (doses_out r) x).1)
        (λ (t : is_continuation p (b + q) ≡ true).
        let k : kind_of r ≡ 3 = eqb-true _ _ t in
        let x : continuation_out r ≡ false = rw k at o in
        (or_neither (eqb (count_of r) 0 || not_zero r 2 24) (doses_out r) x).1)
        (kinds q h)

    -- a block with another behind it is full
    pub full : (q : ℕ) → q < more_of p b → count_of (block_at p (b + q)) ≡ 20
    unfolding misplaced
    full q h =
        let c = b + 1 + q in
        let t = goes q h in
        let k : kind_of (block_at p c) ≡ 3 = eqb-true _ _ t in
        let n : c ≡ 0 → ⊥ = λ z. omega arith in
        let m = placed f c (there c {k = 2} k) in
        let x : not (is_period p c || (is_continuation p c && goes_on p (c - 1))) ≡ false = rw (ne_eqb c 0 n) at m in
        let d : c - 1 ≡ b + q = omega arith in
        ⊎_elim
        (λ (u : is_period p c ≡ true). absurd (let v : kind_of (block_at p c) ≡ 2 = eqb-true _ _ u in omega arith))
        (λ u.
        let g = (and_both (is_continuation p c) (goes_on p (c - 1)) u).1 in
        let y = (and_both (is_period p (c - 1) || is_continuation p (c - 1)) (eqb (count_of (block_at p (c - 1))) 20) g).1 in
        rw d at (eqb-true (count_of (block_at p (c - 1))) 20 y))
        (or_either (is_period p c) (is_continuation p c && goes_on p (c - 1)) (not-false _ x))

    pub count_in : (q : ℕ) → q ≤ more_of p b → count_of (block_at p (b + q)) ≤ 20
    unfolding doses_out
    count_in q h =
        let r = block_at p (b + q) in
        ltb-false _ _ (or_neither (ltb 20 (count_of r)) _ (or_neither _ (not_zero r (24 + count_of r * 24) 504) (doses_in_lem q h)).0).0

    record_in : (q i : ℕ) → q ≤ more_of p b → i < count_of (block_at p (b + q)) → field_out (dose_of (record_at (block_at p (b + q)) i)) ≡ false
    unfolding doses_out record_out
    record_in q i h k =
        let r = block_at p (b + q) in
        let any = (or_neither (ltb 20 (count_of r)) (any_below (count_of r) (λ i. record_out (record_at r i))) (or_neither _ (not_zero r (24 + count_of r * 24) 504) (doses_in_lem q h)).0).1 in
        (or_neither (field_out (dose_of (record_at r i))) _ (any_not (λ i. record_out (record_at r i)) any i k)).0

    -- dose j of the period is in its ranges
    pub dose_ranged : (j : ℕ) → j < doses_of p b → field_out (dose_in p b j) ≡ false
    unfolding doses_of dose_in
    dose_ranged j h =
        let m = more_of p b in
        let q = j / 20 in
        let c = count_in m (omega arith) in
        let last : q ≤ m = omega arith in
        ⊎_elim
        (λ (z : m ≤ q).
        let y : q ≡ m = omega arith in
        record_in q (j % 20) last (rw y (omega arith)))
        (λ (z : q < m). record_in q (j % 20) last (rw (full q z) (omega arith)))
        (le_or_lt m q)

    pub few_doses : doses_of p b ≤ 1280
    unfolding doses_of more_of
    few_doses =
        let m = (first_facts (λ i. not (is_continuation p (b + 1 + i))) 63).within in
        omega (arith, count_in (more_of p b) (omega arith))

-- what that says of a dose's amounts
pub amounts_in : (x : Dose) → field_out x ≡ false → (x.low ≤ 9999999999) × (x.high ≤ 9999999999)
amounts_in x e =
    let a = or_neither _ (ltb 9999999999 x.high) e in
    let b = or_neither (ltb 5 x.kind || ltb 1 x.mark || ltb (cond (eqb x.kind 5) 1439 0) x.minute) (ltb 9999999999 x.low) a.0 in
    (ltb-false _ _ b.1, ltb-false _ _ a.1)
