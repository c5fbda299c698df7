-- Bytes that break none of rules 1 to 4 are what is laid out for the head and the periods that are read from them. Assumes
-- nothing.
use Rattle.std.specs.Prelude.{Ok}
use Prim.Native.Nat.{ℕ, zero, suc, ◌+◌, ◌-◌, ◌*◌, ◌≤◌, ◌<◌}
use mathlib.Core.Bool.{true, false, not, ◌&&◌, ◌||◌}
use mathlib.Core.List.{List, [], ◌∷◌, ◌++◌, append_assoc}
use mathlib.Core.Logic.{◌⊎◌, inl, inr, ⊎_elim}
use mathlib.Core.Path.{◌≡◌, sym, ap, ◌∙◌}
use native.Mathlib.Nat.{le_refl}
use native.Mathlib.Omega.{arith}
use lib.Dec.{eqb}
use lib.ListN.{length, drop, length-append, length-drop, drop_of_length-le}
use borrow.Author.Tests.{eqb-true, not-false, ne_eqb}
use Rattle.below.proofs.Lists.{join_zero, join_split, join_same, over_append, over_list, over_nil}
use Rattle.below.proofs.Tests.{true_not_false, and_both, or_either, or_neither, le_or_lt}
use Rattle.below.specs.Lists.{list_below, join_below, join_over}
use Rattle.block.proofs.Numbers.{AreBytes}
use Rattle.block.proofs.Sealing.{length_sealed}
use Rattle.block.specs.Sums.{sealed}
use Rattle.form.proofs.Formed.{Formed, formed, summed, placed, ranged, head, head_no_period}
use Rattle.form.proofs.Laws.{length_block}
use Rattle.form.specs.Form.{goes_on, misplaced, head_out, block_out, form_of}
use Rattle.plan.specs.Fields.{kind_of, count_of}
use Rattle.plan.specs.Periods.{blocks_of, block_at, is_period, is_continuation}
use Rattle.layout.specs.Layout.{Written, head_bytes, period_block, body_of, laid_out}
use Rattle.layout.specs.Reading.{head_of, period_at, periods_of}
use Rattle.layout.proofs.Back.{found_at, one_found}
use Rattle.layout.proofs.Blocks.{length_head, length_laid, blocks_laid}
use Rattle.layout.proofs.Fitting.{block_bytes, period_fits}
use Rattle.layout.proofs.PeriodAgain.{whole_plan, few_blocks, last_in, size_is, stands_again}
use Rattle.layout.proofs.Rebuild.{cut, head_again}
use Rattle.layout.proofs.Standing.{size_of}

-- a block, and the bytes behind it
pub block_rest : (p : List ℕ) (b : ℕ) → block_at p b ++ drop (b * 512 + 512) p ≡ drop (b * 512) p
unfolding block_at
block_rest p b = sym (cut p (b * 512) 512)

-- block by block, bytes are put together again
pub blocks_rest : (p : List ℕ) (b n : ℕ) → join_below n (λ i. block_at p (b + i)) ++ drop ((b + n) * 512) p ≡ drop (b * 512) p
unfolding join_below
blocks_rest p b zero = let e : b + 0 ≡ b = omega arith in rw e
blocks_rest p b (suc n) =
    let e : (b + suc n) * 512 ≡ (b + n) * 512 + 512 = omega arith in
    let ahead = join_below n (λ i. block_at p (b + i)) in
    append_assoc ahead (block_at p (b + n)) (drop ((b + suc n) * 512) p) ∙
    ap (λ (t : List ℕ). ahead ++ t) (ap (λ (a : ℕ). block_at p (b + n) ++ drop a p) e ∙ block_rest p (b + n)) ∙
    blocks_rest p b n

-- the bytes of a period's blocks, and of those behind it
body_more : (v : Written) (vs : List Written) → join_over sealed (body_of (v ∷ vs)) ≡ join_below (size_of v) (λ i. sealed (period_block v i)) ++ join_over sealed (body_of vs)
unfolding body_of join_over
body_more v vs =
    over_append sealed (list_below (size_of v) (period_block v)) _ ∙
    rw (over_list sealed (size_of v) (period_block v))

module _ {limit : ℕ} {p : List ℕ} (bytes : AreBytes p) (small : limit ≤ 32768) (f : Formed limit p) where
  some : 0 < blocks_of p
  some = (whole_plan bytes small f).some

  -- rule 3 of a later block: a period begins there, or a continuation that a full block stands ahead of
  later : (b : ℕ) → 0 < b → b < blocks_of p → (is_period p b ≡ true) ⊎ ((is_continuation p b ≡ true) × (goes_on p (b - 1) ≡ true))
  unfolding misplaced
  later b pos l =
      let n : b ≡ 0 → ⊥ = λ e. omega arith in
      let x : not (is_period p b || (is_continuation p b && goes_on p (b - 1))) ≡ false = rw (ne_eqb b 0 n) at (placed f b l) in
      ⊎_elim
      (λ (u : is_period p b ≡ true). inl u)
      (λ u. inr (and_both (is_continuation p b) (goes_on p (b - 1)) u))
      (or_either (is_period p b) (is_continuation p b && goes_on p (b - 1)) (not-false _ x))

  -- so what is no continuation begins a period
  begins_period : (b : ℕ) → 0 < b → b < blocks_of p → is_continuation p b ≡ false → is_period p b ≡ true
  begins_period b pos l e =
      ⊎_elim (λ (u : is_period p b ≡ true). u) (λ u. absurd (true_not_false u.0 e)) (later b pos l)

  -- behind the head stands no continuation, since a head is no block of doses; nor past the end, where kinds read as 0
  past : (b : ℕ) → blocks_of p ≤ b → is_continuation p b ≡ false
  unfolding block_at
  past b l =
      let h : length p ≤ b * 512 = omega (arith, (whole_plan bytes small f).whole) in
      rw (drop_of_length-le p h)

  head_alone : goes_on p 0 ≡ false
  head_alone = rw (head f some)

  first_no : is_continuation p 1 ≡ false
  first_no =
      ⊎_elim
      (λ (h : blocks_of p ≤ 1). past 1 h)
      (λ (h : 1 < blocks_of p).
      ⊎_elim
      (λ (u : is_period p 1 ≡ true). let k : kind_of (block_at p 1) ≡ 2 = eqb-true _ _ u in rw k)
      (λ u. absurd (true_not_false u.1 head_alone))
      (later 1 (omega arith) h))
      (le_or_lt (blocks_of p) 1)

  -- the periods that are read in the last k blocks are laid out as those
  none_left : (k b : ℕ) → k ≤ 0 → b + k ≡ blocks_of p → join_over sealed (body_of (join_below k (λ i. found_at p (b + i)))) ≡ drop (b * 512) p
  unfolding body_of
  none_left k b h e =
      let z : k ≡ 0 = omega arith in
      let g : length p ≤ b * 512 = omega (arith, (whole_plan bytes small f).whole) in
      rw (z, join_zero (λ i. found_at p (b + i)), drop_of_length-le p g, over_nil _) (over_nil sealed)

  -- .. a period at block b, and then those behind it
  module _ (b : ℕ) (pos : 0 < b) (l : b < blocks_of p) (t : is_period p b ≡ true) (k : ℕ) (e : b + k ≡ blocks_of p) where
    abbrev size : ℕ
    size = size_of (period_at p b)

    fits : (size ≤ k) × (size ≤ 63)
    fits = omega (arith, size_is bytes small f b pos l t, last_in bytes small f b pos l t, few_blocks bytes small f)

    -- what is read in those blocks
    found_more : join_below k (λ i. found_at p (b + i)) ≡ period_at p b ∷ join_below (k - size) (λ i. found_at p (b + size + i))
    found_more =
        let s = size_of (period_at p b) in
        let q : k ≡ s + (k - s) = omega (arith, fits.0) in
        ap (λ (n : ℕ). join_below n (λ i. found_at p (b + i))) q ∙
        join_split s (k - s) (λ i. found_at p (b + i)) ∙
        rw (
          one_found (period_fits p bytes b) fits.1 (stands_again bytes small f b pos l t),
          join_same (k - s) (λ i. found_at p (b + (s + i))) (λ i. found_at p (b + s + i)) (λ i h. let z : b + (s + i) ≡ b + s + i = omega arith in rw z),
        )

    rest_more : join_over sealed (body_of (join_below (k - size) (λ i. found_at p (b + size + i)))) ≡ drop ((b + size) * 512) p →
        join_over sealed (body_of (join_below k (λ i. found_at p (b + i)))) ≡ drop (b * 512) p
    rest_more rest =
        ap (λ (vs : List Written). join_over sealed (body_of vs)) found_more ∙
        body_more (period_at p b) (join_below (k - size) (λ i. found_at p (b + size + i))) ∙
        rw (rest, join_same size (λ i. sealed (period_block (period_at p b) i)) (λ i. block_at p (b + i)) (λ i h. sym ((stands_again bytes small f b pos l t).block i h)))
        (blocks_rest p b size)

  -- so all periods from block b on are laid out as the blocks there; n bounds the recursion
  laid_rest : (n k b : ℕ) → k ≤ n → 0 < b → b + k ≡ blocks_of p → is_continuation p b ≡ false → join_over sealed (body_of (join_below k (λ i. found_at p (b + i)))) ≡ drop (b * 512) p
  laid_rest zero k b h pos e c = none_left k b h e
  laid_rest (suc n) k b h pos e c =
      ⊎_elim
      (λ (z : k ≤ 0). none_left k b z e)
      (λ (z : 0 < k).
      let l : b < blocks_of p = omega arith in
      let t = begins_period b pos l c in
      let s = size b pos l t k e in
      let q = fits b pos l t k e in
      rest_more b pos l t k e
      (laid_rest n (k - s) (b + s) (omega (arith, q.0)) (omega arith) (omega (arith, q.0)) (stands_again bytes small f b pos l t).behind))
      (le_or_lt k 0)

  -- the blocks behind the head are laid out as they were, and then the head
  rest_again : join_over sealed (body_of (periods_of p)) ≡ drop 512 p
  unfolding periods_of join_below
  rest_again =
      let n = blocks_of p - 1 in
      let e : blocks_of p ≡ 1 + n = omega (arith, some) in
      let first : join_below 1 (found_at p) ≡ [] = rw (head_no_period f some) in
      ap (λ (vs : List Written). join_over sealed (body_of vs))
      (ap (λ (m : ℕ). join_below m (found_at p)) e ∙ join_split 1 n (found_at p) ∙ rw first) ∙
      laid_rest n n 1 (le_refl n) (omega arith) (sym e) first_no

  laid_is : laid_out (head_of p) (periods_of p) ≡ sealed (head_bytes (head_of p) (length (body_of (periods_of p)))) ++ drop 512 p
  unfolding laid_out join_over
  laid_is = ap (λ (t : List ℕ). sealed (head_bytes (head_of p) (length (body_of (periods_of p)))) ++ t) rest_again

  -- the head counts the blocks behind it
  count_again : length (body_of (periods_of p)) ≡ count_of (block_at p 0)
  unfolding misplaced
  count_again =
      let h = head_of p in
      let n = length (body_of (periods_of p)) in
      let c : count_of (block_at p 0) + 1 ≡ blocks_of p =
      eqb-true _ _ (not-false _ (or_neither (not (eqb (kind_of (block_at p 0)) 1)) (not (eqb (count_of (block_at p 0) + 1) (blocks_of p))) (placed f 0 some)).1) in
      let x = length_laid h (periods_of p) in
      let y : length (laid_out h (periods_of p)) ≡ 512 + length (drop 512 p) =
      ap length laid_is ∙ length-append (sealed (head_bytes h n)) (drop 512 p) ∙ rw (length_sealed (head_bytes h n) (length_head h n)) in
      omega (arith, length-drop 512 p, (whole_plan bytes small f).whole, some)

  head_block : sealed (head_bytes (head_of p) (length (body_of (periods_of p)))) ≡ block_at p 0
  unfolding head_of block_out
  head_block =
      let k = head f some in
      let o : head_out (block_at p 0) ≡ false = rw k at (ranged f 0 some) in
      rw count_again
      (head_again (block_at p 0) (length_block (whole_plan bytes small f) 0 some) (block_bytes p bytes 0) (summed f 0 some) k o)

  formed_again : laid_out (head_of p) (periods_of p) ≡ p
  formed_again = laid_is ∙ ap (λ (t : List ℕ). t ++ drop 512 p) head_block ∙ block_rest p 0

-- laying out is the inverse of reading
pub laid_again : (limit : ℕ) (p : List ℕ) → limit ≤ 32768 → AreBytes p → form_of limit p ≡ Ok tt → laid_out (head_of p) (periods_of p) ≡ p
laid_again limit p small bytes e = formed_again bytes small (formed limit p e)

-- so the blocks of the periods that are read are those behind the head
pub body_again : (limit : ℕ) (p : List ℕ) → limit ≤ 32768 → AreBytes p → form_of limit p ≡ Ok tt → blocks_of p ≡ 1 + length (body_of (periods_of p))
body_again limit p small bytes e =
    ap blocks_of (sym (laid_again limit p small bytes e)) ∙ blocks_laid (head_of p) (periods_of p)
