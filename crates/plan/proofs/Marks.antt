-- The marks of a period's doses, block by block. Assumes nothing.
use Prim.Native.Nat.{ℕ, zero, suc, ◌+◌, ◌-◌, ◌*◌, ◌/◌, ◌%◌, ◌≤◌, ◌<◌, min}
use mathlib.Core.Bool.{Bool, false, ◌||◌}
use mathlib.Core.List.{List}
use mathlib.Core.Path.{◌≡◌, sym}
use native.Mathlib.Omega.{arith}
use lib.ListN.{length, drop, length-drop}
use lib.Seq.{length-take-le}
use Rattle.below.proofs.Search.{any_zero, any_more, any_same}
use Rattle.below.specs.Below.{any_below}
use Rattle.below.proofs.Tests.{or_false, or_assoc}
use Rattle.plan.specs.Fields.{record_at, dose_of}
use Rattle.plan.specs.Periods.{block_at, dose_in}

-- a block that the plan has whole
pub whole_block : (p : List ℕ) (c : ℕ) → (c + 1) * 512 ≤ length p → length (block_at p c) ≡ 512
unfolding block_at
whole_block p c h = length-take-le 512 (drop (c * 512) p) (rw length-drop (omega arith))

-- dose k of a period's block i
pub at_place : (p : List ℕ) (b i k : ℕ) → k < 20 → dose_in p b (i * 20 + k) ≡ dose_of (record_at (block_at p (b + i)) k)
unfolding dose_in
at_place p b i k q =
    let x : (i * 20 + k) / 20 ≡ i = omega arith in
    let y : (i * 20 + k) % 20 ≡ k = omega arith in
    rw (x, y)

-- some of the first a, or some of the m behind them
pub any_split : (q : ℕ → Bool) (a m : ℕ) → any_below (a + m) q ≡ (any_below a q || any_below m (λ k. q (a + k)))
any_split q a zero = let e : a + 0 ≡ a = omega arith in rw (e, any_zero (λ k. q (a + k))) (sym (or_false (any_below a q)))
any_split q a (suc m) =
    let e : a + suc m ≡ a + m + 1 = omega arith in
    let f : suc m ≡ m + 1 = omega arith in
    rw (e, f, any_more q (a + m), any_more (λ k. q (a + k)) m, any_split q a m) (or_assoc (any_below a q) (any_below m (λ k. q (a + k))) (q (a + m)))

-- the doses of block i, with those of the blocks ahead
pub any_block : (q f : ℕ → Bool) (n i : ℕ) → i * 20 < n → ((k : ℕ) → k < 20 → q (i * 20 + k) ≡ f k) →
    any_below (min ((i + 1) * 20) n) q ≡ (any_below (min (i * 20) n) q || any_below (min 20 (n - i * 20)) f)
any_block q f n i l same =
    let m = min 20 (n - i * 20) in
    let a : min (i * 20) n ≡ i * 20 = omega arith in
    let e : min ((i + 1) * 20) n ≡ i * 20 + m = omega arith in
    rw (a, e, ← (any_same (λ k. q (i * 20 + k)) f m (λ k h. same k (omega arith)))) (any_split q (i * 20) m)

-- a test, and whether some of the first i have it: one more
pub or_more : (t : Bool) (q : ℕ → Bool) (i : ℕ) → (t || any_below (i + 1) q) ≡ ((t || any_below i q) || q i)
or_more t q i = rw (any_more q i) (sym (or_assoc t (any_below i q) (q i)))

pub or_none : (t : Bool) (q : ℕ → Bool) → (t || any_below 0 q) ≡ t
or_none t q = rw (any_zero q) (or_false t)

-- ahead of all blocks
pub any_start : (q : ℕ → Bool) (n : ℕ) → false ≡ any_below (min (0 * 20) n) q
any_start q n = let e : min (0 * 20) n ≡ 0 = omega arith in rw e (sym (any_zero q))
