-- A period of bytes that break none of rules 1 to 4 stands there as it is laid out. Assumes nothing.
use Prim.Native.Nat.{ℕ, zero, suc, ◌+◌, ◌*◌, ◌≤◌, ◌<◌}
use mathlib.Core.Bool.{true, false, not, ◌||◌}
use mathlib.Core.List.{List, ◌++◌}
use mathlib.Core.Logic.{◌⊎◌, inl, inr, ⊎_elim}
use mathlib.Core.Path.{◌≡◌, refl, sym, ◌∙◌}
use native.Mathlib.Nat.{le_refl}
use native.Mathlib.Omega.{arith}
use lib.Dec.{eqb}
use lib.ListN.{length, take, drop, length-drop}
use lib.Seq.{take_all}
use borrow.Author.Tests.{eqb-true, eqb-false, not-true}
use Rattle.below.proofs.Lists.{length_list, list_same, part_list}
use Rattle.below.proofs.Search.{first_facts}
use Rattle.below.proofs.Tests.{or_neither, le_or_lt}
use Rattle.below.specs.Lists.{list_below}
use Rattle.block.proofs.Numbers.{AreBytes}
use Rattle.block.specs.Sums.{sealed}
use Rattle.form.proofs.Formed.{Formed, summed, ranged}
use Rattle.form.proofs.Laws.{whole, short, length_block}
use Rattle.form.proofs.Ranged.{goes, inside, doses_in_lem, full, count_in}
use Rattle.form.specs.Form.{days_out, not_zero, doses_out, period_out, continuation_out, block_out}
use Rattle.form.specs.Code.Whole.{Whole}
use Rattle.plan.proofs.Marks.{at_place}
use Rattle.plan.specs.Fields.{kind_of, count_of, record_at, dose_of}
use Rattle.plan.specs.Periods.{blocks_of, block_at, is_period, is_continuation, more_of, doses_of, dose_in}
use Rattle.plan.specs.declared.Dose.{Dose}
use Rattle.layout.specs.Layout.{doses_here, period_block}
use Rattle.layout.specs.Reading.{header_at, doses_at, period_at}
use Rattle.layout.proofs.Blocks.{start_at, period_is, start_first, start_next, length_start}
use Rattle.layout.proofs.Fitting.{block_bytes}
use Rattle.layout.proofs.Rebuild.{doses_in, period_start_lem, continuation_start_lem, doses_block}
use Rattle.layout.proofs.Standing.{size_of, Stands}

-- the doses of one block of a period, out of all: 20, or the last ones
here_is : (D a c : ℕ) (g : ℕ → Dose) → a + c ≤ D → (c ≡ 20) ⊎ ((a + c ≡ D) × (c ≤ 20)) → take 20 (drop a (list_below D g)) ≡ list_below c (λ k. g (a + k))
here_is D a c g h t =
    ⊎_elim
    (λ (e : c ≡ 20). rw (← e) (part_list D a c g h))
    (λ e.
    let n : length (drop a (list_below D g)) ≡ c = rw (length-drop, length_list D g) (omega (arith, e.0)) in
    take_all 20 (drop a (list_below D g)) (omega (arith, e.1)) ∙
    sym (take_all c (drop a (list_below D g)) (omega arith)) ∙
    part_list D a c g h)
    t

module _ {limit : ℕ} {p : List ℕ} (bytes : AreBytes p) (small : limit ≤ 32768) (f : Formed limit p) where
  pub small_limit : limit < 65536
  small_limit = omega arith

  pub whole_plan : Whole p
  whole_plan = whole limit p small_limit f.long

  pub few_blocks : blocks_of p ≤ 64
  few_blocks = omega (arith, short limit p f.long)

  -- the period at block b
  module _ (b : ℕ) (pos : 0 < b) (l : b < blocks_of p) (t : is_period p b ≡ true) where
    doses_are : doses_of p b ≡ more_of p b * 20 + count_of (block_at p (b + more_of p b))
    unfolding doses_of
    doses_are = refl

    pub last_in : b + more_of p b < blocks_of p
    last_in = inside small_limit f b l t (more_of p b) (le_refl (more_of p b))

    length_doses_at : length (doses_at p b) ≡ doses_of p b
    unfolding doses_at
    length_doses_at = length_list (doses_of p b) (dose_in p b)

    -- the doses that its block i holds
    doses_here_lem : (i : ℕ) → i ≤ more_of p b → doses_here i (doses_at p b) ≡ doses_in (block_at p (b + i))
    unfolding doses_at
    doses_here_lem i h =
        let c = count_of (block_at p (b + i)) in
        let most : c ≤ 20 = count_in small_limit f b l t i h in
        let D = doses_of p b in
        let held : (i * 20 + c ≤ D) × ((c ≡ 20) ⊎ ((i * 20 + c ≡ D) × (c ≤ 20))) =
        ⊎_elim
        (λ (q : more_of p b ≤ i).
        let e : i ≡ more_of p b = omega arith in
        let d : i * 20 + c ≡ D = rw e (sym doses_are) in
        (omega arith, inr (d, most)))
        (λ (q : i < more_of p b).
        let e : c ≡ 20 = full small_limit f b l t i q in
        (omega (arith, doses_are), inl e))
        (le_or_lt (more_of p b) i) in
        here_is D (i * 20) c (dose_in p b) held.0 held.1 ∙
        list_same c (λ k. dose_in p b (i * 20 + k)) (λ k. dose_of (record_at (block_at p (b + i)) k)) (λ k q. at_place p b i k (omega arith))

    -- what rule 4 says of its blocks ahead of their doses
    first_zeros : not_zero (block_at p b) 12 24 ≡ false
    unfolding block_out period_out
    first_zeros =
        let r = block_at p b in
        let k : kind_of r ≡ 2 = eqb-true _ _ t in
        let o : period_out r ≡ false = rw k at (ranged f b l) in
        (or_neither (days_out r) (not_zero r 12 24) (or_neither (days_out r || not_zero r 12 24) (doses_out r) o).0).1

    next_kind : (i : ℕ) → i < more_of p b → kind_of (block_at p (b + suc i)) ≡ 3
    next_kind i h =
        let e : b + suc i ≡ b + 1 + i = omega arith in
        rw e (eqb-true _ _ (goes small_limit f b l t i h))

    next_zeros : (i : ℕ) → i < more_of p b → (eqb (count_of (block_at p (b + suc i))) 0 ≡ false) × (not_zero (block_at p (b + suc i)) 2 24 ≡ false)
    unfolding block_out continuation_out
    next_zeros i h =
        let r = block_at p (b + suc i) in
        let o : continuation_out r ≡ false = rw (next_kind i h) at (ranged f (b + suc i) (inside small_limit f b l t (suc i) h)) in
        or_neither (eqb (count_of r) 0) (not_zero r 2 24) (or_neither (eqb (count_of r) 0 || not_zero r 2 24) (doses_out r) o).0

    -- its last block holds a dose, where it is not its first
    last_some : (m : ℕ) → m ≡ more_of p b → 0 < m → 0 < count_of (block_at p (b + m))
    last_some zero e h = absurd (omega arith)
    last_some (suc i) e h =
        let n = eqb-false (count_of (block_at p (b + suc i))) 0 (next_zeros i (omega arith)).0 in
        omega (arith, n)

    pub size_is : size_of (period_at p b) ≡ 1 + more_of p b
    size_is =
        let m = more_of p b in
        let c = count_in small_limit f b l t m (le_refl m) in
        ⊎_elim
        (λ (h : m ≤ 0). omega (arith, length_doses_at, doses_are, c))
        (λ (h : 0 < m). omega (arith, length_doses_at, doses_are, c, last_some m refl h))
        (le_or_lt m 0)

    -- each of its blocks is the one that is laid out
    starts : (i : ℕ) → i ≤ more_of p b → block_at p (b + i) ≡ start_at (period_at p b) i ++ drop 24 (block_at p (b + i))
    unfolding header_at
    starts zero h =
        let e : b + 0 ≡ b = omega arith in
        let c : length (doses_here 0 (doses_at p b)) ≡ count_of (block_at p b) = rw (doses_here_lem 0 h, e) (length_list _ _) in
        rw (e, start_first (period_at p b), c)
        (period_start_lem (block_at p b) (length_block whole_plan b l) (block_bytes p bytes b) (eqb-true _ _ t) first_zeros)
    starts (suc i) h =
        let r = block_at p (b + suc i) in
        let c : length (doses_here (suc i) (doses_at p b)) ≡ count_of r = rw (doses_here_lem (suc i) h) (length_list _ _) in
        rw (start_next (period_at p b) i, c)
        (continuation_start_lem r (length_block whole_plan (b + suc i) (inside small_limit f b l t (suc i) h)) (block_bytes p bytes (b + suc i)) (next_kind i h) (next_zeros i h).1)

    block_again : (i : ℕ) → i ≤ more_of p b → sealed (period_block (period_at p b) i) ≡ block_at p (b + i)
    block_again i h =
        let r = block_at p (b + i) in
        let here = inside small_limit f b l t i h in
        rw (period_is (period_at p b) i, doses_here_lem i h)
        (doses_block r (length_block whole_plan (b + i) here) (block_bytes p bytes (b + i)) (doses_in_lem small_limit f b l t i h) (summed f (b + i) here) (start_at (period_at p b) i) (length_start (period_at p b) i) (starts i h))

    ends : is_continuation p (b + 1 + more_of p b) ≡ false
    unfolding more_of
    ends =
        not-true _
        ((first_facts (λ i. not (is_continuation p (b + 1 + i))) 63).here
        (omega (arith, last_in, few_blocks)))

    pub stands_again : Stands p b (period_at p b)
    stands_again =
        record {
          block = λ i h. sym (block_again i (omega (arith, size_is)));
          behind = let e : b + size_of (period_at p b) ≡ b + 1 + more_of p b = omega (arith, size_is) in rw e ends;
        }
