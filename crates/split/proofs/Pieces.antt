-- How many empty periods share days with a run: at most one that begins before the run, and those that begin in it. Assumes
-- nothing.
use Prim.Native.Nat.{ℕ, ◌+◌, ◌≤◌, ◌<◌}
use mathlib.Core.Bool.{Bool, true, false, cond, ◌&&◌}
use mathlib.Core.List.{List, [], ◌∷◌}
use mathlib.Core.Logic.{⊎_elim}
use mathlib.Core.Path.{◌≡◌, refl, ◌∙◌}
use native.Mathlib.Omega.{arith}
use lib.Dec.{leb, ltb}
use borrow.Author.Tests.{leb-true, le-leb, lt-leb, ltb-true, lt-ltb, le-ltb}
use Rattle.below.proofs.Lists.{sum_join}
use Rattle.below.proofs.Tests.{and_both, le_or_lt}
use Rattle.below.proofs.Total.{sum_same, sum_both}
use Rattle.below.specs.Below.{sum_below}
use Rattle.below.specs.Lists.{sum_over}
use Rattle.layout.proofs.Standing.{size_of}
use Rattle.layout.specs.Layout.{Written}
use Rattle.plan.specs.Fields.{first_of, last_of}
use Rattle.plan.specs.Periods.{blocks_of, block_at}
use Rattle.split.specs.Parts.{shares_run, shared, shared_in}
use Rattle.split.proofs.Kept.{Kept}
use Rattle.split.proofs.Standing.{is_blank, blank_apart}
use Rattle.split.proofs.Totals.{tally, tally_le, sum_mono, sum_one}

-- the blocks of a period that may be there
pub maybe_sum : (t : Bool) (w : Written) → sum_over size_of (cond t (w ∷ []) []) ≡ cond t (size_of w) 0
unfolding sum_over
maybe_sum true w = omega arith
maybe_sum false w = refl

-- each piece is a block
pieces_sum : (p : List ℕ) (lo hi : ℕ) → sum_over size_of (shared_in p lo hi) ≡ sum_below (blocks_of p) (λ e. tally (shares_run p lo hi e))
unfolding shared_in
pieces_sum p lo hi =
    sum_join size_of (blocks_of p) (λ e. cond (shares_run p lo hi e) (shared p lo hi e ∷ []) []) ∙
    sum_same _ _ (blocks_of p) (λ e l. maybe_sum (shares_run p lo hi e) (shared p lo hi e))

-- the empty period at block e begins before day x
abbrev pub begins_by : List ℕ → ℕ → ℕ → Bool
begins_by p x e = is_blank p e && ltb (first_of (block_at p e)) x

-- how many do
unfoldable pub blanks_by : List ℕ → ℕ → ℕ
blanks_by p x = sum_below (blocks_of p) (λ e. tally (begins_by p x e))

-- .. and has day x too
abbrev lasts_to : List ℕ → ℕ → ℕ → Bool
lasts_to p x e = is_blank p e && (ltb (first_of (block_at p e)) x && leb x (last_of (block_at p e)))

-- an empty period from f to l
by_days : (t : Bool) (f l lo hi : ℕ) → lo ≤ hi →
    tally (t && (leb f hi && leb lo l)) + tally (t && ltb f lo) ≤ tally (t && ltb f (hi + 1)) + tally (t && (ltb f lo && leb lo l))
by_days false f l lo hi h = omega arith
by_days true f l lo hi h =
    ⊎_elim
    (λ (q : lo ≤ f).
    ⊎_elim
    (λ (r : f ≤ hi). rw (le-ltb f lo q, le-leb f hi r, lt-ltb f (hi + 1) (omega arith)) (omega (arith, tally_le (leb lo l))))
    (λ (r : hi < f). rw (le-ltb f lo q, lt-leb f hi r) (omega arith))
    (le_or_lt f hi))
    (λ (q : f < lo). rw (lt-ltb f lo q, le-leb f hi (omega arith), lt-ltb f (hi + 1) (omega arith)) (omega arith))
    (le_or_lt lo f)

blanks_mono : (p : List ℕ) (x y : ℕ) → x ≤ y → blanks_by p x ≤ blanks_by p y
unfolding blanks_by
blanks_mono p x y h =
    sum_mono _ _ (blocks_of p) (λ e l. one (is_blank p e) (first_of (block_at p e)))
  where
    one : (t : Bool) (f : ℕ) → tally (t && ltb f x) ≤ tally (t && ltb f y)
    one false f = omega arith
    one true f =
        ⊎_elim
        (λ (q : x ≤ f). rw (le-ltb f x q) (omega arith))
        (λ (q : f < x). rw (lt-ltb f x q, lt-ltb f y (omega arith)) (omega arith))
        (le_or_lt x f)

module _ {p : List ℕ} (k : Kept p) where
  -- two empty periods have no day in common
  one_lasts : (x : ℕ) → sum_below (blocks_of p) (λ e. tally (lasts_to p x e)) ≤ 1
  one_lasts x =
      sum_one (lasts_to p x) (blocks_of p)
      (λ i j l q s t.
      let a = and_both (is_blank p i) _ s in
      let b = and_both (is_blank p j) _ t in
      let y = and_both (ltb (first_of (block_at p i)) x) _ a.1 in
      let z = and_both (ltb (first_of (block_at p j)) x) _ b.1 in
      let d : x ≤ last_of (block_at p i) = leb-true _ _ y.1 in
      let f : first_of (block_at p j) < x = ltb-true _ _ z.0 in
      omega (arith, blank_apart k i j l q a.0 b.0))

  -- so, term by term, those that share days with the run and those that begin before it are at most one more than those that
  -- begin by its end
  pub pieces_few : (lo hi x : ℕ) → lo ≤ hi → hi < x → sum_over size_of (shared_in p lo hi) + blanks_by p lo ≤ 1 + blanks_by p x
  unfolding blanks_by
  pieces_few lo hi x h q =
      omega (
        arith,
        pieces_sum p lo hi,
        sum_both (λ e. tally (shares_run p lo hi e)) (λ e. tally (begins_by p lo e)) (blocks_of p),
        sum_both (λ e. tally (begins_by p (hi + 1) e)) (λ e. tally (lasts_to p lo e)) (blocks_of p),
        sum_mono _ _ (blocks_of p) (λ e l. by_days (is_blank p e) (first_of (block_at p e)) (last_of (block_at p e)) lo hi h),
        one_lasts lo,
        blanks_mono p (hi + 1) x (omega arith),
      )
