-- What is shown, as bytes: whole blocks, from which the period and its doses are read as from the part. Assumes nothing.
use Prim.Native.Nat.{ℕ, zero, suc, ◌+◌, ◌-◌, ◌*◌, ◌/◌, ◌≤◌, ◌<◌}
use mathlib.Core.Bool.{Bool, true, false, not}
use mathlib.Core.List.{List, [], ◌∷◌}
use mathlib.Core.Path.{◌≡◌, refl, sym, ◌∙◌}
use native.Mathlib.Nat.{suc-add, le_refl}
use native.Mathlib.Omega.{arith}
use lib.ListN.{length, take, drop, length-drop, drop_of_length-le}
use lib.Seq.{length-take-le, take-nil, take-take, drop-drop}
use borrow.Author.Tests.{ne_eqb}
use Rattle.plan.specs.Fields.{header_of}
use Rattle.below.specs.Lists.{pick_below}
use Rattle.below.proofs.Search.{first_unique, first_le}
use Rattle.below.proofs.Tests.{and_both}
use Rattle.plan.specs.Periods.{blocks_of, block_at, is_period, is_continuation, more_of, doses_of, dose_in}
use Rattle.form.proofs.Formed.{formed}
use Rattle.form.proofs.Ranged.{count_in}
use Rattle.doses.specs.Doses.{covers, position_of, applies, doses_of_period}
use Rattle.showing.specs.Showing.{part_limit, shown_in, wanted, stretch_of, shown}
use Rattle.showing.proofs.Stretches.{IsShown, shown_inside, shown_empty}

-- a part's part
drop_take : (k n : ℕ) (l : List ℕ) → drop k (take (k + n) l) ≡ take n (drop k l)
drop_take zero n l = let e : 0 + n ≡ n = omega arith in rw e
drop_take (suc k) n [] = rw (suc-add k n) (sym (take-nil n))
drop_take (suc k) n (x ∷ xs) = rw (suc-add k n) (drop_take k n xs)

part_part : (k m n a : ℕ) (l : List ℕ) → k + m ≤ n → take m (drop k (take n (drop a l))) ≡ take m (drop (a + k) l)
part_part k m n a l h =
    let e : n ≡ k + (n - k) = omega arith in
    let f : take n (drop a l) ≡ take (k + (n - k)) (drop a l) = rw (← e) in
    rw (f, drop_take k (n - k) (drop a l), take-take m (n - k) (drop k (drop a l)) (omega arith), drop-drop k a l)

module _ {A : Type 0} where
  pick_same : (n : ℕ) (p q : ℕ → Bool) (f g : ℕ → A) → ((i : ℕ) → i < n → p i ≡ q i) → ((i : ℕ) → i < n → f i ≡ g i) →
      pick_below n p f ≡ pick_below n q g
  unfolding pick_below
  pick_same zero p q f g h k = refl
  pick_same (suc n) p q f g h k =
      rw (pick_same n p q f g (λ i l. h i (omega arith)) (λ i l. k i (omega arith)), h n (omega arith), k n (omega arith))

module _ (fixed need : List ℕ) (list day : ℕ) where
  -- as many bytes as the stretch has
  pub length_shown : length (shown fixed need list day) ≡ (stretch_of fixed need list day).length
  unfolding shown stretch_of
  length_shown =
      let part = wanted fixed need list in
      length-take-le (shown_in part day).length (drop (shown_in part day).at part)
      (rw length-drop (omega (arith, shown_inside part day)))

  -- the stretch lies inside the part wanted
  pub stretch_inside : (stretch_of fixed need list day).at + (stretch_of fixed need list day).length ≤ length (wanted fixed need list)
  unfolding stretch_of
  stretch_inside = shown_inside (wanted fixed need list) day

  -- "An empty stretch comes for another list number"
  pub shown_other : (list ≡ 1 → ⊥) → (list ≡ 2 → ⊥) → shown fixed need list day ≡ []
  unfolding shown stretch_of
  shown_other m n = rw (ne_eqb list 1 m, ne_eqb list 2 n, shown_empty day)

  -- what is shown, where the stretch is the n blocks from block b
  module _ {b n : ℕ} (s : IsShown (wanted fixed need list) day b n) where
    -- block i of what is shown is block b + i of the part
    pub block_shown : (i : ℕ) → i < n → block_at (shown fixed need list day) i ≡ block_at (wanted fixed need list) (b + i)
    unfolding shown stretch_of block_at
    block_shown i l =
        let p = wanted fixed need list in
        let e : (shown_in p day).at + i * 512 ≡ (b + i) * 512 = omega (arith, s.begins) in
        part_part (i * 512) 512 (shown_in p day).length (shown_in p day).at p (omega (arith, s.long)) ∙ rw e

    first_shown : block_at (shown fixed need list day) 0 ≡ block_at (wanted fixed need list) b
    first_shown = let e : b + 0 ≡ b = omega arith in rw e at (block_shown 0 (omega (arith, s.counted)))

    -- and there is none behind
    pub blocks_shown_lem : blocks_of (shown fixed need list day) ≡ n
    unfolding stretch_of
    blocks_shown_lem = omega (arith, length_shown, s.long)

    behind_shown : (i : ℕ) → n ≤ i → is_continuation (shown fixed need list day) i ≡ false
    unfolding block_at stretch_of
    behind_shown i l =
        let h : length (shown fixed need list day) ≤ i * 512 = omega (arith, length_shown, s.long) in
        rw (drop_of_length-le (shown fixed need list day) h)

    -- the first is a period that has the day
    pub covers_shown : covers (shown fixed need list day) day 0 ≡ true
    covers_shown = rw first_shown s.covering

    -- the others are its continuations
    pub continues_shown : (i : ℕ) → i + 1 < n → is_continuation (shown fixed need list day) (0 + 1 + i) ≡ true
    continues_shown i l =
        let e : 0 + 1 + i ≡ i + 1 = omega arith in
        let f : b + (i + 1) ≡ b + 1 + i = omega arith in
        rw (e, block_shown (i + 1) l, f) (s.continued i l)

    pub more_shown : more_of (shown fixed need list day) 0 ≡ more_of (wanted fixed need list) b
    unfolding more_of
    more_shown =
        first_unique (λ i. not (is_continuation (shown fixed need list day) (0 + 1 + i)))
        (record {
          within = first_le (λ i. not (is_continuation (wanted fixed need list) (b + 1 + i))) 63;
          before = λ k l. rw (continues_shown k (omega (arith, s.counted)));
          here = λ l. rw (behind_shown (0 + 1 + more_of (wanted fixed need list) b) (omega (arith, s.counted)));
        })

    -- its doses, and those of the day, read the same
    counts_shown : doses_of (shown fixed need list day) 0 ≡ doses_of (wanted fixed need list) b
    unfolding doses_of
    counts_shown =
        let m = more_of (wanted fixed need list) b in
        let e : 0 + m ≡ m = omega arith in
        rw (more_shown, e, block_shown m (omega (arith, s.counted)))

    last_block : (j : ℕ) → j < doses_of (wanted fixed need list) b → j / 20 < n
    unfolding doses_of
    last_block j l =
        let p = wanted fixed need list in
        let m = more_of p b in
        let t = (and_both (is_period p b) _ s.covering).0 in
        let c = count_in (omega arith) (formed part_limit p s.right) b (omega (arith, s.there, s.counted)) t m (le_refl m) in
        omega (arith, c, l, s.counted)

    pub dose_shown : (j : ℕ) → j < doses_of (wanted fixed need list) b → dose_in (shown fixed need list day) 0 j ≡ dose_in (wanted fixed need list) b j
    unfolding dose_in
    dose_shown j l = let e : 0 + j / 20 ≡ j / 20 = omega arith in rw (e, block_shown (j / 20) (last_block j l))

    pub doses_shown : doses_of_period (shown fixed need list day) day 0 ≡ doses_of_period (wanted fixed need list) day b
    unfolding doses_of_period
    doses_shown =
        let p = wanted fixed need list in
        rw (counts_shown, first_shown)
        (pick_same (doses_of p b)
        (λ j. applies (position_of (header_of (block_at p b)) day) (dose_in (shown fixed need list day) 0 j))
        (λ j. applies (position_of (header_of (block_at p b)) day) (dose_in p b j))
        (dose_in (shown fixed need list day) 0) (dose_in p b)
        (λ j l. rw (dose_shown j l))
        dose_shown)
