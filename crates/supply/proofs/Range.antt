-- The doses of a position stand together where day numbers do not fall: what a period needs at a position is the sum over them, and a
-- day needs what the periods that have it need. Assumes nothing.
use Prim.Native.Nat.{ℕ, zero, suc, ◌+◌, ◌-◌, ◌≤◌, ◌<◌, min}
use mathlib.Core.Bool.{true, false, cond}
use mathlib.Core.List.{List, []}
use mathlib.Core.Logic.{⊎_elim}
use mathlib.Core.Path.{◌≡◌, ◌∙◌}
use native.Mathlib.Omega.{arith}
use lib.Dec.{eqb}
use borrow.Author.Count.{below_more}
use borrow.Author.Tests.{eq-eqb, ne_eqb, eqb-true, eqb-false}
use Rattle.plan.specs.Fields.{header_of}
use Rattle.below.proofs.Tests.{bool_cases, and_false}
use Rattle.below.proofs.Total.{sum_zero, sum_more, sum_le, sum_same}
use Rattle.below.specs.Below.{sum_below}
use Rattle.below.proofs.Lists.{sum_pick, sum_join}
use Rattle.doses.specs.Doses.{covers, position_of, applies, doses_of_period, doses_on}
use Rattle.need.proofs.Chosen.{due_chosen}
use Rattle.need.specs.Need.{chosen, due_on}
use Rattle.below.specs.Lists.{sum_over}
use Rattle.plan.specs.Periods.{blocks_of, block_at, doses_of, dose_in}
use Rattle.plan.specs.declared.Dose.{Dose}
use Rattle.supply.specs.Code.Standing.{Small, From, lowest_at, need_at, need_of}

-- terms that are 0 add nothing
pub sum_flat : (f : ℕ → ℕ) (m n : ℕ) → ((k : ℕ) → m ≤ k → k < m + n → f k ≡ 0) → sum_below (m + n) f ≡ sum_below m f
sum_flat f m zero h = let e : m + 0 ≡ m = omega arith in rw e
sum_flat f m (suc n) h =
    let e : m + suc n ≡ m + n + 1 = omega arith in
    rw e (omega (arith, sum_more f (m + n), sum_flat f m n (λ k a b. h k a (omega arith)), h (m + n) (omega arith) (omega arith)))

-- a sum with no term
pub sum_none : (f : ℕ → ℕ) (n : ℕ) → ((k : ℕ) → k < n → f k ≡ 0) → sum_below n f ≡ 0
sum_none f n h = let e : 0 + n ≡ n = omega arith in rw e at (sum_flat f 0 n (λ k a b. h k (omega arith))) ∙ sum_zero f

-- which doses count at a position
module _ (x : ℕ) (d : Dose) where
  pub not_before : d.day < lowest_at x → applies x d ≡ false
  not_before h =
      ⊎_elim
      (λ (t : eqb x 1 ≡ true). absurd (let z : d.day < 0 = rw t at h in omega arith))
      (λ (t : eqb x 1 ≡ false).
      let l : d.day < x = rw t at h in
      rw (ne_eqb d.day x (λ e. omega arith), t, and_false))
      (bool_cases (eqb x 1))

  pub not_behind : x < d.day → applies x d ≡ false
  not_behind h = rw (ne_eqb d.day x (λ e. omega arith), ne_eqb d.day 0 (λ e. omega arith))

  pub does_count : lowest_at x ≤ d.day → d.day ≤ x → applies x d ≡ true
  does_count l h =
      ⊎_elim
      (λ (t : eqb d.day x ≡ true). rw t)
      (λ (t : eqb d.day x ≡ false).
      let n = eqb-false d.day x t in
      ⊎_elim
      (λ (u : eqb x 1 ≡ true).
      let e : x ≡ 1 = eqb-true _ _ u in
      let z : d.day ≡ 0 = omega (arith, n) in
      rw (t, u, eq-eqb _ _ z))
      (λ (u : eqb x 1 ≡ false). let g : x ≤ d.day = rw u at l in absurd (n (omega arith)))
      (bool_cases (eqb x 1)))
      (bool_cases (eqb d.day x))

-- no day number below the lowest that counts passes the position
lowest_le : (x : ℕ) → lowest_at x ≤ x
lowest_le x =
    ⊎_elim (λ (t : eqb x 1 ≡ true). rw t (omega arith)) (λ (t : eqb x 1 ≡ false). rw t (omega arith)) (bool_cases (eqb x 1))

module _ (choice : ℕ) (p : List ℕ) (b x : ℕ) where
  -- what dose j adds
  abbrev term : ℕ → ℕ
  term j = cond (applies x (dose_in p b j)) (chosen choice (dose_in p b j)) 0

  term_small : Small choice p b → (k : ℕ) → k < doses_of p b → term k ≤ 9999999999
  term_small h k l =
      ⊎_elim
      (λ (t : applies x (dose_in p b k) ≡ true). rw t (h.each k l))
      (λ (t : applies x (dose_in p b k) ≡ false). rw t (omega arith))
      (bool_cases (applies x (dose_in p b k)))

  -- what a position needs is small
  pub need_small : Small choice p b → need_at choice p b x ≤ 12799999998720
  unfolding need_at
  need_small h = omega (arith, h.few, sum_le term 9999999999 (doses_of p b) (term_small h))

  -- the sum over the doses that count, when it stands at dose j with s
  pub record Sums (n j s : ℕ) : Type 0 where
    pub all : n ≡ doses_of p b
    pub within : j ≤ n
    pub sum : s ≡ sum_below j term
    pub before : (i : ℕ) → i < j → (dose_in p b i).day < x + 1
    pub behind : (i : ℕ) → j ≤ i → i < n → lowest_at x ≤ (dose_in p b i).day

  pub sums_begin : {n j : ℕ} → n ≡ doses_of p b → From p b n (lowest_at x) j → Sums n j 0
  sums_begin {n} {j} a f =
      let z : sum_below j term ≡ 0 = sum_none term j (λ k l. rw (not_before x (dose_in p b k) (f.before k l))) in
      record {
        all = a;
        within = f.within;
        sum = omega arith;
        before = λ i l. omega (arith, f.before i l, lowest_le x);
        behind = f.behind;
      }

  module _ {n j s : ℕ} (w : Sums n j s) where
    -- the sum so far, and with a dose more, is small
    pub sums_small : Small choice p b → s ≤ 12799999998720
    sums_small h = omega (arith, w.sum, w.within, w.all, h.few, sum_le term 9999999999 j (λ k l. term_small h k (omega (arith, w.within, w.all))))

    pub sums_go_on : {t : ℕ} → j < n → (dose_in p b j).day ≤ x → t ≡ s + chosen choice (dose_in p b j) → Sums n (j + 1) t
    sums_go_on l h e =
        let q : term j ≡ chosen choice (dose_in p b j) = rw (does_count x (dose_in p b j) (w.behind j (omega arith) l) h) in
        record {
          all = w.all;
          within = omega arith;
          sum = omega (arith, e, w.sum, sum_more term j, q);
          before = below_more (λ (i : ℕ). (dose_in p b i).day < x + 1) j w.before (omega arith);
          behind = λ i l h. w.behind i (omega arith) h;
        }

    -- the doses behind have passed the position
    pub sums_stop : ((i : ℕ) → j ≤ i → i < n → x < (dose_in p b i).day) →
        (s ≡ need_at choice p b x) × From p b n (x + 1) j
    unfolding need_at
    sums_stop past =
        let e : j + (n - j) ≡ doses_of p b = omega (arith, w.all, w.within) in
        let f : sum_below (doses_of p b) term ≡ sum_below j term =
        rw e at (sum_flat term j (n - j) (λ k l h. rw (not_behind x (dose_in p b k) (past k l (omega (arith, w.within)))))) in
        (omega (arith, w.sum, f), record { within = w.within; before = w.before; behind = λ i l h. omega (arith, past i l h) })

-- what a period needs on a day is what it needs at the day's position
pub period_sum : (choice : ℕ) (p : List ℕ) (d b : ℕ) →
    sum_over (chosen choice) (doses_of_period p d b) ≡ need_at choice p b (position_of (header_of (block_at p b)) d)
unfolding doses_of_period need_at
period_sum choice p d b = sum_pick (chosen choice) (doses_of p b) _ (dose_in p b)

-- and what a plan needs on a day is what the periods that have it need; no storage has more than 64 blocks
module _ (choice : ℕ) (p : List ℕ) (d : ℕ) where
  block_sum : (b : ℕ) → sum_over (chosen choice) (cond (covers p d b) (doses_of_period p d b) []) ≡ cond (covers p d b) (need_of choice p b d) 0
  unfolding sum_over
  block_sum b =
      ⊎_elim
      (λ (t : covers p d b ≡ true). rw t (period_sum choice p d b))
      (λ (t : covers p d b ≡ false). rw t)
      (bool_cases (covers p d b))

  pub plan_sum : blocks_of p ≤ 64 → due_on choice p d ≡ sum_below (blocks_of p) (λ b. cond (covers p d b) (need_of choice p b d) 0)
  unfolding doses_on
  plan_sum l =
      let m : min (blocks_of p) 64 ≡ blocks_of p = omega arith in
      due_chosen choice p d ∙ rw m (sum_join (chosen choice) (blocks_of p) _) ∙ sum_same _ _ (blocks_of p) (λ b q. block_sum b)
