-- The periods of a part stand by first day, and share no day. Assumes nothing.
use Prim.Native.Nat.{ℕ, zero, suc, ◌+◌, ◌≤◌, ◌<◌, max, min}
use mathlib.Core.Bool.{Bool, true, false, cond}
use mathlib.Core.List.{List, [], ◌∷◌, ◌++◌, append-nil}
use mathlib.Core.Logic.{⊎_elim}
use mathlib.Core.Path.{◌≡◌}
use native.Mathlib.Nat.{le_refl, not-suc-le-zero, le_of_suc-le-suc}
use native.Mathlib.Omega.{arith}
use lib.ListN.{length, get_or}
use Rattle.below.proofs.Tests.{bool_cases}
use Rattle.below.specs.Lists.{join_below}
use Rattle.day.specs.Days.{last_number, closed_day}
use Rattle.layout.specs.Layout.{Written}
use Rattle.layout.specs.Reading.{header_at}
use Rattle.plan.specs.Fields.{first_of, last_of}
use Rattle.plan.specs.Periods.{blocks_of, block_at}
use Rattle.split.specs.Parts.{is_dosed_in, dosed_period, run_first, run_last, has_run, shares_run, shared, shared_in, behind, brought_by, part_of}
use Rattle.split.proofs.Each.{day_closed, piece_days}
use Rattle.split.proofs.Kept.{Kept}
use Rattle.split.proofs.Standing.{blank_apart, shared_is, run_is, Past, dosed_days, past_dosed, past_all}

-- a period's first and last day
abbrev pub first_day : Written → ℕ
first_day w = w.header.first

abbrev pub last_day : Written → ℕ
last_day w = closed_day w.header.end

-- periods in the days from lo up to, and without, hi: each has a day, and begins behind the one ahead of it
pub data Ascending : ℕ → List Written → ℕ → Type 0 where
  none : {lo hi : ℕ} → lo ≤ hi → Ascending lo [] hi
  more : {lo hi : ℕ} {w : Written} {ws : List Written} → lo ≤ first_day w → first_day w ≤ last_day w → Ascending (last_day w + 1) ws hi → Ascending lo (w ∷ ws) hi

-- what that says of any two of them
pub ascending_from : {lo hi : ℕ} {ws : List Written} → Ascending lo ws hi → (d : Written) (j : ℕ) → j < length ws → lo ≤ first_day (get_or ws j d)
ascending_from (none l) d j h = absurd (not-suc-le-zero h)
ascending_from (more l f a) d zero h = l
ascending_from (more l f a) d (suc j) h = omega (arith, ascending_from a d j (le_of_suc-le-suc h))

pub ascending_apart : {lo hi : ℕ} {ws : List Written} → Ascending lo ws hi → (d : Written) (i j : ℕ) → i < j → j < length ws → last_day (get_or ws i d) < first_day (get_or ws j d)
ascending_apart (none l) d i j q h = absurd (not-suc-le-zero h)
ascending_apart (more l f a) d i zero q h = absurd (not-suc-le-zero q)
ascending_apart (more l f a) d zero (suc j) q h = omega (arith, ascending_from a d j (le_of_suc-le-suc h))
ascending_apart (more l f a) d (suc i) (suc j) q h = ascending_apart a d i j (le_of_suc-le-suc q) (le_of_suc-le-suc h)

-- from an earlier day on, and one list behind another
ascending_lower : {a b c : ℕ} {ws : List Written} → a ≤ b → Ascending b ws c → Ascending a ws c
ascending_lower {a} {b} {c} h (none l) = none {lo = a} {hi = c} (omega arith)
ascending_lower {a} {b} {c} h (more {w = w} l f r) = let e : a ≤ first_day w = omega arith in more e f r

ascending_append : {a b c : ℕ} {vs ws : List Written} → Ascending a vs b → Ascending b ws c → Ascending a (vs ++ ws) c
ascending_append (none l) q = ascending_lower l q
ascending_append (more l f r) q = more l f (ascending_append r q)

module _ {p : List ℕ} (k : Kept p) where
  -- the pieces of one run
  module _ (lo hi : ℕ) (l : lo ≤ hi) where
    piece_ascends : (e y : ℕ) → e < blocks_of p → shares_run p lo hi e ≡ true → min hi (last_of (block_at p e)) < y →
        Ascending (max lo (first_of (block_at p e))) (shared p lo hi e ∷ []) y
    piece_ascends e y q t past =
        let d = piece_days k lo hi e l q t in
        let z = day_closed (min hi (last_of (block_at p e))) d.1 in
        let some : first_day (shared p lo hi e) ≤ last_day (shared p lo hi e) = omega (arith, d.0, z) in
        let ends : last_day (shared p lo hi e) + 1 ≤ y = omega (arith, z) in
        more (le_refl _) some (none ends)

    -- .. those of the blocks below n, which end before day y
    pieces_ascend : (n y : ℕ) → n ≤ blocks_of p → lo ≤ y → ((e : ℕ) → e < n → shares_run p lo hi e ≡ true → min hi (last_of (block_at p e)) < y) →
        Ascending lo (join_below n (λ e. cond (shares_run p lo hi e) (shared p lo hi e ∷ []) [])) y
    unfolding join_below
    pieces_ascend zero y h q past = none q
    pieces_ascend (suc n) y h q past =
        ⊎_elim
        (λ (t : shares_run p lo hi n ≡ true).
        rw t
        (ascending_append
        (pieces_ascend n (max lo (first_of (block_at p n))) (omega arith) (omega arith)
        (λ e j s. omega (arith, blank_apart k e n j h (shared_is p lo hi e s).blank (shared_is p lo hi n t).blank)))
        (piece_ascends n y h t (past n (omega arith) t))))
        (λ (t : shares_run p lo hi n ≡ false).
        rw (t, append-nil)
        (pieces_ascend n y (omega arith) q (λ e j s. past e (omega arith) s)))
        (bool_cases (shares_run p lo hi n))

    shared_ascend : (y : ℕ) → hi < y → Ascending lo (shared_in p lo hi) y
    unfolding shared_in
    shared_ascend y q = pieces_ascend (blocks_of p) y (le_refl (blocks_of p)) (omega arith) (λ e j s. omega arith)

  module _ (m : Bool) where
    -- a dosed period and what is behind it, which end before day x
    module _ (b x : ℕ) (l : b < blocks_of p) (t : is_dosed_in m p b ≡ true)
        (past : (last_of (block_at p b) < x) × (has_run m p b ≡ true → run_last m p b < x)) where
      behind_ascend : Ascending (run_first p b) (behind m p b) x
      unfolding behind
      behind_ascend =
          ⊎_elim
          (λ (r : has_run m p b ≡ true). rw r (shared_ascend (run_first p b) (run_last m p b) (run_is m p b r).days x (past.1 r)))
          (λ (r : has_run m p b ≡ false). let e : run_first p b ≤ x = omega (arith, past.0) in rw r (none e))
          (bool_cases (has_run m p b))

      dosed_ascend : Ascending (first_of (block_at p b)) (dosed_period m p b ∷ behind m p b) x
      unfolding header_at
      dosed_ascend = more (le_refl _) (dosed_days m p k b l t).0 behind_ascend

    -- what the blocks below b bring, which ends before day x
    brought_ascend : (b x : ℕ) → b ≤ blocks_of p → Past m p b x → Ascending 0 (join_below b (brought_by m p)) x
    unfolding join_below brought_by
    brought_ascend zero x l past = none {lo = 0} {hi = x} (omega arith)
    brought_ascend (suc b) x l past =
        ⊎_elim
        (λ (t : is_dosed_in m p b ≡ true).
        rw t
        (ascending_append
        (brought_ascend b (first_of (block_at p b)) (omega arith) (past_dosed m p k b l t))
        (dosed_ascend b x l t (past b (omega arith) t))))
        (λ (t : is_dosed_in m p b ≡ false).
        rw (t, append-nil) (brought_ascend b x (omega arith) (λ c h. past c (omega arith))))
        (bool_cases (is_dosed_in m p b))

    pub part_ascends : Ascending 0 (part_of m p) (last_number + 1)
    unfolding part_of
    part_ascends = brought_ascend (blocks_of p) (last_number + 1) (le_refl (blocks_of p)) (past_all m p k)

    -- each period of the part begins behind the ends of those ahead of it
    pub part_in_order : (d : Written) (i j : ℕ) → i < j → j < length (part_of m p) →
        last_day (get_or (part_of m p) i d) < first_day (get_or (part_of m p) j d)
    part_in_order = ascending_apart part_ascends
