-- What the dosed periods of a part and its pieces have, each period of the part has; and the days of a piece. Assumes nothing.
use Prim.Native.Nat.{ℕ, ◌≤◌, ◌<◌, max, min}
use mathlib.Core.Bool.{Bool, true, false, cond}
use mathlib.Core.List.{List, [], ◌∷◌}
use mathlib.Core.Path.{◌≡◌}
use native.Mathlib.Omega.{arith}
use borrow.Author.Tests.{le-leb, le-ltb, ne_eqb}
use Rattle.day.specs.Days.{last_number, open_mark, closed_day, is_no_span}
use Rattle.layout.proofs.Every.{every_cond, every_join}
use Rattle.below.specs.Lists.{Every, Every.none, Every.more}
use Rattle.layout.specs.Layout.{Written}
use Rattle.plan.specs.Fields.{first_of, last_of}
use Rattle.plan.specs.Periods.{blocks_of, block_at}
use Rattle.split.specs.Parts.{is_dosed_in, dosed_period, run_first, run_last, has_run, shares_run, shared, shared_in, behind, brought_by, part_of}
use Rattle.split.proofs.Kept.{Kept}
use Rattle.split.proofs.Standing.{days, blank_period, shared_is}

module _ {P : Written → Type 0} (m : Bool) (p : List ℕ)
    (dosed : (b : ℕ) → b < blocks_of p → is_dosed_in m p b ≡ true → P (dosed_period m p b))
    (piece : (b e : ℕ) → b < blocks_of p → e < blocks_of p → is_dosed_in m p b ≡ true → has_run m p b ≡ true →
    shares_run p (run_first p b) (run_last m p b) e ≡ true → P (shared p (run_first p b) (run_last m p b) e)) where
  each_behind : (b : ℕ) → b < blocks_of p → is_dosed_in m p b ≡ true → Every P (behind m p b)
  unfolding behind shared_in
  each_behind b l t =
      every_cond (has_run m p b)
      (λ r.
      every_join (blocks_of p) (λ e. cond (shares_run p (run_first p b) (run_last m p b) e) (shared p (run_first p b) (run_last m p b) e ∷ []) [])
      (λ e q. every_cond (shares_run p (run_first p b) (run_last m p b) e) (λ s. more (piece b e l q t r s) none) (λ s. none)))
      (λ r. none)

  pub each_of_part : Every P (part_of m p)
  unfolding part_of brought_by
  each_of_part =
      every_join (blocks_of p) (brought_by m p)
      (λ b l. every_cond (is_dosed_in m p b) (λ t. more (dosed b l t) (each_behind b l t)) (λ t. none))

-- a day of the calendar is not the open mark
pub day_closed : (z : ℕ) → z ≤ last_number → closed_day z ≡ z
day_closed z h = rw (ne_eqb z open_mark (λ e. omega arith))

pub days_span : (a z : ℕ) → a ≤ z → z ≤ last_number → is_no_span a z ≡ false
days_span a z l h =
    rw (le-leb a last_number (omega arith), le-leb z last_number h, day_closed z h, le-ltb z a l)

-- what an empty period shares with a run has a day, and ends in the calendar
pub piece_days : {p : List ℕ} → Kept p → (lo hi e : ℕ) → lo ≤ hi → e < blocks_of p → shares_run p lo hi e ≡ true →
    (max lo (first_of (block_at p e)) ≤ min hi (last_of (block_at p e))) × (min hi (last_of (block_at p e)) ≤ last_number)
piece_days {p} k lo hi e l q s =
    let x = shared_is p lo hi e s in
    let d = days k e q (blank_period p e x.blank) in
    omega (arith, x.before, x.after, d.0, d.1)
