-- The days of the runs are those between the first and last day of the part's dosed periods that none of those covers, and a
-- run is a longest stretch of them: a dosed period has the day ahead of it, and one the day behind it. Assumes nothing.
use Prim.Native.Nat.{ℕ, zero, suc, ◌+◌, ◌≤◌, ◌<◌}
use mathlib.Core.Bool.{Bool, true, false}
use mathlib.Core.List.{List}
use mathlib.Core.Logic.{⊎_elim}
use mathlib.Core.Path.{◌≡◌}
use native.Mathlib.Nat.{eq-or-lt_of_le}
use native.Mathlib.Omega.{arith}
use borrow.Author.Tests.{lt-ltb, le-leb}
use Rattle.below.proofs.Tests.{both_and, le_or_lt, not_true_false}
use Rattle.day.specs.Days.{last_number}
use Rattle.plan.specs.Fields.{first_of, last_of}
use Rattle.plan.specs.Periods.{blocks_of, block_at}
use Rattle.verdict.proofs.Meeting.{Meets, meets_some, some_meets, unmet, hole_parts, parts_hole}
use Rattle.verdict.specs.Coverage.{meets, hole_at}
use Rattle.split.specs.Parts.{group_of, is_dosed_in, next_dosed, run_first, run_last, has_run}
use Rattle.split.proofs.Kept.{Kept}
use Rattle.split.proofs.Next.{next_is, next_le}
use Rattle.split.proofs.Standing.{run_is, dosed_days, dosed_apart, dosed_rising}

module _ (m : Bool) (p : List ℕ) where
  -- a dosed period of the part has day d
  abbrev pub is_covered : ℕ → Bool
  is_covered d = meets (group_of m) p d d

  -- day d lies between the first and last day of the dosed periods, and in none of them
  abbrev pub is_between : ℕ → Bool
  is_between d = hole_at (group_of m) (group_of m) p d

  -- day d lies in the run behind block b
  pub record InRun (b d : ℕ) : Type 0 where
    pub within : b < blocks_of p
    pub dosed : is_dosed_in m p b ≡ true
    pub run : has_run m p b ≡ true
    pub from : run_first p b ≤ d
    pub to : d ≤ run_last m p b

  module _ (k : Kept p) where
    covered : (b d : ℕ) → b < blocks_of p → is_dosed_in m p b ≡ true → first_of (block_at p b) ≤ d → d ≤ last_of (block_at p b) → is_covered d ≡ true
    covered b d l t f e = some_meets (group_of m) p d d (record { within = l; member = t; before = f; after = e })

    -- the next dosed period behind a run
    module _ (b : ℕ) (l : b < blocks_of p) (t : is_dosed_in m p b ≡ true) (r : has_run m p b ≡ true) where
      next_dosed_lem : is_dosed_in m p (next_dosed m p b) ≡ true
      next_dosed_lem = (next_is m p b l).dosed (run_is m p b r).next

      next_days : (first_of (block_at p (next_dosed m p b)) ≤ last_of (block_at p (next_dosed m p b))) × (last_of (block_at p (next_dosed m p b)) ≤ last_number)
      next_days = dosed_days m p k (next_dosed m p b) (run_is m p b r).next next_dosed_lem

      -- the days at both ends of the run are covered
      pub covered_ahead : (d : ℕ) → d + 1 ≡ run_first p b → is_covered d ≡ true
      covered_ahead d e = covered b d l t (omega (arith, (dosed_days m p k b l t).0)) (omega arith)

      pub covered_behind : (d : ℕ) → d ≡ run_last m p b + 1 → is_covered d ≡ true
      covered_behind d e =
          covered (next_dosed m p b) d (run_is m p b r).next next_dosed_lem
          (omega arith) (omega (arith, next_days.0, (run_is m p b r).days))

      -- no dosed period has a day of it: one ahead of it ends before, and one behind it begins after
      clear : (d c : ℕ) → run_first p b ≤ d → d ≤ run_last m p b → Meets (group_of m) p d d c → ⊥
      clear d c f e x =
          ⊎_elim
          (λ (q : c ≤ b).
          ⊎_elim
          (λ (z : c ≡ b). let y : d ≤ last_of (block_at p b) = rw (← z) x.after in omega arith)
          (λ (z : c < b).
          omega (arith, dosed_apart m p k c b z l x.member t, (dosed_days m p k b l t).0, x.after))
          (eq-or-lt_of_le q))
          (λ (q : b < c).
          let n = next_le m p b c q x.within x.member in
          omega (arith, dosed_rising m p k (next_dosed m p b) c n x.within next_dosed_lem x.member, x.before, (run_is m p b r).days))
          (le_or_lt c b)

    -- a day of a run lies between the dosed periods, and in none
    pub run_between : (b d : ℕ) → InRun b d → is_between d ≡ true
    run_between b d i =
        let own = dosed_days m p k b i.within i.dosed in
        let next = next_days b i.within i.dosed i.run in
        parts_hole (group_of m) (group_of m) p d (record {
          early = some_meets (group_of m) p 0 d (record {
            within = i.within;
            member = i.dosed;
            before = omega (arith, own.0, i.from);
            after = omega arith;
          });
          late = some_meets (group_of m) p d last_number (record {
            within = (run_is m p b i.run).next;
            member = next_dosed_lem b i.within i.dosed i.run;
            before = omega (arith, next.0, next.1);
            after = omega (arith, next.0, i.to);
          });
          clear = not_true_false (is_covered d) (λ t. let x = meets_some (group_of m) p d d t in clear b i.within i.dosed i.run d x.0 i.from i.to x.1);
        })

    -- and each such day lies in a run: that behind the last dosed period that begins before it
    module _ (d z : ℕ) (free : is_covered d ≡ false) (y : Meets (group_of m) p d last_number z) where
      ended : (a : ℕ) → a < blocks_of p → is_dosed_in m p a ≡ true → first_of (block_at p a) ≤ d → last_of (block_at p a) < d
      ended a l t f =
          ⊎_elim
          (λ (q : d ≤ last_of (block_at p a)). absurd (unmet (group_of m) p d d free (record { within = l; member = t; before = f; after = q })))
          (λ q. q)
          (le_or_lt d (last_of (block_at p a)))

      -- the last dosed period does not end before day d, so another is behind one that does
      goes_on_lem : (a : ℕ) → a < blocks_of p → is_dosed_in m p a ≡ true → first_of (block_at p a) ≤ d → next_dosed m p a < blocks_of p
      goes_on_lem a l t f =
          ⊎_elim
          (λ (q : z ≤ a).
          absurd
          (⊎_elim
          (λ (e : z ≡ a). let h : d ≤ last_of (block_at p a) = rw (← e) y.after in omega (arith, ended a l t f))
          (λ (h : z < a). omega (arith, dosed_apart m p k z a h l y.member t, y.after))
          (eq-or-lt_of_le q)))
          (λ (q : a < z). omega (arith, next_le m p a z q y.within y.member, y.within))
          (le_or_lt z a)

      find : (fuel a : ℕ) → blocks_of p ≤ a + fuel → a < blocks_of p → is_dosed_in m p a ≡ true → first_of (block_at p a) ≤ d → (b : ℕ) × InRun b d
      find zero a h l t f = absurd (omega arith)
      find (suc fuel) a h l t f =
          let c = next_dosed m p a in
          let n = next_is m p a l in
          let in-plan = goes_on_lem a l t f in
          ⊎_elim
          (λ (q : first_of (block_at p c) ≤ d). find fuel c (omega (arith, n.behind)) in-plan (n.dosed in-plan) q)
          (λ (q : d < first_of (block_at p c)).
          let from : run_first p a ≤ d = omega (arith, ended a l t f) in
          let to : d ≤ run_last m p a = omega arith in (
            a,
            record {
              within = l;
              dosed = t;
              run = both_and (lt-ltb c (blocks_of p) in-plan) (le-leb (run_first p a) (run_last m p a) (omega arith));
              from = from;
              to = to;
            },
          ))
          (le_or_lt (first_of (block_at p c)) d)

    pub between_run : (d : ℕ) → is_between d ≡ true → (b : ℕ) × InRun b d
    between_run d e =
        let h = hole_parts (group_of m) (group_of m) p d e in
        let x = meets_some (group_of m) p 0 d h.early in
        let y = meets_some (group_of m) p d last_number h.late in
        find d y.0 h.clear y.1 (blocks_of p) x.0 (omega arith) x.1.within x.1.member x.1.before
