-- A walk over the periods of a group and its cover shows that the group has no hole. Assumes nothing.
use Rattle.std.specs.Prelude.{Option, Some, None, IfSome, is_some}
use Prim.Native.Nat.{ℕ, ◌+◌, ◌≤◌, ◌<◌, max}
use mathlib.Core.Bool.{true, false, ◌&&◌, ◌||◌}
use mathlib.Core.List.{List}
use mathlib.Core.Logic.{⊎_elim}
use mathlib.Core.Path.{◌≡◌, refl, ◌∙◌}
use native.Mathlib.Omega.{arith}
use lib.Dec.{leb}
use borrow.Author.Count.{below_more}
use borrow.Author.Tests.{leb-true}
use Rattle.below.proofs.Search.{any_some}
use Rattle.below.proofs.Tests.{and_both, or_neither, le_or_lt, true_not_false, not_true_false}
use Rattle.day.specs.Days.{last_number}
use Rattle.plan.specs.Fields.{first_of, last_of}
use Rattle.plan.specs.Periods.{blocks_of, block_at, is_period, class_of}
use Rattle.verdict.specs.Coverage.{in_group, meets, hole_at, hole, is_member}
use Rattle.verdict.specs.Code.Groups.{cover_of}
use Rattle.verdict.specs.Code.Walks.{span_of, reach_on}
use Rattle.verdict.specs.declared.Group.{Group}
use Rattle.verdict.specs.declared.holes.Reach.{Reach}
use Rattle.verdict.proofs.Meeting.{meets_some, some_meets, hole_parts}
use Rattle.verdict.proofs.Members.{by_test, member_in, member_none, member_out, not_member}

module _ (g : Group) (p : List ℕ) where
  -- the cover has each day from `from` up to, and without, `to`, and no period of the group at the blocks below b has another
  record Reached (b from to : ℕ) : Type 0 where
    inside : (k : ℕ) → k < b → is_member g p k ≡ true → (from ≤ first_of (block_at p k)) × (last_of (block_at p k) < to)
    covered : (d : ℕ) → from ≤ d → d < to → meets (cover_of g) p d d ≡ true

  past : {b from to : ℕ} → is_member g p b ≡ false → Reached b from to → Reached (b + 1) from to
  past n r =
      record { inside = below_more _ _ r.inside (λ m. absurd (true_not_false m n)); covered = r.covered }

  -- no period of the group begins at the blocks below b
  abbrev Absent : ℕ → Type 0
  Absent b = (k : ℕ) → k < b → is_member g p k ≡ true → ⊥

  absent : {b : ℕ} → is_member g p b ≡ false → Absent b → Absent (b + 1)
  absent n none = below_more _ _ none (λ m. true_not_false m n)

  module _ {b from to : ℕ} (l : b < blocks_of p) (m : is_member (cover_of g) p b ≡ true) (r : Reached b from to) where
    has : (d : ℕ) → first_of (block_at p b) ≤ d → d ≤ last_of (block_at p b) → meets (cover_of g) p d d ≡ true
    has d f e = some_meets (cover_of g) p d d (record { within = l; member = m; before = f; after = e })

    join : from ≤ first_of (block_at p b) → first_of (block_at p b) ≤ to →
        Reached (b + 1) from (max to (last_of (block_at p b) + 1))
    join f t =
        record {
          inside = below_more _ _ (λ k q j. let i = r.inside k q j in (i.0, omega (arith, i.1))) (λ j. (f, omega arith));
          covered =
              λ d x y.
              ⊎_elim (λ q. has d (omega arith) (omega arith)) (λ q. r.covered d x q) (le_or_lt to d);
        }

    begin : Absent b → Reached (b + 1) (first_of (block_at p b)) (last_of (block_at p b) + 1)
    begin none =
        record {
          inside = below_more _ _ (λ k q j. absurd (none k q j)) (λ j. (omega arith, omega arith));
          covered = λ d x y. has d x (omega arith);
        }

  -- what the walk holds when it stands at block b
  record Held (b : ℕ) (s : Reach) : Type 0 where
    found : Reached b s.from s.to
    none : s.began ≡ false → Absent b

  pub record Reaches (b : ℕ) (s : Option Reach) : Type 0 where
    held : IfSome s (λ r. Held b r)

  pub reaches_zero : Reaches 0 (Some (record { from = 0; to = 0; began = false }))
  reaches_zero =
      record {
        held =
            record {
              found = record { inside = λ k l. absurd (omega arith); covered = λ d l m. absurd (omega arith) };
              none = λ e k l. absurd (omega arith);
            };
      }

  over : {b : ℕ} {s : Reach} → is_member g p b ≡ false → Held b s → Held (b + 1) s
  over n r = record { found = past n r.found; none = λ e. absent n (r.none e) }

  pub reaches_past : {b : ℕ} {s : Option Reach} → is_period p b ≡ false → Reaches b s → Reaches (b + 1) s
  reaches_past {b} {s = None} i r = record { held = tt }
  reaches_past {b} {s = Some s} i r = record { held = over (member_none g p b i) r.held }

  -- the group has not begun at block b either
  still : {b : ℕ} {s : Reach} → Held b s → (s.began || in_group g (class_of p b)) ≡ false → Absent (b + 1)
  still {b} {s} r e = let o = or_neither s.began _ e in absent (member_out g p b o.1) (r.none o.0)

  pub reaches_on : {b : ℕ} {s : Option Reach} → b < blocks_of p → is_period p b ≡ true → Reaches b s →
      Reaches (b + 1) (reach_on g (span_of p b) s)
  unfolding reach_on
  reaches_on {b} {s = None} l i w = record { held = tt }
  reaches_on {b} {s = Some s} l i w =
      let r = w.held in
      let first = first_of (block_at p b) in
      let spans = in_group g (class_of p b) in
      by_test (in_group (cover_of g) (class_of p b))
      (λ c.
      let m = member_in (cover_of g) p b i c in
      by_test (leb s.from first && leb first s.to)
      (λ t.
      let q = and_both (leb s.from first) _ t in
      rw (c, t)
      (record {
        held = record { found = join l m r.found (leb-true _ _ q.0) (leb-true _ _ q.1); none = still r };
      }))
      (λ t.
      by_test s.began
      (λ k.
      by_test spans
      (λ n. rw (c, t, k, n) (record { held = tt }))
      (λ n.
      let h : Held b (record { from = s.from; to = s.to; began = true }) = record { found = r.found; none = λ e. r.none (k ∙ e) } in
      rw (c, t, k, n) (record { held = over (member_out g p b n) h })))
      (λ k.
      rw (c, t, k)
      (record {
        held = record { found = begin l m r.found (r.none k); none = λ e. absent (member_out g p b e) (r.none k) };
      }))))
      (λ c. rw c (record { held = over (not_member g p b (member_out (cover_of g) p b c)) r }))

  -- where the walk came to its end, the group has no hole
  pub reaches_end : {b : ℕ} {s : Option Reach} → blocks_of p ≤ b → Reaches b s → is_some s ≡ true → hole g (cover_of g) p ≡ false
  unfolding hole
  reaches_end {b} {s = None} n w f = absurd (true_not_false f refl)
  reaches_end {b} {s = Some s} n w f =
      let r = w.held.found in
      not_true_false _
      (λ e.
      let s = any_some (hole_at g (cover_of g) p) (last_number + 1) e in
      let h = hole_parts g (cover_of g) p s.0 s.2 in
      let x = meets_some g p 0 s.0 h.early in
      let y = meets_some g p s.0 last_number h.late in
      let i = r.inside x.0 (omega (arith, x.1.within)) x.1.member in
      let j = r.inside y.0 (omega (arith, y.1.within)) y.1.member in
      true_not_false (r.covered s.0 (omega (arith, x.1.before)) (omega (arith, y.1.after))) h.clear)
