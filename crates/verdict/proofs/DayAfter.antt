-- Where a group has a hole, the day after some period of its cover is one: of the periods of the cover that end before the
-- hole, the day after the last one's end. Assumes nothing.
use Prim.Native.Nat.{ℕ, zero, suc, ◌+◌, ◌≤◌, ◌<◌}
use mathlib.Core.Bool.{Bool, true, false, ◌&&◌}
use mathlib.Core.List.{List}
use mathlib.Core.Logic.{⊎_elim}
use mathlib.Core.Path.{◌≡◌}
use native.Mathlib.Omega.{arith}
use lib.Dec.{ltb}
use borrow.Author.Tests.{ltb-true, lt-ltb}
use Rattle.below.specs.Below.{any_below}
use Rattle.below.proofs.Search.{any_hit, any_some, any_not}
use Rattle.below.proofs.Tests.{bool_iff, and_both, both_and, le_or_lt, true_not_false, not_true_false}
use Rattle.day.specs.Days.{last_number}
use Rattle.plan.specs.Fields.{first_of, last_of}
use Rattle.plan.specs.Periods.{blocks_of, block_at}
use Rattle.verdict.specs.Coverage.{meets, hole_at, hole, is_member}
use Rattle.verdict.specs.Code.Groups.{cover_of, hole_after}
use Rattle.verdict.specs.Code.Ready.{Dated}
use Rattle.verdict.specs.declared.Group.{Group}
use Rattle.verdict.proofs.Meeting.{Meets, meets_some, some_meets, unmet, Hole, hole_parts, parts_hole}
use Rattle.verdict.proofs.Members.{by_test, member_period, member_wide}

module _ (g : Group) (p : List ℕ) where
  abbrev last : ℕ → ℕ
  last b = last_of (block_at p b)

  -- a period of the cover that ends before day d, behind which no other does
  record Nearest (d : ℕ) : Type 0 where
    block : ℕ
    within : block < blocks_of p
    member : is_member (cover_of g) p block ≡ true
    ends : last block < d
    most : (b : ℕ) → b < blocks_of p → is_member (cover_of g) p b ≡ true → last b < d → last b ≤ last block

  -- the period at block b ends behind that at block a, and before day d
  between : ℕ → ℕ → ℕ → Bool
  between d a b = is_member (cover_of g) p b && (ltb (last a) (last b) && ltb (last b) d)

  -- there is one, where any period of the cover ends before d
  nearest : (fuel d a : ℕ) → a < blocks_of p → is_member (cover_of g) p a ≡ true → last a < d → d ≤ last a + fuel →
      Nearest d
  unfolding between
  nearest zero d a l m e f = absurd (omega arith)
  nearest (suc fuel) d a l m e f =
      by_test (any_below (blocks_of p) (between d a))
      (λ t.
      let s = any_some (between d a) (blocks_of p) t in
      let x = and_both (is_member (cover_of g) p s.0) _ s.2 in
      let y = and_both (ltb (last a) (last s.0)) _ x.1 in
      nearest fuel d s.0 s.1 x.0 (ltb-true _ _ y.1) (omega (arith, ltb-true (last a) (last s.0) y.0)))
      (λ t.
      record {
        block = a;
        within = l;
        member = m;
        ends = e;
        most =
            λ b n k q.
            ⊎_elim
            (λ z. z)
            (λ z. absurd (true_not_false (both_and k (both_and (lt-ltb _ _ z) (lt-ltb _ _ q))) (any_not (between d a) t b n)))
            (le_or_lt (last b) (last a));
      })

  module _ (dated : Dated p) where
    days : (h : Group) {lo hi b : ℕ} → Meets h p lo hi b → (first_of (block_at p b) ≤ last b) × (last b ≤ last_number)
    days h {lo} {hi} {b} m = dated b m.within (member_period h p b m.member)

    module _ {d : ℕ} (clear : meets (cover_of g) p d d ≡ false) where
      -- no period of the cover has day d: one that begins by then ends before
      passes : {b : ℕ} → b < blocks_of p → is_member (cover_of g) p b ≡ true → first_of (block_at p b) ≤ d → last b < d
      passes {b} l m f =
          ⊎_elim
          (λ q. absurd (unmet (cover_of g) p d d clear (record { within = l; member = m; before = f; after = q })))
          (λ q. q)
          (le_or_lt d (last b))

      -- so where d is a hole, the day after the nearest period is one
      gap : {a c : ℕ} → Meets g p 0 d a → Meets g p d last_number c → (z : Nearest d) →
          Hole g (cover_of g) p (last z.block + 1)
      gap {a} {c} x y z =
          let next = last z.block + 1 in
          let wide = member_wide g p a x.member in
          let near = z.most a x.within wide (passes x.within wide x.before) in
          record {
            early = some_meets g p 0 next (record {
              within = x.within;
              member = x.member;
              before = omega (arith, days g x);
              after = x.after;
            });
            late = some_meets g p next last_number (record {
              within = y.within;
              member = y.member;
              before = y.before;
              after = omega (arith, z.ends, y.after);
            });
            clear =
                not_true_false (meets (cover_of g) p next next)
                (λ t.
                let w = meets_some (cover_of g) p next next t in
                let m = w.1 in
                let q = passes m.within m.member (omega (arith, m.before, z.ends)) in
                omega (arith, m.after, z.most w.0 m.within m.member q));
          }

    behind : (d : ℕ) → hole_at g (cover_of g) p d ≡ true → (b : ℕ) × (b < blocks_of p) × (hole_after g p b ≡ true)
    unfolding hole_after
    behind d e =
        let h = hole_parts g (cover_of g) p d e in
        let x = meets_some g p 0 d h.early in
        let y = meets_some g p d last_number h.late in
        let m = member_wide g p x.0 x.1.member in
        let z = nearest d d x.0 x.1.within m (passes h.clear x.1.within m x.1.before) (omega arith) in
        (z.block, z.within, both_and z.member (parts_hole g (cover_of g) p (last z.block + 1) (gap h.clear x.1 y.1 z)))

    -- it is enough to look at the day after each period
    pub hole_after_lem : any_below (blocks_of p) (hole_after g p) ≡ hole g (cover_of g) p
    unfolding hole_after hole
    hole_after_lem =
        bool_iff _ _
        (λ e.
        let s = any_some (hole_after g p) (blocks_of p) e in
        let x = and_both (is_member (cover_of g) p s.0) _ s.2 in
        let y = meets_some g p _ last_number (hole_parts g (cover_of g) p _ x.1).late in
        any_hit (hole_at g (cover_of g) p) (omega (arith, y.1.after, days g y.1)) x.1)
        (λ e.
        let s = any_some (hole_at g (cover_of g) p) (last_number + 1) e in
        let b = behind s.0 s.2 in
        any_hit (hole_after g p) b.1 b.2)
