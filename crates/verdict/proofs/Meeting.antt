-- What "some period of the group has a day from lo to hi" says, and a day that is a hole. Assumes nothing.
use Prim.Native.Nat.{ℕ, ◌≤◌, ◌<◌}
use mathlib.Core.Bool.{Bool, true, false, ◌&&◌, and_comm}
use mathlib.Core.List.{List}
use mathlib.Core.Path.{◌≡◌, refl, sym, ◌∙◌}
use lib.Dec.{leb}
use borrow.Author.Tests.{leb-true, le-leb, not-true}
use Rattle.below.proofs.Search.{any_hit, any_some}
use Rattle.below.proofs.Tests.{and_both, true_not_false}
use Rattle.day.specs.Days.{last_number}
use Rattle.plan.specs.Fields.{first_of, last_of}
use Rattle.plan.specs.Periods.{blocks_of, block_at, is_period, class_of}
use Rattle.verdict.specs.Coverage.{in_group, has_days, meets_at, meets, hole_at, is_member}
use Rattle.verdict.specs.declared.Group.{Group}

-- the period at block b is one of the group, and has a day from lo to hi
pub record Meets (g : Group) (p : List ℕ) (lo hi b : ℕ) : Type 0 where
  pub within : b < blocks_of p
  pub member : is_member g p b ≡ true
  pub before : first_of (block_at p b) ≤ hi
  pub after : lo ≤ last_of (block_at p b)

and_swap : (x y z : Bool) → (x && y && z) ≡ (x && z && y)
and_swap true y z = and_comm y z
and_swap false y z = refl

module _ (g : Group) (p : List ℕ) (lo hi : ℕ) where
  pub meets_is : (b : ℕ) → meets_at g p lo hi b ≡ (is_member g p b && has_days p lo hi b)
  unfolding meets_at is_member
  meets_is b = and_swap (is_period p b) (has_days p lo hi b) (in_group g (class_of p b))

  pub meets_some : meets g p lo hi ≡ true → (b : ℕ) × Meets g p lo hi b
  unfolding meets
  meets_some e =
      let s = any_some (meets_at g p lo hi) (blocks_of p) e in
      let x = and_both (is_member g p s.0) (has_days p lo hi s.0) (sym (meets_is s.0) ∙ s.2) in
      let y = and_both (leb (first_of (block_at p s.0)) hi) _ x.1 in
      (s.0, record { within = s.1; member = x.0; before = leb-true _ _ y.0; after = leb-true _ _ y.1 })

  pub some_meets : {b : ℕ} → Meets g p lo hi b → meets g p lo hi ≡ true
  unfolding meets
  some_meets {b} m =
      any_hit (meets_at g p lo hi) m.within
      (rw (meets_is b, m.member, le-leb _ _ m.before, le-leb _ _ m.after))

  pub unmet : {b : ℕ} → meets g p lo hi ≡ false → Meets g p lo hi b → ⊥
  unmet e m = true_not_false (some_meets m) e

-- what makes a day a hole
module _ (span cover : Group) (p : List ℕ) (d : ℕ) where
  pub record Hole : Type 0 where
    pub early : meets span p 0 d ≡ true
    pub late : meets span p d last_number ≡ true
    pub clear : meets cover p d d ≡ false

  pub hole_parts : hole_at span cover p d ≡ true → Hole
  unfolding hole_at
  hole_parts e =
      let x = and_both (meets span p 0 d && meets span p d last_number) _ e in
      let y = and_both (meets span p 0 d) _ x.0 in
      record { early = y.0; late = y.1; clear = not-true _ x.1 }

  pub parts_hole : Hole → hole_at span cover p d ≡ true
  unfolding hole_at
  parts_hole h = rw (h.early, h.late, h.clear)
