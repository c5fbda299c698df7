-- Periods of one class, beside empty ones, and rules 15 and 17. Assumes nothing.
use Prim.Native.Nat.{ℕ, ◌+◌, ◌≤◌, ◌<◌}
use mathlib.Core.Bool.{true, false}
use mathlib.Core.List.{List}
use mathlib.Core.Logic.{◌⊎◌, inl, inr, ⊎_elim}
use mathlib.Core.Path.{◌≡◌, refl, sym, ◌∙◌}
use native.Mathlib.Omega.{arith}
use borrow.Author.Count.{below_more}
use Rattle.below.proofs.Search.{any_some, any_not}
use Rattle.below.proofs.Tests.{not_true_false, true_not_false}
use Rattle.day.specs.Days.{last_number}
use Rattle.plan.specs.Periods.{blocks_of, is_period, class_of}
use Rattle.plan.specs.Classes.{is_empty}
use Rattle.plan.specs.declared.Class.{Class}
use Rattle.plan.specs.declared.Class.TheVariants.{Empty}
use Rattle.plan.specs.declared.Class.TheVariants as class
use Rattle.plan.proofs.Emptiness.{empty_is, not_empty_is, is_not_empty}
use Rattle.verdict.specs.Coverage.{is_dosed, bare, in_group, meets, hole_at, hole, holes, is_member}
use Rattle.verdict.specs.Code.Groups.{cover_of}
use Rattle.verdict.specs.Code.Walks.{is_like, class_with}
use Rattle.verdict.specs.declared.Group.TheVariants.{All, Fixed, Need}
use Rattle.verdict.specs.declared.Group.{Group}
use Rattle.verdict.proofs.Meeting.{Meets, meets_some, some_meets, unmet, hole_parts, parts_hole}
use Rattle.verdict.proofs.Members.{by_test, dosed_not_bare, member_period, member_group, member_in, wide}

-- classes that are like one another, the second one with doses
like_is : (x c : Class) → is_like x c ≡ true → (c ≡ Empty → ⊥) → (x ≡ Empty) ⊎ (c ≡ x)
like_is class.Empty c e d = inl refl
like_is x class.Empty e d = absurd (d refl)
like_is class.Fixed class.Fixed e d = inr refl
like_is class.Need class.Need e d = inr refl
like_is class.Mixed class.Mixed e d = inr refl
like_is x c e d = absurd (true_not_false refl (sym e))

module _ (p : List ℕ) where
  -- each period at the blocks below b is empty or of this class; where that is not empty, one of them has doses
  pub record Alike (b : ℕ) (class : Class) : Type 0 where
    each : (k : ℕ) → k < b → is_period p k ≡ true → (class_of p k ≡ Empty) ⊎ (class_of p k ≡ class)
    some : (class ≡ Empty → ⊥) → (k : ℕ) × (k < b) × (is_dosed p k ≡ true)

  pub alike_zero : Alike 0 Empty
  alike_zero = record { each = λ k l. absurd (omega arith); some = λ n. absurd (n refl) }

  pub alike_past : {b : ℕ} {class : Class} → is_period p b ≡ false → Alike b class → Alike (b + 1) class
  alike_past i w =
      record {
        each = below_more _ _ w.each (λ t. absurd (true_not_false t i));
        some = λ n. let s = w.some n in (s.0, omega (arith, s.1), s.2);
      }

  module _ {b : ℕ} {class : Class} (i : is_period p b ≡ true) (like : is_like class (class_of p b) ≡ true) (w : Alike b class) where
    -- an empty period, and one with doses
    on_empty : class_of p b ≡ Empty → Alike (b + 1) class
    on_empty e =
        record {
          each = below_more _ _ w.each (λ t. inl e);
          some = λ n. let s = w.some n in (s.0, omega (arith, s.1), s.2);
        }

    on_dosed : (class_of p b ≡ Empty → ⊥) → Alike (b + 1) (class_of p b)
    on_dosed d =
        record {
          each = below_more _ _ ahead (λ t. inr refl);
          some = λ n. (b, omega arith, rw (i, is_not_empty (class_of p b) d));
        }
      where
        ahead : (k : ℕ) → k < b → is_period p k ≡ true → (class_of p k ≡ Empty) ⊎ (class_of p k ≡ class_of p b)
        ahead k l t =
            ⊎_elim
            (λ (e : class_of p k ≡ Empty). inl e)
            (λ (e : class_of p k ≡ class). ⊎_elim (λ (z : class ≡ Empty). inl (e ∙ z)) (λ z. inr (e ∙ sym z)) (like_is class (class_of p b) like d))
            (w.each k l t)

    pub alike_on : Alike (b + 1) (class_with class (class_of p b))
    unfolding class_with
    alike_on =
        by_test (is_empty (class_of p b))
        (λ t. rw t (on_empty (empty_is (class_of p b) t)))
        (λ t. rw t (on_dosed (not_empty_is (class_of p b) t)))

  module _ {n : ℕ} {class : Class} (end : blocks_of p ≤ n) (upto : n ≤ blocks_of p) (w : Alike n class) where
    -- rule 15
    pub alike_dosed : (class ≡ Empty → ⊥) → bare p ≡ false
    alike_dosed d = let s = w.some d in dosed_not_bare p {b = s.0} (omega (arith, s.1)) s.2

    -- a group that has one of the periods has that class, and so its cover has all
    module _ (g : Group) (dosed : in_group g Empty ≡ false) (empty : in_group (cover_of g) Empty ≡ true) where
      in_cover : {x : ℕ} → x < blocks_of p → is_member g p x ≡ true → (z : ℕ) → z < blocks_of p → is_period p z ≡ true → is_member (cover_of g) p z ≡ true
      in_cover {x} l m z k t =
          member_in (cover_of g) p z t
          (⊎_elim
          (λ (e : class_of p z ≡ Empty). rw e empty)
          (λ (e : class_of p z ≡ class).
          ⊎_elim
          (λ (f : class_of p x ≡ Empty). absurd (true_not_false (rw f at (member_group g p x m)) dosed))
          (λ (f : class_of p x ≡ class). let here : in_group g class ≡ true = rw f at (member_group g p x m) in rw e (wide g class here))
          (w.each x (omega arith) (member_period g p x m)))
          (w.each z (omega arith) t))

      to_all : {lo hi x : ℕ} → Meets g p lo hi x → meets All p lo hi ≡ true
      to_all {lo} {hi} {x} m =
          some_meets All p lo hi (record {
            within = m.within;
            member = member_in All p x (member_period g p x m.member) refl;
            before = m.before;
            after = m.after;
          })

      pub alike_whole : hole All All p ≡ false → hole g (cover_of g) p ≡ false
      unfolding hole
      alike_whole none =
          not_true_false _
          (λ e.
          let s = any_some (hole_at g (cover_of g) p) (last_number + 1) e in
          let d = s.0 in
          let h = hole_parts g (cover_of g) p d s.2 in
          let x = meets_some g p 0 d h.early in
          let y = meets_some g p d last_number h.late in
          by_test (meets All p d d)
          (λ t.
          let z = meets_some All p d d t in
          unmet (cover_of g) p d d h.clear (record {
            within = z.1.within;
            member = in_cover x.1.within x.1.member z.0 z.1.within (member_period All p z.0 z.1.member);
            before = z.1.before;
            after = z.1.after;
          }))
          (λ t.
          true_not_false
          (parts_hole All All p d (record { early = to_all x.1; late = to_all y.1; clear = t }))
          (any_not (hole_at All All p) none d s.1)))

    -- rule 17
    pub alike_holes : hole All All p ≡ false → holes p ≡ false
    unfolding holes
    alike_holes none = rw (none, alike_whole Fixed refl refl none, alike_whole Need refl refl none)
