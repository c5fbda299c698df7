-- Laws that the proofs of rules 15 to 17 share: of classes that are worked out ahead, and of members of a group. Assumes
-- nothing.
use Prim.Native.Nat.{ℕ, ◌<◌}
use mathlib.Core.Bool.{Bool, true, false, ◌&&◌}
use mathlib.Core.List.{List}
use mathlib.Core.Logic.{⊎_elim}
use mathlib.Core.Path.{◌≡◌, refl}
use lib.Dec.{eqb}
use borrow.Author.Tests.{eqb-false}
use Rattle.below.proofs.Search.{any_hit}
use Rattle.below.proofs.Tests.{bool_cases, and_both, both_and, and_false, or_true, true_not_false, not_true_false}
use Rattle.day.specs.Days.{closed_day, last_number, open_mark}
use Rattle.plan.specs.Periods.{blocks_of, is_period, class_of}
use Rattle.plan.specs.declared.Class.{Class}
use Rattle.verdict.specs.Coverage.{is_dosed, in_group, bare, is_member}
use Rattle.verdict.specs.Code.Groups.{cover_of}
use Rattle.verdict.specs.declared.Group.TheVariants.{All, Fixed, Need, FixedOrEmpty, NeedOrEmpty}
use Rattle.verdict.specs.declared.Group.{Group}

-- by whether a test holds
pub by_test : {A : Type 0} (t : Bool) → (t ≡ true → A) → (t ≡ false → A) → A
by_test t f g = ⊎_elim f g (bool_cases t)

-- two classes that agree where q holds: where it does not, neither matters
pub under : (q : Bool) (f : Class → Bool) {x y : Class} → (q ≡ true → x ≡ y) → (q && f x) ≡ (q && f y)
under true f h = rw (h refl)
under false f h = refl

module _ (p : List ℕ) where
  -- one period with doses, and rule 15 is kept
  pub dosed_not_bare : {b : ℕ} → b < blocks_of p → is_dosed p b ≡ true → bare p ≡ false
  unfolding bare
  dosed_not_bare {b} l e = rw (any_hit (is_period p) l (and_both (is_period p b) _ e).0, any_hit (is_dosed p) l e)

module _ (g : Group) (p : List ℕ) (b : ℕ) where
  pub member_period : is_member g p b ≡ true → is_period p b ≡ true
  unfolding is_member
  member_period m = (and_both (is_period p b) _ m).0

  pub member_group : is_member g p b ≡ true → in_group g (class_of p b) ≡ true
  unfolding is_member
  member_group m = (and_both (is_period p b) _ m).1

  pub member_in : is_period p b ≡ true → in_group g (class_of p b) ≡ true → is_member g p b ≡ true
  unfolding is_member
  member_in i j = rw (i, j)

  -- a block is no member where it begins no period, and where its class is not in the group
  pub member_none : is_period p b ≡ false → is_member g p b ≡ false
  unfolding is_member
  member_none i = rw i

  pub member_out : in_group g (class_of p b) ≡ false → is_member g p b ≡ false
  unfolding is_member
  member_out i = rw (i, and_false)

-- a group is in its cover
pub wide : (g : Group) (c : Class) → in_group g c ≡ true → in_group (cover_of g) c ≡ true
wide All c e = e
wide Fixed c e = rw (e, or_true)
wide Need c e = rw (e, or_true)
wide FixedOrEmpty c e = e
wide NeedOrEmpty c e = e

pub member_wide : (g : Group) (p : List ℕ) (b : ℕ) → is_member g p b ≡ true → is_member (cover_of g) p b ≡ true
unfolding is_member
member_wide g p b m = let x = and_both (is_period p b) _ m in both_and x.0 (wide g (class_of p b) x.1)

pub not_member : (g : Group) (p : List ℕ) (b : ℕ) → is_member (cover_of g) p b ≡ false → is_member g p b ≡ false
not_member g p b e = not_true_false _ (λ m. true_not_false (member_wide g p b m) e)

-- a closed end is never the open mark, the largest number, so the day after it fits
pub closed_not_open : (n : ℕ) → closed_day n ≡ open_mark → ⊥
closed_not_open n e =
    by_test (eqb n open_mark)
    (λ t. eqb-false last_number open_mark refl (rw t at e))
    (λ t. eqb-false n open_mark t (rw t at e))
