-- A walk over the periods of each of two groups shows that rule 16 is kept. Assumes nothing.
use Prim.Native.Nat.{ℕ, ◌+◌, ◌≤◌, ◌<◌, max}
use mathlib.Core.Bool.{Bool, true, false, not, ◌&&◌, ◌||◌}
use mathlib.Core.List.{List}
use mathlib.Core.Logic.{⊎_elim}
use mathlib.Core.Path.{◌≡◌, refl}
use native.Mathlib.Omega.{arith}
use lib.Dec.{leb, ltb}
use borrow.Author.Count.{below_more}
use borrow.Author.Tests.{leb-true, ltb-false, not-true}
use Rattle.below.specs.Below.{any_below}
use Rattle.below.proofs.Search.{any_some}
use Rattle.below.proofs.Tests.{and_both, or_either, not_true_false, true_not_false}
use Rattle.plan.specs.Fields.{first_of, last_of}
use Rattle.plan.specs.Periods.{block_at, is_period, class_of}
use Rattle.plan.specs.declared.Class.{Class}
use Rattle.plan.specs.declared.Class.TheVariants.{Empty}
use Rattle.plan.specs.declared.Class.TheVariants as class
use Rattle.verdict.specs.Coverage.{has_days, may_share, shares_with, shares, in_group, is_member}
use Rattle.verdict.specs.Code.Walks.{span_of, free_on}
use Rattle.verdict.specs.declared.Group.TheVariants.{All, FixedOrEmpty, Need}
use Rattle.verdict.specs.declared.Group.{Group}
use Rattle.std.specs.Prelude.{Option, Some, None, IfSome, is_some}
use Rattle.verdict.proofs.Members.{by_test, under, member_in, member_none, member_out}

module _ (g : Group) (p : List ℕ) where
  -- in block order, the periods of the group at the blocks below b lie one behind the other
  abbrev ApartBelow : ℕ → Type 0
  ApartBelow b =
      (k : ℕ) → k < b → is_member g p k ≡ true → (a : ℕ) → a < k → is_member g p a ≡ true →
      last_of (block_at p a) < first_of (block_at p k)

  -- and day `free` is behind all of them
  record Walked (b free : ℕ) : Type 0 where
    behind : (k : ℕ) → k < b → is_member g p k ≡ true → last_of (block_at p k) < free
    apart : ApartBelow b

  past : {b free : ℕ} → is_member g p b ≡ false → Walked b free → Walked (b + 1) free
  past n w =
      record {
        behind = below_more _ _ w.behind (λ m. absurd (true_not_false m n));
        apart = below_more _ _ w.apart (λ m. absurd (true_not_false m n));
      }

  more : {b free : ℕ} → free ≤ first_of (block_at p b) → Walked b free →
      Walked (b + 1) (max free (last_of (block_at p b) + 1))
  more f w =
      record {
        behind = below_more _ _ (λ k l m. omega (arith, w.behind k l m)) (λ m. omega arith);
        apart = below_more _ _ w.apart (λ m a l k. omega (arith, w.behind a l k));
      }

  -- what the walk holds when it stands at block b
  pub record Walks (b : ℕ) (s : Option ℕ) : Type 0 where
    found : IfSome s (λ free. Walked b free)

  pub walks_zero : Walks 0 (Some 0)
  walks_zero = record { found = record { behind = λ k l. absurd (omega arith); apart = λ k l. absurd (omega arith) } }

  pub walks_past : {b : ℕ} {s : Option ℕ} → is_period p b ≡ false → Walks b s → Walks (b + 1) s
  walks_past {b} {s = None} i w = record { found = tt }
  walks_past {b} {s = Some day} i w = record { found = past (member_none g p b i) w.found }

  pub walks_on : {b : ℕ} {s : Option ℕ} → Walks b s → Walks (b + 1) (free_on g (span_of p b) s)
  unfolding free_on
  walks_on {b} {s = None} w = record { found = tt }
  walks_on {b} {s = Some day} w =
      by_test (in_group g (class_of p b))
      (λ t.
      by_test (ltb (first_of (block_at p b)) day)
      (λ u. rw (t, u) (record { found = tt }))
      (λ u. rw (t, u) (record { found = more (ltb-false _ _ u) w.found })))
      (λ t. rw t (record { found = past (member_out g p b t) w.found }))

  -- .. and has found where it came to its end
  pub walked : {n : ℕ} {s : Option ℕ} → Walks n s → is_some s ≡ true → ApartBelow n
  walked {n} {s = None} w h = absurd (true_not_false h refl)
  walked {n} {s = Some day} w h = w.found.apart

-- both classes are in the group
together : Group → Class → Class → Bool
together g x y = in_group g x && in_group g y

-- classes that may not share a day are together in one of two groups
one_group : (x y : Class) → (may_share x y || (together FixedOrEmpty x y || together Need x y)) ≡ true
unfolding together
one_group Empty Empty = refl
one_group class.Fixed Empty = refl
one_group class.Need Empty = refl
one_group class.Mixed Empty = refl
one_group x y = refl

module _ (p : List ℕ) {n a b : ℕ} (l : a < b) (q : b < n) (i : is_period p a ≡ true) (j : is_period p b ≡ true) where
  clash : (g : Group) → ApartBelow g p n → first_of (block_at p b) ≤ last_of (block_at p a) →
      together g (class_of p a) (class_of p b) ≡ true → ⊥
  unfolding together
  clash g apart days t =
      let x = and_both (in_group g (class_of p a)) _ t in
      omega (arith, apart b q (member_in g p b j x.1) a l (member_in g p a i x.0))

-- what breaks rule 16 at block b: a period ahead of it
record Shared (p : List ℕ) (b : ℕ) : Type 0 where
  a : ℕ
  ahead : a < b
  this : is_period p b ≡ true
  that : is_period p a ≡ true
  days : first_of (block_at p b) ≤ last_of (block_at p a)
  classes : may_share (class_of p a) (class_of p b) ≡ false

shared : (p : List ℕ) (b : ℕ) → shares p b ≡ true → Shared p b
unfolding shares shares_with
shared p b e =
    let x = and_both (is_period p b) (any_below b (shares_with p b)) e in
    let k = any_some (shares_with p b) b x.1 in
    let y = and_both (is_period p k.0 && has_days p (first_of (block_at p b)) (last_of (block_at p b)) k.0) _ k.2 in
    let z = and_both (is_period p k.0) _ y.0 in
    record {
      a = k.0;
      ahead = k.1;
      this = x.0;
      that = z.0;
      days = leb-true _ _ (and_both (leb (first_of (block_at p k.0)) (last_of (block_at p b))) _ z.1).1;
      classes = not-true _ y.1;
    }

-- where both walks came to their end, no period breaks rule 16
module _ (p : List ℕ) {n : ℕ} {s t : Option ℕ} (f : Walks FixedOrEmpty p n s) (d : Walks Need p n t) where
  pub walks_end : is_some s ≡ true → is_some t ≡ true → (b : ℕ) → b < n → shares p b ≡ false
  walks_end g h b l =
      not_true_false _
      (λ e.
      let x = shared p b e in
      let one = one_group (class_of p x.a) (class_of p b) in
      ⊎_elim
      (clash p x.ahead l x.that x.this FixedOrEmpty (walked FixedOrEmpty p f g) x.days)
      (clash p x.ahead l x.that x.this Need (walked Need p d h) x.days)
      (or_either _ _ (rw x.classes at one)))

-- .. nor where one over all periods did
pub walks_all : (p : List ℕ) {n : ℕ} {s : Option ℕ} → Walks All p n s → is_some s ≡ true → (b : ℕ) → b < n → shares p b ≡ false
unfolding together
walks_all p f h b l =
    not_true_false _
    (λ e. let x = shared p b e in clash p x.ahead l x.that x.this All (walked All p f h) x.days refl)

-- the test of two periods by their classes, which are known where they are periods
module _ (p : List ℕ) (a b : ℕ) {x y : Class} (k : is_period p a ≡ true → x ≡ class_of p a) (j : y ≡ class_of p b) where
  pub shares_by_classes :
      (is_period p a
      && has_days p (first_of (block_at p b)) (last_of (block_at p b)) a
      && not (may_share x y))
      ≡ shares_with p b a
  unfolding shares_with
  shares_by_classes =
      rw j
      (under
      (is_period p a && has_days p (first_of (block_at p b)) (last_of (block_at p b)) a)
      (λ x. not (may_share x (class_of p b)))
      (λ e. k (and_both (is_period p a) _ e).0))
