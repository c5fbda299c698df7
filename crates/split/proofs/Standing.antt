-- How the dosed periods of a part, its runs and the empty periods stand in a plan that keeps the rules. Assumes nothing.
use Prim.Native.Nat.{ℕ, ◌+◌, ◌≤◌, ◌<◌}
use mathlib.Core.Bool.{Bool, true, false, ◌&&◌}
use mathlib.Core.List.{List}
use mathlib.Core.Logic.{⊎_elim}
use mathlib.Core.Path.{◌≡◌, refl}
use native.Mathlib.Nat.{eq-or-lt_of_le}
use native.Mathlib.Omega.{arith}
use lib.Dec.{leb, ltb}
use borrow.Author.Tests.{leb-true, ltb-true}
use Rattle.below.proofs.Tests.{and_both, true_not_false, not_true_false}
use Rattle.day.specs.Days.{last_number}
use Rattle.form.proofs.Formed.{dated}
use Rattle.plan.specs.Fields.{first_of, last_of}
use Rattle.plan.specs.Periods.{blocks_of, block_at, is_period, class_of}
use Rattle.plan.specs.Classes.{is_empty}
use Rattle.plan.specs.declared.Class.{Class}
use Rattle.plan.specs.declared.Class.TheVariants.{Empty, Fixed, Need, Mixed}
use Rattle.plan.proofs.Emptiness.{empty_is}
use Rattle.verdict.proofs.Members.{member_period}
use Rattle.verdict.specs.Coverage.{in_group, may_share, has_days, is_member}
use Rattle.split.specs.Parts.{group_of, is_dosed_in, next_dosed, run_first, run_last, has_run, shares_run}
use Rattle.split.proofs.Kept.{Kept}
use Rattle.split.proofs.Next.{next_is, next_le}

-- the period at block b has no doses
abbrev pub is_blank : List ℕ → ℕ → Bool
is_blank p b = is_period p b && is_empty (class_of p b)

-- no two classes of one part may share a day
part_alone : (m : Bool) (x y : Class) → in_group (group_of m) x ≡ true → in_group (group_of m) y ≡ true → may_share x y ≡ false
part_alone true Need Need s t = refl
part_alone true Need Mixed s t = refl
part_alone true Need y s t = absurd (true_not_false t refl)
part_alone true Mixed y s t = refl
part_alone true x y s t = absurd (true_not_false s refl)
part_alone false Fixed Fixed s t = refl
part_alone false Fixed Mixed s t = refl
part_alone false Fixed y s t = absurd (true_not_false t refl)
part_alone false Mixed y s t = refl
part_alone false x y s t = absurd (true_not_false s refl)

module _ {p : List ℕ} (k : Kept p) where
  -- a period's days are in order, and days of the calendar
  pub days : (b : ℕ) → b < blocks_of p → is_period p b ≡ true → (first_of (block_at p b) ≤ last_of (block_at p b)) × (last_of (block_at p b) ≤ last_number)
  days = dated k.form

  -- two empty periods share no day
  pub blank_apart : (b c : ℕ) → b < c → c < blocks_of p → is_blank p b ≡ true → is_blank p c ≡ true → last_of (block_at p b) < first_of (block_at p c)
  blank_apart b c l q s t =
      let x = and_both (is_period p b) _ s in
      let y = and_both (is_period p c) _ t in
      let e : class_of p b ≡ Empty = empty_is _ x.1 in
      let f : class_of p c ≡ Empty = empty_is _ y.1 in
      k.apart b c l q x.0 y.0 (rw (e, f))

module _ (p : List ℕ) where
  pub blank_period : (b : ℕ) → is_blank p b ≡ true → is_period p b ≡ true
  blank_period b t = (and_both (is_period p b) _ t).0

  -- what it says that an empty period shares days with a run
  pub record Shared (lo hi e : ℕ) : Type 0 where
    pub blank : is_blank p e ≡ true
    pub before : first_of (block_at p e) ≤ hi
    pub after : lo ≤ last_of (block_at p e)

  pub shared_is : (lo hi e : ℕ) → shares_run p lo hi e ≡ true → Shared lo hi e
  shared_is lo hi e t =
      let x = and_both (is_blank p e) (has_days p lo hi e) t in
      let y = and_both (leb (first_of (block_at p e)) hi) _ x.1 in
      record { blank = x.0; before = leb-true _ _ y.0; after = leb-true _ _ y.1 }

module _ (m : Bool) (p : List ℕ) where
  pub dosed_period_lem : (b : ℕ) → is_dosed_in m p b ≡ true → is_period p b ≡ true
  dosed_period_lem b t = member_period (group_of m) p b t

  dosed_class : (b : ℕ) → is_dosed_in m p b ≡ true → in_group (group_of m) (class_of p b) ≡ true
  unfolding is_member
  dosed_class b t = (and_both (is_period p b) _ t).1

  -- a dosed period is not empty
  pub dosed_not_blank : (b : ℕ) → is_dosed_in m p b ≡ true → is_blank p b ≡ false
  dosed_not_blank b t =
      not_true_false _
      (λ s.
      let e : class_of p b ≡ Empty = empty_is _ (and_both (is_period p b) _ s).1 in
      true_not_false (rw e at (dosed_class b t)) (none_empty m))
    where
      none_empty : (m : Bool) → in_group (group_of m) Empty ≡ false
      none_empty true = refl
      none_empty false = refl

  -- what it says that there is a run behind block b
  pub record Run (b : ℕ) : Type 0 where
    pub next : next_dosed m p b < blocks_of p
    pub days : run_first p b ≤ run_last m p b

  pub run_is : (b : ℕ) → has_run m p b ≡ true → Run b
  run_is b t =
      let x = and_both (ltb (next_dosed m p b) (blocks_of p)) _ t in
      record { next = ltb-true _ _ x.0; days = leb-true _ _ x.1 }

  -- day x is behind the dosed periods that begin ahead of block b, and behind their runs
  abbrev pub Past : ℕ → ℕ → Type 0
  Past b x =
      (c : ℕ) → c < b → is_dosed_in m p c ≡ true →
      (last_of (block_at p c) < x) × (has_run m p c ≡ true → run_last m p c < x)

  module _ (k : Kept p) where
    pub dosed_days : (b : ℕ) → b < blocks_of p → is_dosed_in m p b ≡ true → (first_of (block_at p b) ≤ last_of (block_at p b)) × (last_of (block_at p b) ≤ last_number)
    dosed_days b l t = days k b l (dosed_period_lem b t)

    -- two dosed periods of a part share no day, and stand in order
    pub dosed_apart : (b c : ℕ) → b < c → c < blocks_of p → is_dosed_in m p b ≡ true → is_dosed_in m p c ≡ true → last_of (block_at p b) < first_of (block_at p c)
    dosed_apart b c l q s t =
        k.apart b c l q (dosed_period_lem b s) (dosed_period_lem c t)
        (part_alone m (class_of p b) (class_of p c) (dosed_class b s) (dosed_class c t))

    -- and none begins before one that stands ahead of it
    pub dosed_rising : (b c : ℕ) → b ≤ c → c < blocks_of p → is_dosed_in m p b ≡ true → is_dosed_in m p c ≡ true → first_of (block_at p b) ≤ first_of (block_at p c)
    dosed_rising b c l q s t =
        ⊎_elim
        (λ (e : b ≡ c). rw e (omega arith))
        (λ h. k.rising b c h q (dosed_period_lem b s) (dosed_period_lem c t))
        (eq-or-lt_of_le l)

    -- what stands ahead of a dosed period ends before it
    pub past_dosed : (b : ℕ) → b < blocks_of p → is_dosed_in m p b ≡ true → Past b (first_of (block_at p b))
    past_dosed b l t c h s = (
      dosed_apart c b h l s t,
      λ r.
          let run = run_is c r in
          let next = next_is m p c (omega arith) in
          let f = dosed_rising (next_dosed m p c) b (next_le m p c b h l t) l (next.dosed run.next) t in
          omega (arith, run.days, f),
    )

    -- and all of it ends by the calendar's last day
    pub past_all : Past (blocks_of p) (last_number + 1)
    past_all c l s = (
      omega (arith, dosed_days c l s),
      λ r.
          let run = run_is c r in
          omega (arith, dosed_days (next_dosed m p c) run.next ((next_is m p c l).dosed run.next)),
    )
