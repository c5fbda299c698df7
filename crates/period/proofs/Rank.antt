-- What rules 10 and 11 say of two doses, and the last dose of a kind. Assumes nothing.
use Prim.Native.Nat.{ℕ, ◌+◌, ◌≤◌}
use mathlib.Core.Bool.{Bool, true, false, cond, not, ◌&&◌, ◌||◌, beq}
use mathlib.Core.Logic.{◌⊎◌, inl, inr, ⊎_elim}
use mathlib.Core.Path.{◌≡◌, refl, sym, ◌∙◌}
use native.Mathlib.Omega.{arith}
use lib.Dec.{eqb, leb}
use borrow.Author.Tests.{eq-eqb, eqb-true, eqb-false, leb-true, not-true}
use Rattle.below.proofs.Tests.{bool_cases, and_both, or_either}
use Rattle.plan.specs.declared.Dose.{Dose}
use Rattle.plan.specs.Fields.{is_marked}
use Rattle.period.specs.Doses.{same_day, is_timed, is_untimed, twice, other_amounts}
use Rattle.period.specs.Code.Turn.{is_clock, rank_of, last_at, same_amounts, is_like, turned}
use Rattle.period.specs.declared.turn.Walk.{Walk}

-- two marks are one
pub same_is : (a b : Bool) → beq a b ≡ true → a ≡ b
same_is true true e = refl
same_is false false e = refl
same_is true false e = sym e
same_is false true e = e

-- what rule 10's test says of two doses
pub record Twice (d e : Dose) : Type 0 where
  pub day : d.day ≡ e.day
  pub kind : d.kind ≡ e.kind
  pub way : (is_timed d ≡ true) ⊎ (is_clock d ≡ true) × (d.minute ≡ e.minute)

pub twice_is : (d e : Dose) → twice d e ≡ true → Twice d e
twice_is d e h =
    let x = and_both (same_day d e && eqb d.kind e.kind) (is_timed d || (eqb d.kind 5 && eqb d.minute e.minute)) h in
    let y = and_both (same_day d e) (eqb d.kind e.kind) x.0 in
    record {
      day = eqb-true _ _ y.0;
      kind = eqb-true _ _ y.1;
      way =
          ⊎_elim
          (λ (t : is_timed d ≡ true). inl t)
          (λ t.
          let k = and_both (eqb d.kind 5) (eqb d.minute e.minute) t in
          inr (k.0, eqb-true _ _ k.1))
          (or_either (is_timed d) (eqb d.kind 5 && eqb d.minute e.minute) x.1);
    }

pub timed_is : (d : Dose) → is_timed d ≡ true → (1 ≤ d.kind) × (d.kind ≤ 4)
timed_is d t = let k = and_both (leb 1 d.kind) (leb d.kind 4) t in (leb-true _ _ k.0, leb-true _ _ k.1)

pub same_rank : (d e : Dose) → d.day ≡ e.day → d.minute ≡ e.minute → rank_of d ≡ rank_of e
unfolding rank_of
same_rank d e day minute = rw (day, minute)

-- by the kinds 1 to 4
pub by_kind : (P : ℕ → Type 0) → P 1 → P 2 → P 3 → P 4 → (k : ℕ) → 1 ≤ k → k ≤ 4 → P k
by_kind P p1 p2 p3 p4 k a b =
    ⊎_elim
    (λ (e : eqb k 1 ≡ true). rw (eqb-true k 1 e) p1)
    (λ (n1 : eqb k 1 ≡ false).
    ⊎_elim
    (λ (e : eqb k 2 ≡ true). rw (eqb-true k 2 e) p2)
    (λ (n2 : eqb k 2 ≡ false).
    ⊎_elim
    (λ (e : eqb k 3 ≡ true). rw (eqb-true k 3 e) p3)
    (λ (n3 : eqb k 3 ≡ false).
    let e : k ≡ 4 = omega (arith, eqb-false k 1 n1, eqb-false k 2 n2, eqb-false k 3 n3) in rw e p4)
    (bool_cases (eqb k 3)))
    (bool_cases (eqb k 2)))
    (bool_cases (eqb k 1))

-- the last dose of a kind from 1 to 4, with dose j
pub last_more : (s : Walk) (d : Dose) (j rule k : ℕ) → 1 ≤ k → k ≤ 4 → last_at (turned s d j rule) k ≡ cond (eqb d.kind k) (j + 1) (last_at s k)
unfolding turned
last_more s d j rule =
    by_kind (λ k. last_at (turned s d j rule) k ≡ cond (eqb d.kind k) (j + 1) (last_at s k)) refl refl refl refl

-- the parts of rule 11's test
pub record Others (d e : Dose) : Type 0 where
  pub day : d.day ≡ e.day
  pub like : is_like d e ≡ true
  pub amounts : same_amounts d e ≡ false

pub others : (d e : Dose) → other_amounts d e ≡ true → Others d e
others d e h =
    let x = and_both (same_day d e && is_untimed d && is_untimed e && beq (is_marked d) (is_marked e)) (not (same_amounts d e)) h in
    let y = and_both (same_day d e && is_untimed d && is_untimed e) (beq (is_marked d) (is_marked e)) x.0 in
    let z = and_both (same_day d e && is_untimed d) (is_untimed e) y.0 in
    let w = and_both (same_day d e) (is_untimed d) z.0 in
    record {
      day = eqb-true _ _ w.0;
      like = rw (w.1, z.1, y.1);
      amounts = not-true (same_amounts d e) x.1;
    }

pub other_of : (d e : Dose) → Others d e → other_amounts d e ≡ true
other_of d e o =
    let x = and_both (is_untimed d && is_untimed e) (beq (is_marked d) (is_marked e)) o.like in
    rw (eq-eqb d.day e.day o.day, x.0, x.1, o.amounts)

-- doses like a third are like each other, and amounts like a third's are alike
same_mark : (a b c : Bool) → beq a c ≡ true → beq b c ≡ true → beq a b ≡ true
same_mark true true c h k = refl
same_mark false false c h k = refl
same_mark true false true h k = k
same_mark true false false h k = h
same_mark false true true h k = h
same_mark false true false h k = k

pub like_like : (d e f : Dose) → is_like d f ≡ true → is_like e f ≡ true → is_like d e ≡ true
like_like d e f h k =
    let x = and_both (is_untimed d && is_untimed f) (beq (is_marked d) (is_marked f)) h in
    let y = and_both (is_untimed e && is_untimed f) (beq (is_marked e) (is_marked f)) k in
    rw ((and_both (is_untimed d) (is_untimed f) x.0).0, (and_both (is_untimed e) (is_untimed f) y.0).0)
    (same_mark (is_marked d) (is_marked e) (is_marked f) x.1 y.1)

pub amounts_on : (d e f : Dose) → same_amounts d e ≡ true → same_amounts e f ≡ true → same_amounts d f ≡ true
amounts_on d e f h k =
    let x = and_both (eqb d.low e.low) (eqb d.high e.high) h in
    let y = and_both (eqb e.low f.low) (eqb e.high f.high) k in
    rw (eq-eqb d.low f.low (eqb-true _ _ x.0 ∙ eqb-true _ _ y.0), eq-eqb d.high f.high (eqb-true _ _ x.1 ∙ eqb-true _ _ y.1))
