use Rattle.std.proofs.Common.{◌≡◌, ℕ, ◌+◌, ◌-◌, ◌^◌, ◌<◌, ◌≤◌, max, true, false, refl, sym, ◌∙◌, ⊎_elim, arith, rules}
use native.Mathlib.Nat.{eq-or-lt_of_le}
use Rattle.std.specs.Prelude.{Option, Some, None, is_some, unwrap_or}
use Rattle.std.specs.Option.{option_cmp}
use Rattle.std.specs.Ordering.{ord_max, nat_cmp}
use Rattle.std.specs.Cmp.{nat_cmp_is}
use Rattle.std.specs.declared.cmp.Ordering.TheVariants.{Less, Equal, Greater}
use Rattle.std.proofs.lemmas.Bool.{cases_lt}
use Rattle.below.proofs.Tests.{and_false}
use Rattle.plan.specs.Periods.{blocks_of}
use Rattle.need.specs.Telling.{is_told}
use Rattle.need.proofs.Found.{found_none, found_hit, found_miss, found_all}
use Rattle.need.proofs.Telling.{behind_none, behind_half, behind_first, set_past}
use Rattle.need.proofs.stopping.stop_of.Goals as goal
use Rattle.need.proofs.stopping.stop_of.Goals.{then-is_told, else-is_told}

-- the later of two days, where the first may be none
later : (s : Option ℕ) (l : ℕ) →
    (is_some (ord_max (option_cmp nat_cmp) s (Some l)) ≡ true) × (unwrap_or (ord_max (option_cmp nat_cmp) s (Some l)) 0 ≡ max (unwrap_or s 0) l)
later None l = (refl, omega arith)
later (Some d) l =
    ⊎_elim
    (λ (h : l < d). rw (← nat_cmp_is l d Less h) (refl, omega arith))
    (λ (h : d ≤ l).
    ⊎_elim (λ (e : d ≡ l). rw (← nat_cmp_is l d Equal (sym e)) (refl, omega arith)) (λ (g : d < l). rw (← nat_cmp_is l d Greater g) (refl, omega arith))
    (eq-or-lt_of_le h))
    (cases_lt l d)

pub loop-b-init : goal.loop-b-init
loop-b-init c = (behind_none _, found_none _ _)

pub loop-b-preserved : goal.loop-b-preserved
loop-b-preserved c =
    let a = c.args in
    let l = c.loop-b in
    let first = behind_first l.invariant.0 in
    elim c.if-is_told.branch [
      | then-is_told w ↦
          let h : is_told a.chosen a.plan.now l.b ≡ true = rw first (sym c.is_told.ensures ∙ w.if-is_told.true) in
          let m = later l.stop w.last_of.result in
          rw (w.stop-is, w.max-stop.ensures, m.0) (behind_half l.invariant.0, found_hit _ _ l.invariant.1 h (cc) m.1)
      | else-is_told w ↦
          let h : is_told a.chosen a.plan.now l.b ≡ false = rw first (sym c.is_told.ensures ∙ w.if-is_told.false) in
          rw w.stop-is (behind_half l.invariant.0, found_miss _ _ l.invariant.1 h)
    ]

pub returns : goal.returns
returns c =
    let a = c.args in
    let p = a.plan.now in
    let l = c.loop-b in
    let small : a.chosen < 2 ^ 32 = search rules in
    let e : l.b + (blocks_of p - l.b) ≡ blocks_of p = omega arith in
    let f = rw e at (found_all _ _ l.invariant.1 (blocks_of p - l.b) (λ k h m. rw (set_past 32 a.chosen k small (omega arith), and_false))) in
    (f.any_is, f.day_is)
