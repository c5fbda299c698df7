use Prim.Native.Nat.{◌≤◌, ◌<◌}
use mathlib.Core.Bool.{not, ◌&&◌}
use Rattle.std.specs.Prelude.{is_some}
use mathlib.Core.Path.{refl, sym, ◌∙◌}
use native.Mathlib.Omega.{arith}
use borrow.Author.Tests.{not-true}
use Rattle.below.proofs.Tests.{and_both, true_not_false}
use Rattle.plan.specs.Periods.{blocks_of}
use Rattle.plan.proofs.Emptiness.{not_empty_is}
use Rattle.verdict.proofs.Alike.{alike_zero, alike_past, alike_on, alike_dosed, alike_holes}
use Rattle.verdict.proofs.Apart.{walks_zero, walks_past, walks_on, walks_all}
use Rattle.verdict.proofs.Reach.{reaches_zero, reaches_past, reaches_on, reaches_end}
use borrow.Author.Rules.{rules}
use Rattle.verdict.proofs.classed_plan.ClassedPlan.is_alike.Goals as goal

pub loop-b-init : goal.loop-b-init
loop-b-init c = (search rules, walks_zero _ _, reaches_zero _ _, alike_zero _)

pub loop-b-preserved-then-not-is_period : goal.loop-b-preserved-then-not-is_period
loop-b-preserved-then-not-is_period c = let l = c.loop-b in
    let i = sym c.is_period.ensures ∙ c.if-not-is_period.true in
    (search rules, walks_past _ _ i l.invariant.1, reaches_past _ _ i l.invariant.2, alike_past _ i l.invariant.3)

pub span_at-q-requires : goal.span_at-q-requires
span_at-q-requires c = (omega (arith, c.loop-b-test.true, c.blocks-n.ensures), sym c.is_period.ensures ∙ c.if-not-is_period.false)

pub returns-then-not-is_like : goal.returns-then-not-is_like
returns-then-not-is_like c = λ e. absurd (true_not_false e refl)

pub overflow_step-b-in-loop-b : goal.overflow_step-b-in-loop-b
overflow_step-b-in-loop-b c = omega (arith, c.loop-b-test.true, c.args.self.classed.few)

pub loop-b-preserved : goal.loop-b-preserved
loop-b-preserved c = let l = c.loop-b in
    let n : l.b < blocks_of c.args.self.plan.now = omega (arith, c.loop-b-test.true, c.blocks-n.ensures) in
    let i = sym c.is_period.ensures ∙ c.if-not-is_period.false in
    let q = c.span_at-q.ensures in
    let like = rw q at (sym c.is_like.ensures ∙ c.if-not-is_like.false) in (
      search rules,
      rw (c.free_on-free.ensures, q) (walks_on _ _ l.invariant.1),
      rw (c.reach_on-all.ensures, q) (reaches_on _ _ n i l.invariant.2),
      rw (c.class_with-class.ensures, q) (alike_on _ i like l.invariant.3),
    )

pub returns : goal.returns
returns c = λ e.
    let l = c.loop-b in
    let p = c.args.self.plan.now in
    let end : blocks_of p ≤ l.b = omega (arith, c.loop-b-test.false, c.blocks-n.ensures) in
    let upto : l.b ≤ blocks_of p = omega arith in
    let t = and_both (not c.is_empty.result && is_some l.free) (is_some l.all) (rw (c.is_some.ensures, c.is_some-2.ensures) at e) in
    let o = and_both (not c.is_empty.result) _ t.0 in (
      alike_dosed p end upto l.invariant.3 (not_empty_is l.class (sym c.is_empty.ensures ∙ not-true _ o.0)),
      λ b m. walks_all p l.invariant.1 o.1 b (omega arith),
      alike_holes p end upto l.invariant.3 (reaches_end _ _ end l.invariant.2 t.1),
    )
