use Prim.Native.Nat.{◌≤◌, ◌<◌}
use mathlib.Core.Bool.{◌&&◌}
use Rattle.std.specs.Prelude.{is_some}
use mathlib.Core.Path.{sym, ◌∙◌}
use native.Mathlib.Omega.{arith}
use Rattle.plan.specs.Periods.{blocks_of}
use Rattle.below.proofs.Tests.{and_both, neither_or}
use Rattle.verdict.specs.Coverage.{holes}
use Rattle.verdict.proofs.Apart.{walks_zero, walks_past, walks_on, walks_end}
use Rattle.verdict.proofs.Reach.{reaches_zero, reaches_past, reaches_on, reaches_end}
use borrow.Author.Rules.{rules}
use Rattle.verdict.proofs.classed_plan.ClassedPlan.is_usual.Goals as goal

pub loop-b-init : goal.loop-b-init
loop-b-init c = (search rules, walks_zero _ _, walks_zero _ _, reaches_zero _ _, reaches_zero _ _, reaches_zero _ _)

pub loop-b-preserved-then-not-is_period : goal.loop-b-preserved-then-not-is_period
loop-b-preserved-then-not-is_period c = let l = c.loop-b in
    let i = sym c.is_period.ensures ∙ c.if-not-is_period.true in
    (search rules, walks_past _ _ i l.invariant.1, walks_past _ _ i l.invariant.2, reaches_past _ _ i l.invariant.3, reaches_past _ _ i l.invariant.4, reaches_past _ _ i l.invariant.5)

pub span_at-q-requires : goal.span_at-q-requires
span_at-q-requires c = (omega (arith, c.loop-b-test.true, c.blocks-n.ensures), sym c.is_period.ensures ∙ c.if-not-is_period.false)

pub overflow_step-b-in-loop-b : goal.overflow_step-b-in-loop-b
overflow_step-b-in-loop-b c = omega (arith, c.loop-b-test.true, c.args.self.classed.few)

pub loop-b-preserved : goal.loop-b-preserved
loop-b-preserved c = let l = c.loop-b in
    let n : l.b < blocks_of c.args.self.plan.now = omega (arith, c.loop-b-test.true, c.blocks-n.ensures) in
    let i = sym c.is_period.ensures ∙ c.if-not-is_period.false in
    let q = c.span_at-q.ensures in (
      search rules,
      rw (c.free_on-fixed_free.ensures, q) (walks_on _ _ l.invariant.1),
      rw (c.free_on-need_free.ensures, q) (walks_on _ _ l.invariant.2),
      rw (c.reach_on-all.ensures, q) (reaches_on _ _ n i l.invariant.3),
      rw (c.reach_on-fixed.ensures, q) (reaches_on _ _ n i l.invariant.4),
      rw (c.reach_on-need.ensures, q) (reaches_on _ _ n i l.invariant.5),
    )

pub returns : goal.returns
unfolding holes
returns c = λ e.
    let l = c.loop-b in
    let end : blocks_of c.args.self.plan.now ≤ l.b = omega (arith, c.loop-b-test.false, c.blocks-n.ensures) in
    let t = and_both (is_some l.fixed_free && is_some l.need_free) (is_some l.all && is_some l.fixed && is_some l.need) (rw (c.is_some.ensures, c.is_some-2.ensures, c.is_some-3.ensures, c.is_some-4.ensures, c.is_some-5.ensures) at e) in
    let f = and_both (is_some l.fixed_free) _ t.0 in
    let x = and_both (is_some l.all && is_some l.fixed) _ t.1 in
    let y = and_both (is_some l.all) _ x.0 in (
      λ b m. walks_end _ l.invariant.1 l.invariant.2 f.0 f.1 b (omega arith),
      neither_or
          (neither_or (reaches_end _ _ end l.invariant.3 y.0) (reaches_end _ _ end l.invariant.4 y.1))
          (reaches_end _ _ end l.invariant.5 x.1),
    )
