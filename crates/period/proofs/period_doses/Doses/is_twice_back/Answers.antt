use mathlib.Core.Path.{sym, ◌∙◌}
use borrow.Author.Rules.{rules}
use Rattle.below.proofs.Search.{none_zero, none_more}
use Rattle.plan.specs.Periods.{dose_in}
use Rattle.period.proofs.Seen.{back_hit, back_end, back_stop}
use Rattle.period.proofs.period_doses.Doses.is_twice_back.Goals as goal

pub loop-i-init : goal.loop-i-init
loop-i-init c = (search rules, none_zero _)

pub returns-then-e-d : goal.returns-then-e-d
returns-then-e-d c =
    let e = c.dose_in-e.ensures in
    let d = c.dose_in-d.ensures in
    back_stop (dose_in c.args.self.plan.now c.args.self.b) c.requires.1 c.requires.0 c.loop-i-test.true c.loop-i.invariant.1
    (rw (e, d) at c.if-e-d.true)

pub returns-then-is_twice : goal.returns-then-is_twice
returns-then-is_twice c =
    let e = c.dose_in-e.ensures in
    let d = c.dose_in-d.ensures in
    back_hit (dose_in c.args.self.plan.now c.args.self.b) c.requires.1 c.requires.0 c.loop-i-test.true
    (rw (e, d) at (sym c.is_twice.ensures ∙ c.if-is_twice.true))

pub loop-i-preserved : goal.loop-i-preserved
loop-i-preserved c =
    let e = c.dose_in-e.ensures in
    let d = c.dose_in-d.ensures in
    (search rules, none_more _ c.loop-i.invariant.1 (rw (e, d) at (sym c.is_twice.ensures ∙ c.if-is_twice.false)))

pub returns : goal.returns
returns c =
    back_end (dose_in c.args.self.plan.now c.args.self.b) c.requires.1 c.requires.0 c.loop-i-test.false c.loop-i.invariant.1
