use mathlib.Core.Path.{◌≡◌, sym}
use native.Mathlib.Omega.{arith}
use Rattle.plan.proofs.Marks.{or_none, or_more}
use borrow.Author.Rules.{rules}
use Rattle.plan.proofs.periods.with_marks.Goals as goal

pub loop-i-init : goal.loop-i-init
loop-i-init c = (search rules, sym (or_none _ _), sym (or_none _ _))

pub loop-i-preserved : goal.loop-i-preserved
loop-i-preserved c = let l = c.loop-i in
    let m = sym c.is_marked_in-mark.ensures in
    (search rules, rw (or_more, m, ← l.invariant.1), rw (or_more, m, ← l.invariant.2))

pub returns : goal.returns
returns c = let l = c.loop-i in
    let e : c.args.n ≡ l.i = omega arith in
    rw e (l.invariant.1, l.invariant.2)
