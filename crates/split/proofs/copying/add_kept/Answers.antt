use native.Mathlib.Omega.{arith}
use Rattle.split.specs.Code.Wanted.{is_need}
use Rattle.split.proofs.Adding.{doses_none, doses_both}
use Rattle.split.proofs.Copied.{kept_none, kept_more, kept_rest}
use borrow.Author.Rules.{rules}
use Rattle.split.proofs.copying.add_kept.Goals as goal

pub loop-i-init : goal.loop-i-init
loop-i-init c = (search rules, search rules, rw kept_none doses_none)

pub returns-in-Some : goal.returns-in-Some
returns-in-Some c = let l = c.loop-i in
    let a = c.args in
    rw (kept_rest (is_need a.part) a.r.now l.i a.n l.invariant.0) (doses_both l.invariant.2 (rw c.in-Some.ensures.0 at c.add_together.ensures))

pub loop-i-preserved : goal.loop-i-preserved
loop-i-preserved c = let l = c.loop-i in
    let a = c.args in
    (search rules, search rules, rw (kept_more (is_need a.part) a.r.now 0 l.i (omega arith)) (doses_both l.invariant.2 c.add_dose_of-place.ensures))
