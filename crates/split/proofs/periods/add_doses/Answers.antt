use Prim.Native.Nat.{◌*◌, ◌<◌, min}
use mathlib.Core.Path.{◌≡◌}
use native.Mathlib.Omega.{arith}
use Rattle.plan.specs.Periods.{doses_of}
use Rattle.layout.specs.Reading.{doses_at}
use Rattle.split.specs.Code.Wanted.{is_need}
use Rattle.split.proofs.Adding.{doses_none, doses_both}
use Rattle.split.proofs.Copied.{block_none, block_more}
use borrow.Author.Rules.{rules}
use Rattle.split.proofs.periods.add_doses.Goals as goal

pub loop-i-init : goal.loop-i-init
loop-i-init c = (search rules, search rules, search rules, rw block_none doses_none)

pub loop-i-preserved : goal.loop-i-preserved
loop-i-preserved c = let a = c.args in
    let l = c.loop-i in
    let more : l.i * 20 < c.doses_of-n.result = omega (arith, l.invariant.1, c.loop-i-test.true) in
    let k = rw (c.block_of-block.ensures, c.doses_here.ensures) at c.add_kept-place.ensures in
    (search rules, search rules, search rules, rw (block_more (is_need a.part) a.plan.now a.b _ l.i more) (doses_both l.invariant.3 k))

pub returns : goal.returns
unfolding doses_at
returns c = let a = c.args in
    let l = c.loop-i in
    let e : min (l.i * 20) c.doses_of-n.result ≡ doses_of a.plan.now a.b = omega (arith, l.invariant.0, l.invariant.1, c.doses_of-n.ensures.0, c.loop-i-test.false) in
    rw (← e) l.invariant.3
