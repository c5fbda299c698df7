use Rattle.std.proofs.Common.{◌≡◌, ◌+◌, ◌∙◌, false, arith}
use Rattle.std.specs.Option.{is_some}
use Rattle.doses.proofs.Left.{finds, none_left, opened, over, at_end}
use Rattle.doses.proofs.iter.DosesOnIterator.next.Goals as goal

pub loop-found-preserved : goal.loop-found-preserved
loop-found-preserved c =
    let s = c.loop-found.self-inside in
    let i = c.loop-found.invariant in
    let none : is_some c.loop-found.found ≡ false = rw c.loop-found-test.true at c.is_none.ensures in
    let n = none_left s c.loop-found.found none i.1 in
    let e = opened s n.1 c.of_period-self-inside.result (omega (arith, i.0, c.if-self-blocks.true)) c.of_period-self-inside.ensures in
    (i.0, finds s (s.block + 1) _ _ (n.0 ∙ e) c.next-found-in-loop-found.result c.next-found-in-loop-found.ensures)

pub returns-else-self-blocks-clause-steps : goal.returns-else-self-blocks-clause-steps
returns-else-self-blocks-clause-steps c =
    let s = c.loop-found.self-inside in
    let i = c.loop-found.invariant in
    let none : is_some c.loop-found.found ≡ false = rw c.loop-found-test.true at c.is_none.ensures in
    let n = none_left s c.loop-found.found none i.1 in
    at_end c.loop-found.found none n.0 (over s n.1 (omega (arith, i.0, c.if-self-blocks.false)))
