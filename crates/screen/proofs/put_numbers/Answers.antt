use Rattle.std.proofs.Common.{arith}
use mathlib.Core.Path.{sym, ◌∙◌}
use Rattle.std.proofs.lemmas.List.{at_drop_more, drop_all}
use Rattle.screen.specs.Calls.{written}
use Rattle.screen.proofs.put_numbers.Goals as goal

pub loop-x-preserved : goal.loop-x-preserved
unfolding written
loop-x-preserved c = let l = c.loop-x in
    (omega arith, l.invariant.1, l.invariant.2 ∙ at_drop_more (written l.out l.at) c.args.numbers.now l.x-index 0 (omega arith) ∙ rw c.put_long.ensures)

pub returns : goal.returns
unfolding written
returns c = let l = c.loop-x in sym (rw (drop_all l.x-index c.args.numbers.now (omega arith)) at l.invariant.2)
