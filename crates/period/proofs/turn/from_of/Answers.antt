use lib.Dec.{eqb}
use borrow.Author.Rules.{rules}
use Rattle.period.proofs.Choice.{cond_le}
use Rattle.period.proofs.turn.from_of.Goals as goal

pub returns : goal.returns
returns c = let a = c.args in
    (c.select_unpredictable.ensures, rw c.select_unpredictable.ensures (cond_le (eqb a.s.day a.d.day) {a = a.s.from} {b = a.j} (search rules) (search rules)))
