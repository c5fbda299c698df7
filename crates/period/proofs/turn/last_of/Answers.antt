use Rattle.period.proofs.turn.last_of.Goals as goal

pub returns : goal.returns
returns c = rw (c.select_unpredictable-4.ensures, c.select_unpredictable-3.ensures, c.select_unpredictable-2.ensures, c.select_unpredictable.ensures)
