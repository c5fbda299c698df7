use Rattle.period.proofs.turn.is_other.Goals as goal

pub returns : goal.returns
returns c =
    rw (c.from_of.ensures.0, c.select_unpredictable-last.ensures, c.is_marked-marked.ensures)
