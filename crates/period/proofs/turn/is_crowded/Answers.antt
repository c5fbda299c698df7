use Rattle.period.proofs.turn.is_crowded.Goals as goal

pub returns : goal.returns
returns c = rw c.from_of.ensures.0
