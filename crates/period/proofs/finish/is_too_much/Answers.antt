use Rattle.period.proofs.finish.is_too_much.Goals as goal

pub returns : goal.returns
returns c = rw c.round_of.ensures
