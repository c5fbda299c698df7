use Rattle.period.proofs.turn.is_asked.Goals as goal

pub returns : goal.returns
returns c = cc
