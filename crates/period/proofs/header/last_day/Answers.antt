use Rattle.period.proofs.header.last_day.Goals as goal

pub returns : goal.returns
returns c = cc
