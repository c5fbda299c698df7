use Rattle.period.proofs.period_doses.Doses.is_any_day.Goals as goal

pub returns : goal.returns
returns c = cc
