use Rattle.period.proofs.period_doses.Doses.may_any_day.Goals as goal

pub returns : goal.returns
returns c = rw c.dose_in-first.ensures
