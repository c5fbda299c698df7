use Rattle.period.proofs.twice.is_twice.Goals as goal

pub returns : goal.returns
returns c = rw c.is_timed.ensures
