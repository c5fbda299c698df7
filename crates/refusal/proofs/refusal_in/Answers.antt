use Rattle.refusal.proofs.refusal_in.Goals as goal

pub returns-in-Ok : goal.returns-in-Ok
returns-in-Ok g c = rw (c.in-Ok.is, c.alone.ensures)
