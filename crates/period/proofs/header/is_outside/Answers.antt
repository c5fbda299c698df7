use Rattle.period.proofs.header.is_outside.Goals as goal

pub returns : goal.returns
returns c = λ p b e f. rw (c.is_open-2.ensures, c.is_open.ensures, c.last_day-2.ensures, c.last_day.ensures, e, f)
