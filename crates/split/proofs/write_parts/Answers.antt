-- Written out, though the check finds it: a body that gives something else is refused at this goal.
use Rattle.split.proofs.write_parts.Goals as goal

pub returns-clause-value : goal.returns-clause-value
returns-clause-value c = rw (c.write_part.ensures.1, c.write_part-2.ensures.1)
