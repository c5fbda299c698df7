-- Written out, though the check finds it: a body that gives something else is refused at this goal.
use Rattle.split.proofs.run.Run.shared_days.Goals as goal

pub returns : goal.returns
returns c = rw (c.max.ensures, c.min.ensures, c.first_of.ensures, c.last_of.ensures, c.block_of-block.ensures)
