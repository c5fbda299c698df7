use Rattle.split.proofs.Adding.{adds_period}
use Rattle.split.proofs.run.add_shared_of.Goals as goal

pub returns : goal.returns
returns c = rw (← c.is_shared.ensures, c.if-not-is_shared.false) (rw (c.add_period.ensures.0, c.add_period.ensures.1, c.shared_days.ensures) (adds_period _))
