use Rattle.split.proofs.Adding.{adds_period, adds_dosed}
use Rattle.split.proofs.periods.add_dosed.Goals as goal

pub returns : goal.returns
returns c = adds_dosed (rw (c.add_period-place.ensures.0, c.add_period-place.ensures.1, c.header_at.ensures) (adds_period _)) c.add_doses.ensures
