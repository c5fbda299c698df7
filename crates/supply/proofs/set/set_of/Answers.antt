use Rattle.supply.specs.Dates.{set_of}
use Rattle.supply.proofs.set.set_of.Goals as goal

pub returns : goal.returns
unfolding set_of
returns c = rw (c.date_if.ensures, c.date_if-2.ensures, c.date_if-3.ensures, c.date_if-4.ensures, c.date_if-5.ensures)
