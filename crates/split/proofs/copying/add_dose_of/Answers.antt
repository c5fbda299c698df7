use Rattle.below.specs.Lists.{keep}
use Rattle.split.proofs.Adding.{doses_none, doses_one}
use Rattle.split.proofs.copying.add_dose_of.Goals as goal

pub returns-then-not-has_mark : goal.returns-then-not-has_mark
unfolding keep
returns-then-not-has_mark c = rw (← c.dose_at-d.ensures, ← c.is_marked.ensures, ← c.has_mark.ensures, c.if-not-has_mark.true) doses_none

pub returns : goal.returns
unfolding keep
returns c = rw (← c.dose_at-d.ensures, ← c.is_marked.ensures, ← c.has_mark.ensures, c.if-not-has_mark.false) (rw (c.add_dose.ensures.0, c.add_dose.ensures.1) (doses_one _))
