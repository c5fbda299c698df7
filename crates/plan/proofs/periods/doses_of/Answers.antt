use borrow.Author.Rules.{rules}
use Rattle.plan.specs.Periods.{doses_of}
use Rattle.plan.proofs.periods.doses_of.Goals as goal

pub returns : goal.returns
unfolding doses_of
returns c = (cc, search rules)
