use Rattle.std.proofs.Common.{rules, tests}
use Rattle.doses.specs.Doses.{day_sums}
use Rattle.doses.proofs.Sums.{added_folds}
use Rattle.doses.proofs.day_sums.Goals as goal

pub returns : goal.returns
unfolding day_sums
returns c = added_folds (λ u d v e. search (rules, tests)) _ _ _ c.fold_doses.ensures
