use Rattle.std.proofs.Common.{rules}
use Rattle.doses.proofs.Folding.{folds}
use Rattle.day_list.proofs.fold_doses.Goals as goal

pub returns : goal.returns
returns g c =
    rw (← c.doses_on.ensures)
    (folds _ (goal.F-post g c.args.f) c.args.f (λ s d t f' called. search rules) c.doses_on.result c.args.start c.fold.result c.fold.ensures.ran)
