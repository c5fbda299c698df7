use Rattle.std.proofs.Common.{rules, tests}
use Rattle.doses.specs.Doses.{doses_on}
use Rattle.need.specs.Need.{chosen}
use Rattle.need.proofs.Chosen.{due_chosen}
use Rattle.need.proofs.Wrapped.{sum_folds}
use Rattle.day_list.proofs.due_by.Goals as goal

pub returns : goal.returns
returns c =
    let a = c.args in
    rw (due_chosen a.choice a.plan.now a.day)
    (sum_folds (chosen a.choice) (λ s d t e. search (rules, tests)) (doses_on a.plan.now a.day) _ c.fold_doses.ensures)
