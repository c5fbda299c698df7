use Rattle.below.specs.Lists.{sum_over}
use Rattle.doses.specs.Doses.{covers, doses_of_period}
use Rattle.need.specs.Need.{chosen}
use Rattle.need.proofs.Wrapped.{Sums}
use Rattle.need.proofs.due.due_on.Given as goal

abbrev pub invariant-loop-b : goal.invariant-loop-b
invariant-loop-b l = Sums (covers l.plan l.day) (λ k. sum_over (chosen l.choice) (doses_of_period l.plan l.day k)) 0 l.b l.sum
