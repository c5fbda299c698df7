use Rattle.doses.specs.Doses.{applies}
use Rattle.plan.specs.Periods.{dose_in}
use Rattle.need.specs.Need.{chosen}
use Rattle.need.proofs.Wrapped.{Sums}
use Rattle.need.proofs.due.with_period.Given as goal

abbrev pub invariant-loop-j : goal.invariant-loop-j
invariant-loop-j l = Sums (λ k. applies l.position (dose_in l.plan l.b k)) (λ k. chosen l.choice (dose_in l.plan l.b k)) l.sum l.j l.s
