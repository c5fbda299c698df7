use Rattle.std.specs.List.{FoldsTo}
use Rattle.plan.specs.Periods.{dose_in}
use Rattle.below.specs.Lists.{pick_below}
use Rattle.doses.specs.Doses.{applies}
use Rattle.doses.proofs.fold_period.Given as goal

abbrev pub invariant-loop-j : goal.invariant-loop-j
invariant-loop-j g l =
    FoldsTo (λ s d t. goal.F-post g l.f s d t) l.fn.start (pick_below l.j (λ k. applies l.position (dose_in l.plan l.b k)) (dose_in l.plan l.b)) l.state
