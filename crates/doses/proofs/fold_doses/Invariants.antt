use Rattle.std.proofs.Common.{cond, []}
use Rattle.std.specs.List.{FoldsTo}
use Rattle.below.specs.Lists.{join_below}
use Rattle.doses.specs.Doses.{covers, doses_of_period}
use Rattle.doses.proofs.fold_doses.Given as goal

abbrev pub invariant-loop-b : goal.invariant-loop-b
invariant-loop-b g l =
    FoldsTo (λ s d t. goal.F-post g l.f s d t) l.fn.start (join_below l.b (λ k. cond (covers l.plan l.day k) (doses_of_period l.plan l.day k) [])) l.state
