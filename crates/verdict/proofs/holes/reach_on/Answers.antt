use mathlib.Core.Bool.{true}
use mathlib.Core.Path.{◌≡◌, sym, ◌∙◌}
use Rattle.verdict.specs.Coverage.{in_group}
use Rattle.verdict.specs.Code.Groups.{cover_of}
use Rattle.verdict.specs.Code.Walks.{reach_on}
use Rattle.verdict.proofs.holes.reach_on.Goals as goal
use Rattle.verdict.proofs.holes.reach_on.Goals.{Else-not-holds}

covers : (c : Else-not-holds) → in_group (cover_of c.args.g) c.args.q.class ≡ true
covers c = rw c.cover.ensures at (sym c.holds.ensures ∙ c.if-not-holds.false)

pub returns-in_err-s : goal.returns-in_err-s
unfolding reach_on
returns-in_err-s c = rw c.in_err-s.was c.from_residual.ensures

pub returns-then-not-holds : goal.returns-then-not-holds
unfolding reach_on
returns-then-not-holds c = rw (c.in_ok-s.was, rw c.cover.ensures at (sym c.holds.ensures ∙ c.if-not-holds.true))

pub returns-then-s-q : goal.returns-then-s-q
unfolding reach_on
returns-then-s-q c =
    rw (c.in_ok-s.was, c.holds-spans.ensures, c.max.ensures, covers (goal.at.returns-then-s-q c).Else-not-holds, c.if-s-q.true)

pub returns-in-true-true : goal.returns-in-true-true
unfolding reach_on
returns-in-true-true c =
    rw (c.in_ok-s.was, covers (goal.at.returns-in-true-true c).Else-not-holds, c.if-s-q.false, c.in-true-true.is-0, sym c.in-true-true.ensures)

pub returns-in-true-false : goal.returns-in-true-false
unfolding reach_on
returns-in-true-false c =
    rw (c.in_ok-s.was, covers (goal.at.returns-in-true-false c).Else-not-holds, c.if-s-q.false, c.in-true-false.is-0, sym c.in-true-false.ensures)

pub returns-in-false-default : goal.returns-in-false-default
unfolding reach_on
returns-in-false-default c =
    rw (c.in_ok-s.was, covers (goal.at.returns-in-false-default c).Else-not-holds, c.if-s-q.false, c.in-false-default.is-0, c.holds-spans.ensures)
