use mathlib.Core.Path.{ap, sym, ◌∙◌}
use borrow.Author.Tests.{lt-ltb, le-ltb}
use Rattle.std.specs.Prelude.{Some}
use Rattle.verdict.specs.Code.Walks.{free_on}
use Rattle.verdict.proofs.sharing.free_on.Goals as goal

pub returns-in_err-day : goal.returns-in_err-day
unfolding free_on
returns-in_err-day c = rw c.in_err-day.was c.from_residual.ensures

pub returns-then-not-holds : goal.returns-then-not-holds
unfolding free_on
returns-then-not-holds c = rw (c.in_ok-day.was, sym c.holds.ensures ∙ c.if-not-holds.true)

pub returns-then-q-day : goal.returns-then-q-day
unfolding free_on
returns-then-q-day c =
    rw (c.in_ok-day.was, sym c.holds.ensures ∙ c.if-not-holds.false, lt-ltb _ _ c.if-q-day.true)

pub returns : goal.returns
unfolding free_on
returns c =
    rw (c.in_ok-day.was, sym c.holds.ensures ∙ c.if-not-holds.false, le-ltb _ _ c.if-q-day.false) (ap Some c.max.ensures)
