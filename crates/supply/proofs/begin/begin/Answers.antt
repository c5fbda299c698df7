use mathlib.Core.Bool.{true}
use mathlib.Core.Path.{◌≡◌, sym, ap, ◌∙◌}
use native.Mathlib.Omega.{arith}
use Rattle.std.specs.Prelude.{Err}
use Rattle.std.proofs.lemmas.Result.{err_from_is_err_and}
use Rattle.need.proofs.Telling.{told_any, told_day_lem}
use Rattle.supply.specs.Code.Asking.{is_asked}
use Rattle.supply.proofs.Beginning.{begun_unasked, begun_own, begun_in, begun_going}
use Rattle.supply.proofs.begin.begin.Goals as goal

pub returns-then-not-is_asked : goal.returns-then-not-is_asked
returns-then-not-is_asked c =
    let a = c.args in
    λ ps. begun_unasked a.plan.now a.asked a.choice (sym c.is_asked.ensures ∙ c.if-not-is_asked.true) ps ∙ ap Err (sym c.alone.ensures)

pub returns-in_err-stop : goal.returns-in_err-stop
returns-in_err-stop c =
    let a = c.args in
    let k = c.requires.tells a.choice in
    let s = rw c.bits_by-chosen.ensures at c.stop_of.ensures in
    let t : is_asked a.asked a.choice ≡ true = sym c.is_asked.ensures ∙ c.if-not-is_asked.false in
    let p = err_from_is_err_and c.from_residual.result c.from_residual.ensures.1 in
    rw (p.1, p.2) (begun_own a.plan.now a.asked a.choice t (rw (s.0, s.1, told_any k, told_day_lem k) at (sym c.own_stop.ensures ∙ c.in_err-stop.was)))

pub overflow_add-result : goal.overflow_add-result
overflow_add-result c =
    let a = c.args in
    let k = c.requires.tells a.choice in
    let s = rw c.bits_by-chosen.ensures at c.stop_of.ensures in
    let t : is_asked a.asked a.choice ≡ true = sym c.is_asked.ensures ∙ c.if-not-is_asked.false in
    omega (arith, begun_in a.plan.now a.asked a.choice t (rw (s.0, s.1, told_any k, told_day_lem k) at (sym c.own_stop.ensures ∙ c.in_ok-stop.was)) c.requires)

pub returns : goal.returns
returns c =
    let a = c.args in
    let k = c.requires.tells a.choice in
    let s = rw c.bits_by-chosen.ensures at c.stop_of.ensures in
    let t : is_asked a.asked a.choice ≡ true = sym c.is_asked.ensures ∙ c.if-not-is_asked.false in
    begun_going a.plan.now a.asked a.choice t (rw (s.0, s.1, told_any k, told_day_lem k) at (sym c.own_stop.ensures ∙ c.in_ok-stop.was)) c.requires (rw c.bits_by-chosen.ensures k)
