use mathlib.Core.Path.{sym, ◌∙◌}
use Rattle.std.proofs.lemmas.Result.{err_from_is_err_and}
use Rattle.verdict.specs.Classes.{classes_by}
use Rattle.verdict.proofs.order.verdict_with_classes.Goals as goal

pub returns-in_err-judge : goal.returns-in_err-judge
unfolding classes_by
returns-in_err-judge c = let e = c.in_err-judge.was in
    let p = err_from_is_err_and c.from_residual.result c.from_residual.ensures.1 in
    rw (p.1, p.2, sym c.judge.ensures.0 ∙ e)

pub returns : goal.returns
unfolding classes_by
returns c = let e = c.in_ok-judge.was in
    rw (sym c.judge.ensures.0 ∙ e, rw e at c.judge.ensures.1)
