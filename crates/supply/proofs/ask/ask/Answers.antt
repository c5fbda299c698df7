use mathlib.Core.Path.{refl, sym, ◌∙◌}
use Rattle.std.proofs.lemmas.Result.{err_from_is_err_and}
use Rattle.verdict.proofs.Passing.{classes_given, classes_refused}
use Rattle.supply.proofs.Asking.{refused_broken, refused_given, asks_supply, not_given}
use Rattle.supply.proofs.ask.ask.Goals as goal

pub returns-in_default : goal.returns-in_default
returns-in_default c =
    let e = c.in_default.is in
    rw (c.refusal_in.ensures, e) (refused_broken (classes_refused _ c.args.plan.now _ (sym c.verdict_with_classes-answer.ensures ∙ e)))

pub returns-in_err-asked_by : goal.returns-in_err-asked_by
returns-in_err-asked_by c =
    let v = classes_given _ c.args.plan.now _ (sym c.verdict_with_classes-answer.ensures ∙ c.in-Ok.is) in
    let p = err_from_is_err_and c.from_residual.result c.from_residual.ensures.1 in
    rw (p.1, p.2) (refused_given v.1 _ (sym c.asked_by.ensures ∙ c.in_err-asked_by.was))

pub returns : goal.returns
returns c =
    let v = classes_given _ c.args.plan.now _ (sym c.verdict_with_classes-answer.ensures ∙ c.in-Ok.is) in
    asks_supply v.1 _ refl refl refl refl v.2 c.told_of.ensures (not_given _ _ (sym c.asked_by.ensures ∙ c.in_ok-asked_by.was)).0
