use Rattle.std.specs.Prelude.{Err}
use mathlib.Core.Path.{refl, ap, sym, ◌∙◌}
use Rattle.std.proofs.lemmas.Result.{err_from_is_err_and}
use Rattle.form.proofs.Formed.{formed, dated}
use Rattle.verdict.proofs.Lowest.{form_broken}
use Rattle.verdict.proofs.Passing.{formed_few, judged_broken, judged_clear, judged_classed, judged_classes, has_classes}
use Rattle.verdict.proofs.order.judge.Goals as goal

pub returns-in_err-form_of : goal.returns-in_err-form_of
returns-in_err-form_of c = let p = err_from_is_err_and c.from_residual.result c.from_residual.ensures.1 in
    rw (p.1, p.2) (form_broken _ (sym c.in_err-form_of.ensures), refl)

pub judge_periods-requires : goal.judge_periods-requires
judge_periods-requires c = (formed_few (formed _ _ (sym c.in_ok-form_of.ensures)), c.requires)

pub returns-in-Some : goal.returns-in-Some
returns-in-Some c = (ap Err c.of_rule.ensures ∙ judged_broken (formed _ _ (sym c.in_ok-form_of.ensures)) (rw c.in-Some.is at c.judge_periods.ensures), refl)

pub invariant_of-judge_together : goal.invariant_of-judge_together
invariant_of-judge_together c =
    record { classed = judged_classed (formed _ _ (sym c.in_ok-form_of.ensures)) c.judge_periods.ensures }

pub judge_together-requires : goal.judge_together-requires
judge_together-requires c = let f = formed _ _ (sym c.in_ok-form_of.ensures) in
    record { dated = dated f; unbroken = judged_clear f (rw c.in_default.is at c.judge_periods.ensures) }

pub returns : goal.returns
returns c = (c.judge_together.ensures, has_classes c.judge_together.result _ _ (judged_classes (formed _ _ (sym c.in_ok-form_of.ensures)) c.judge_periods.ensures))
