use Rattle.std.specs.Prelude.{Err}
use mathlib.Core.Path.{ap, sym, ◌∙◌}
use Rattle.verdict.proofs.Lowest.{row_16}
use Rattle.verdict.proofs.Passing.{unbroken_more, broken_15, passed_15, broken_16, passed_16, broken_17, accepted_17}
use Rattle.verdict.proofs.order.judge_together.Goals as goal

pub returns-then-is_alike : goal.returns-then-is_alike
returns-then-is_alike c = let p = c.args.plan.plan.now in
    let keeps = c.is_alike.ensures c.if-is_alike.true in
    let u = passed_15 p c.requires.unbroken keeps.0 in
    accepted_17 p (unbroken_more p u (λ b l. row_16 p b ∙ keeps.1 b l)) keeps.2

pub returns-then-is_bare : goal.returns-then-is_bare
returns-then-is_bare c = let p = c.args.plan.plan.now in
    ap Err c.of_rule.ensures ∙ broken_15 p c.requires.unbroken (sym c.is_bare.ensures ∙ c.if-is_bare.true)

pub returns-then-is_usual : goal.returns-then-is_usual
returns-then-is_usual c = let p = c.args.plan.plan.now in
    let u = passed_15 p c.requires.unbroken (sym c.is_bare.ensures ∙ c.if-is_bare.false) in
    let keeps = c.is_usual.ensures c.if-is_usual.true in
    accepted_17 p (unbroken_more p u (λ b l. row_16 p b ∙ keeps.0 b l)) keeps.1

pub returns-in-Some : goal.returns-in-Some
returns-in-Some c = let p = c.args.plan.plan.now in
    let u = passed_15 p c.requires.unbroken (sym c.is_bare.ensures ∙ c.if-is_bare.false) in
    ap Err c.of_rule-in-Some.ensures ∙ broken_16 p u (sym c.first_shared.ensures ∙ c.in-Some.is)

pub returns-then-has_holes : goal.returns-then-has_holes
returns-then-has_holes c = let p = c.args.plan.plan.now in
    let u = passed_15 p c.requires.unbroken (sym c.is_bare.ensures ∙ c.if-is_bare.false) in
    let v = passed_16 p u (sym c.first_shared.ensures ∙ c.in_default.is) in
    ap Err c.of_rule-then-has_holes.ensures ∙ broken_17 p v (sym c.has_holes.ensures ∙ c.if-has_holes.true)

pub returns : goal.returns
returns c = let p = c.args.plan.plan.now in
    let u = passed_15 p c.requires.unbroken (sym c.is_bare.ensures ∙ c.if-is_bare.false) in
    let v = passed_16 p u (sym c.first_shared.ensures ∙ c.in_default.is) in
    accepted_17 p v (sym c.has_holes.ensures ∙ c.if-has_holes.false)
