use mathlib.Core.Path.{sym, ◌∙◌}
use native.Mathlib.Omega.{arith}
use Rattle.verdict.proofs.Passing.{judged_past, judged_same, judged_new}
use Rattle.verdict.proofs.order.with_block.Goals as goal

pub returns-then-not-is_period : goal.returns-then-not-is_period
returns-then-not-is_period c = judged_past c.requires.0 c.requires.1 (sym c.is_period.ensures ∙ c.if-not-is_period.true)

pub returns-then-judged-rule_in : goal.returns-then-judged-rule_in
returns-then-judged-rule_in c = let j = c.judge_period-judged in
    judged_new c.requires.0 c.requires.1 (sym c.is_period.ensures ∙ c.if-not-is_period.false) j.ensures.1 j.ensures.0 (omega (arith, c.rule_in.ensures, c.if-judged-rule_in.true))

pub returns : goal.returns
returns c = let j = c.judge_period-judged in
    judged_same c.requires.0 c.requires.1 (sym c.is_period.ensures ∙ c.if-not-is_period.false) j.ensures.1 j.ensures.0 (omega (arith, c.rule_in.ensures, c.if-judged-rule_in.false))
