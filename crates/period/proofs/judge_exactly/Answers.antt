use mathlib.Core.Path.{◌≡◌, ap, sym, ◌∙◌}
use Rattle.plan.specs.declared.Header.{Header}
use Rattle.plan.specs.Fields.{header_of}
use Rattle.plan.specs.Periods.{block_at}
use Rattle.period.specs.Period.{outside}
use Rattle.period.proofs.Ruling as ruling
use borrow.Author.Rules.{rules}
use Rattle.period.proofs.judge_exactly.Goals as goal
use Rattle.period.proofs.judge_exactly.Goals.{After-header_of-h, After-is_outside}

-- the period's header
header : (c : After-header_of-h) → c.header_of-h.result ≡ header_of (block_at c.args.plan.now c.args.b)
header c = c.header_of-h.ensures ∙ ap header_of c.block_of-2.ensures

-- rule 5, as it was asked
rule-5 : (c : After-is_outside) → c.is_outside.result ≡ outside c.args.plan.now c.args.b
rule-5 c = c.is_outside.ensures c.args.plan.now c.args.b (c.header_of-head.ensures ∙ ap header_of c.block_of.ensures) (c.header_of-h.ensures ∙ ap header_of c.block_of-2.ensures)

pub returns-then-is_outside : goal.returns-then-is_outside
returns-then-is_outside c = (ruling.is_5 c.args.plan.now c.args.b (sym (rule-5 (goal.at.returns-then-is_outside c).After-is_outside) ∙ c.if-is_outside.true), c.class_of.ensures, search rules)

pub is_early-requires : goal.is_early-requires
is_early-requires c = ap (λ (h : Header). h.first) (header (goal.at.is_early-requires c).After-header_of-h)

pub returns-then-is_early : goal.returns-then-is_early
returns-then-is_early c = let inside = sym (rule-5 (goal.at.returns-then-is_early c).After-is_outside) ∙ c.if-is_outside.false in
    let early = sym c.is_early.ensures ∙ c.if-is_early.true in
    (ruling.is_6 c.args.plan.now c.args.b inside early, c.class_of-then-is_early.ensures, search rules)

pub with_header-requires : goal.with_header-requires
with_header-requires c = header (goal.at.with_header-requires c).After-header_of-h

pub judge-requires : goal.judge-requires
judge-requires c = let a = c.args in
    let inside = sym (rule-5 (goal.at.judge-requires c).After-is_outside) ∙ c.if-is_outside.false in
    let in-turn = sym c.is_early.ensures ∙ c.if-is_early.false in
    rw (c.with_header.ensures.0, c.with_header.ensures.1) (ruling.to_7 a.plan.now a.b inside in-turn)

pub returns : goal.returns
returns c = rw (c.with_header.ensures.0, c.with_header.ensures.1) at c.judge.ensures
