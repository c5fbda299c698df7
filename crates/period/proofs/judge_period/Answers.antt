use Prim.Native.Nat.{◌*◌}
use mathlib.Core.Path.{◌≡◌, ap, sym, ◌∙◌}
use native.Mathlib.Omega.{arith}
use lib.Seq.{length-take-le}
use Rattle.plan.specs.declared.Header.{Header}
use Rattle.plan.specs.Fields.{header_of}
use Rattle.plan.specs.Periods.{block_at}
use Rattle.plan.proofs.Parts.{part_whole}
use Rattle.period.specs.Period.{outside}
use Rattle.period.proofs.Ruling as ruling
use borrow.Author.Rules.{rules}
use Rattle.period.proofs.judge_period.Goals as goal
use Rattle.period.proofs.judge_period.Goals.{After-header_of-h, After-is_outside}

-- the period's header
header : (c : After-header_of-h) → c.header_of-h.result ≡ header_of (block_at c.args.plan.now c.args.b)
unfolding block_at
header c = let a = c.args in
    c.header_of-h.ensures ∙ ap header_of (part_whole a.plan.now (a.b * 512) 512 (search rules))

-- rule 5, as it was asked
rule-5 : (c : After-is_outside) → c.is_outside.result ≡ outside c.args.plan.now c.args.b
unfolding block_at
rule-5 c = c.is_outside.ensures c.args.plan.now c.args.b c.header_of-head.ensures
    (c.header_of-h.ensures ∙ ap header_of (part_whole c.args.plan.now (c.args.b * 512) 512 (search rules)))

pub slice_bounds-header_of-end : goal.slice_bounds-header_of-end
slice_bounds-header_of-end c = sym (length-take-le 512 c.args.plan.now (omega arith))

pub is_early-requires : goal.is_early-requires
is_early-requires c = ap (λ (h : Header). h.first) (header (goal.at.is_early-requires c).After-header_of-h)

pub with_header-doses-requires : goal.with_header-doses-requires
with_header-doses-requires c = header (goal.at.with_header-doses-requires c).After-header_of-h

pub returns-in-Some : goal.returns-in-Some
returns-in-Some c = let a = c.args in
    let doses = c.with_header-doses in
    let e = doses.ensures in
    let inside = sym (rule-5 (goal.at.returns-in-Some c).After-is_outside) ∙ c.if-is_outside.false in
    let in-turn = sym c.is_early.ensures ∙ c.if-is_early.false in
    let seen = c.in-Some.ensures in (
      ruling.none_is a.plan.now a.b ((rw (e.0, e.1) at seen.unbroken) (ruling.to_7 a.plan.now a.b inside in-turn)),
      c.class_by.ensures ∙ ruling.class_counted a.plan.now a.b (rw (e.0, e.1) at doses.result.counted) (rw (e.0, e.1) at seen.marked),
      search rules,
    )
