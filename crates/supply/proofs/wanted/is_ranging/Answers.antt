use mathlib.Core.Bool.{◌&&◌}
use mathlib.Core.Path.{sym, ◌∙◌}
use native.Mathlib.Omega.{arith}
use Rattle.below.proofs.Search.{none_more, any_hit, any_end}
use Rattle.need.proofs.Telling.{behind_half, behind_first}
use Rattle.need.specs.Need.{fixed_or_mixed}
use Rattle.supply.specs.Dates.{ends_from, has_interval, is_ranging}
use Rattle.supply.proofs.Wanting.{ranges_told}
use borrow.Author.Rules.{rules}
use Rattle.supply.proofs.wanted.is_ranging.Goals as goal

pub returns-then-is_ranging_at : goal.returns-then-is_ranging_at
unfolding is_ranging
returns-then-is_ranging_at c =
    let a = c.args in
    let l = c.loop-b in
    let bit = rw (c.is_odd.ensures, ← behind_first l.invariant.2) at c.is_ranging_at.ensures in
    let h = sym (ranges_told a.start c.requires.0 l.b (omega arith)) ∙ sym bit ∙ c.if-is_ranging_at.true in
    sym (any_hit (λ k. ends_from fixed_or_mixed a.start a.plan.now k && has_interval a.plan.now k) (omega arith) h)

pub loop-b-preserved : goal.loop-b-preserved
loop-b-preserved c =
    let a = c.args in
    let l = c.loop-b in
    let bit = rw (c.is_odd.ensures, ← behind_first l.invariant.2) at c.is_ranging_at.ensures in
    let h = sym (ranges_told a.start c.requires.0 l.b (omega arith)) ∙ sym bit ∙ c.if-is_ranging_at.false in
    (search rules, search rules, behind_half l.invariant.2, none_more (λ k. ends_from fixed_or_mixed a.start a.plan.now k && has_interval a.plan.now k) l.invariant.3 h)

pub returns : goal.returns
unfolding is_ranging
returns c = sym (any_end _ (omega arith) c.loop-b.invariant.3)
