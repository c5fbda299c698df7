use mathlib.Core.Path.{sym, ◌∙◌}
use Rattle.split.specs.Code.Wanted.{is_need}
use Rattle.split.proofs.Adding.{adds_none, adds_both}
use Rattle.split.proofs.Brought.{brought_none, brought_some}
use Rattle.split.proofs.periods.add_brought.Goals as goal

pub returns-then-not-is_dosed : goal.returns-then-not-is_dosed
returns-then-not-is_dosed c = let a = c.args in rw (brought_none (is_need a.part) a.classed.plan.now a.b (sym c.is_dosed.ensures ∙ c.if-not-is_dosed.true)) adds_none

pub returns : goal.returns
returns c = let a = c.args in rw (brought_some (is_need a.part) a.classed.plan.now a.b (sym c.is_dosed.ensures ∙ c.if-not-is_dosed.false)) (adds_both c.add_dosed-place.ensures c.add_behind.ensures)
