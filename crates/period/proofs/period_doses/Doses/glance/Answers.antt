use mathlib.Core.Path.{sym, ◌∙◌}
use Rattle.period.proofs.QuickPass.{let_through}
use Rattle.period.proofs.period_doses.Doses.glance.Goals as goal

pub returns : goal.returns
returns c = let a = c.args in
    let done = c.in_ok-s.ensures in record {
      unbroken = let_through a.self.plan.now a.self.b a.self.limit a.self.n c.in_ok-s.s a.self.limited a.self.counted done
          (sym c.may_pass.ensures ∙ c.if-may_pass.false)
          (sym c.may_any_day.ensures ∙ c.if-may_any_day.false)
          (sym c.may_both.ensures ∙ c.if-may_both.false)
          (sym c.may_too_much.ensures ∙ c.if-may_too_much.false)
          (c.are_apart.ensures c.if-not-are_apart.false);
      marked = done.marked;
    }
