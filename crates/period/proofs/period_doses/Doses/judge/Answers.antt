use mathlib.Core.Path.{◌∙◌}
use Rattle.period.proofs.Ruling as ruling
use Rattle.period.proofs.period_doses.Doses.judge.Goals as goal

pub returns : goal.returns
returns c = let a = c.args in
    let class = ruling.class_is a.self.plan.now a.self.b a.self.counted c.walk-s.ensures in (
      c.rule_from_7.ensures.0 c.requires,
      c.class_by.ensures ∙ class,
      c.rule_from_7.ensures.1,
    )
