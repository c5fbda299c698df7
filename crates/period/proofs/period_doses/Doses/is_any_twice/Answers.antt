use mathlib.Core.Path.{sym, ◌∙◌}
use Rattle.period.proofs.Ruling as ruling
use Rattle.period.proofs.period_doses.Doses.is_any_twice.Goals as goal

pub has_twice-requires : goal.has_twice-requires
has_twice-requires c =
    ruling.rises c.args.self.plan.now c.args.self.b c.requires.1 c.requires.0

pub returns-else-s : goal.returns-else-s
returns-else-s c =
    c.if-s.false ∙ sym (ruling.not_again c.args.self.plan.now c.args.self.b c.requires.1 c.requires.0 c.if-s.false)
