use Rattle.period.specs.Code.Turn.{rule_with}
use Rattle.period.proofs.walk.rule_with.Goals as goal

pub returns : goal.returns
unfolding rule_with
returns c =
    rw (
      c.min.ensures,
      c.lowest_of-rule.ensures,
      c.is_bad_range.ensures,
      c.is_other.ensures,
      c.is_crowded.ensures,
    )
