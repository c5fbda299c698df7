use Rattle.std.proofs.Common.{rules}
use Rattle.need.specs.Telling.{is_set}
use Rattle.need.proofs.bits.is_odd.Goals as goal

pub returns : goal.returns
unfolding is_set
returns c = search rules
