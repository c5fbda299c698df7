use borrow.Author.Rules.{rules}
use Rattle.period.specs.Code.Turn.{rank_of}
use Rattle.period.proofs.turn.rank_of.Goals as goal

pub returns : goal.returns
unfolding rank_of
returns c = search rules
