use borrow.Author.Rules.{rules}
use Rattle.writer.proofs.Steps.{begin_none, begin_done}
use Rattle.writer.proofs.begin.Goals as goal

pub returns-then-out-lt-SIZE : goal.returns-then-out-lt-SIZE
returns-then-out-lt-SIZE c = begin_none c.args.out.now c.args.head (search rules)

pub returns : goal.returns
returns c = begin_done c.args.out.now c.args.head (search rules) _ c.fill_head.ensures
