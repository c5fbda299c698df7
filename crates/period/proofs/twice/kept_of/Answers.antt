use borrow.Author.Tests.{lt-ltb, le-ltb}
use Rattle.period.proofs.twice.kept_of.Goals as goal

pub returns-then-k-gt0 : goal.returns-then-k-gt0
returns-then-k-gt0 c = rw (lt-ltb 0 _ c.if-k-gt0.true)

pub returns-else-k-gt0 : goal.returns-else-k-gt0
returns-else-k-gt0 c = rw (le-ltb 0 _ c.if-k-gt0.false)
