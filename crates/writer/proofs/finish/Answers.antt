use mathlib.Core.Path.{sym, ◌∙◌}
use borrow.Author.Rules.{rules}
use Rattle.writer.proofs.Steps.{finish_none, finish_done}
use Rattle.writer.proofs.Room.{begun_is}
use Rattle.writer.proofs.finish.Goals as goal

pub returns-then-not-has_begun : goal.returns-then-not-has_begun
returns-then-not-has_begun c = finish_none _ _ (sym c.has_begun.ensures ∙ c.if-not-has_begun.true)

pub overflow_sub-at : goal.overflow_sub-at
overflow_sub-at c = let e = begun_is _ _ 1 (sym c.has_begun.ensures ∙ c.if-not-has_begun.false) in search rules

pub seal_blocks-requires : goal.seal_blocks-requires
seal_blocks-requires c = let e = begun_is _ _ 1 (sym c.has_begun.ensures ∙ c.if-not-has_begun.false) in search rules

pub returns : goal.returns
returns c = finish_done _ _ (sym c.has_begun.ensures ∙ c.if-not-has_begun.false) _ (cc (c.seal_blocks.ensures, c.put_bytes.ensures))
