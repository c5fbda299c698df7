use Rattle.writer.proofs.Filling.{head_filled}
use Rattle.writer.proofs.fill.fill_head.Goals as goal

pub returns : goal.returns
returns c = cc (head_filled c.args.head, c.requires, c.clear.ensures, c.put_bytes.ensures, c.put_half.ensures, c.put_word.ensures, c.put_word-2.ensures, c.put_word-3.ensures, c.put_word-4.ensures, c.put_bytes-2.ensures)
