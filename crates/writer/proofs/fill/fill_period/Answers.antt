use Rattle.writer.proofs.Filling.{period_filled}
use Rattle.writer.proofs.fill.fill_period.Goals as goal

pub returns : goal.returns
returns c = cc (period_filled c.args.header, c.requires, c.clear.ensures, c.put_bytes.ensures, c.put_half.ensures, c.put_word.ensures, c.put_word-2.ensures)
