use Rattle.std.proofs.Common.{◌∙◌, arith}
use Rattle.block.proofs.Parts.{read_word, number_first}
use Rattle.block.proofs.read.word_at.Goals as goal

pub returns : goal.returns
returns c = c.from_le_bytes.ensures ∙ read_word c.bytes_at.result ∙ number_first c.args.s.now c.args.at c.bytes_at.result c.bytes_at.ensures 4 (omega arith)
