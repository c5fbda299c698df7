use Rattle.std.proofs.Common.{◌∙◌, arith}
use Rattle.block.proofs.Parts.{number_first, number_taken}
use Rattle.block.proofs.read.longs_at.Goals as goal

pub returns : goal.returns
returns c =
    let s = c.args.s.now in
    let b = c.bytes_at-bytes.result in
    let h = c.bytes_at-bytes.ensures in (
      c.long_at.ensures ∙ number_first s c.args.at b h 8 (omega arith),
      c.long_at-2.ensures ∙ number_taken s c.args.at b h 8 8 (omega arith),
      c.long_at-3.ensures ∙ number_taken s c.args.at b h 8 16 (omega arith),
    )
