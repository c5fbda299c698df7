use native.Mathlib.Omega.{arith}
use Rattle.block.proofs.Numbers.{number_part}
use Rattle.plan.proofs.fields.header_of.Goals as goal

pub returns : goal.returns
returns c = let s = c.args.r.now in
    rw (c.interval_of.ensures, c.first_of.ensures, c.end_of.ensures, c.part_of-h.ensures, number_part 2 s 0 12 2 (omega arith), number_part 4 s 0 12 4 (omega arith), number_part 4 s 0 12 8 (omega arith))
