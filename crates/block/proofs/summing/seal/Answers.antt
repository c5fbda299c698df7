use Rattle.std.proofs.Common.{length, eq-eqb, ne_eqb, rules}
use Rattle.block.specs.Sums.{sealed}
use Rattle.block.proofs.summing.seal.Goals as goal

pub returns-in_default : goal.returns-in_default
unfolding sealed
returns-in_default c = let h = c.in_default.ensures in rw (ne_eqb (length c.args.b.now) 512 (search rules))

pub returns : goal.returns
unfolding sealed
returns c = rw (eq-eqb (length c.args.b.now) 512 (search rules)) (search rules)
