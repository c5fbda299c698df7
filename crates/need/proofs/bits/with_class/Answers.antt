use Rattle.need.proofs.bits.with_class.Goals as goal

pub returns : goal.returns
returns c = (
  rw c.is_stopping.ensures at c.with_bit.ensures,
  rw c.is_stopping-2.ensures at c.with_bit-2.ensures,
  rw c.is_stopping-3.ensures at c.with_bit-3.ensures,
)
