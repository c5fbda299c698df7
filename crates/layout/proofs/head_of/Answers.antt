use Rattle.layout.specs.Reading.{head_of}
use Rattle.layout.proofs.head_of.Goals as goal

-- src/lib.rt:33:1
pub returns : goal.returns
unfolding head_of
returns c = cc
