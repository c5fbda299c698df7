use Rattle.register.proofs.slots.has_two.Goals as goal

pub returns : goal.returns
returns c = cc
