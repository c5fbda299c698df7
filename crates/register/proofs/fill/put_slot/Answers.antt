use Rattle.register.proofs.Writing.{slot_back}
use Rattle.register.proofs.fill.put_slot.Goals as goal

pub returns : goal.returns
returns c = let a = c.args in
    slot_back a.register.now a.plan.now a.i a.first a.second c.requires.0 c.requires.1 c.fill_slot.ensures
