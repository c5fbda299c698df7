use borrow.Author.Rules.{rules}
use Rattle.register.proofs.Writing.{slot_filled}
use Rattle.register.proofs.fill.fill_slot.Goals as goal

pub returns : goal.returns
returns c = let a = c.args in
    slot_filled a.slot.now a.plan.now a.first a.second c.requires.0 c.requires.1 (search rules) c.control_block.ensures (cc) c.clear.ensures
