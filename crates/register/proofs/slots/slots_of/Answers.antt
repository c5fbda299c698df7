use Rattle.std.proofs.Common.{rules}
use Rattle.register.proofs.SlotList.{slots_cut}
use Rattle.register.proofs.slots.slots_of.Goals as goal

pub returns : goal.returns
returns c = let w = slots_cut c.args.register.now c.as_chunks.ensures.front (search rules) in (w.count, w.each)
