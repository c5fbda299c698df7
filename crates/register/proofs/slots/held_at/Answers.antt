use Rattle.std.proofs.Common.{rules, tests}
use Rattle.std.proofs.lemmas.Iterator.{YieldsList-from_slice}
use Rattle.std.proofs.lemmas.Iterator.Search.{position_from_yields_List}
use Rattle.register.specs.Slots.{holds, held_at}
use Rattle.register.proofs.SlotList.{AreSlots, first_slot}
use Rattle.register.proofs.slots.held_at.Goals as goal

pub returns : goal.returns
unfolding held_at
returns c =
    let n = c.args.number in
    let w : AreSlots c.args.register.now c.slots_of.result.now = record { count = c.slots_of.ensures.0; each = c.slots_of.ensures.1 } in
    first_slot w (λ s. holds s n)
    (position_from_yields_List (λ s. holds s n) _ _ c.position.result c.position.ensures.ran (YieldsList-from_slice _ c.iter.ensures.rest) (λ x b q k. search (rules, tests)))
