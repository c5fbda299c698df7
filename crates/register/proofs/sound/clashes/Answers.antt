use Rattle.std.proofs.Common.{rules, tests}
use Rattle.std.proofs.lemmas.Iterator.{YieldsList-from_slice}
use Rattle.std.proofs.lemmas.Iterator.Search.{any_from_yields_List}
use Rattle.register.specs.Slots.{holds}
use Rattle.register.proofs.SlotList.{AreSlots, no_clash, clash}
use Rattle.register.proofs.sound.clashes.Goals as goal

pub returns-then-is_free : goal.returns-then-is_free
returns-then-is_free c =
    let w : AreSlots c.args.register.now c.slots_of-slots.result.now = record { count = c.slots_of-slots.ensures.0; each = c.slots_of-slots.ensures.1 } in
    no_clash w c.args.j c.requires (search (rules, tests))

pub returns : goal.returns
returns c =
    let w : AreSlots c.args.register.now c.slots_of-slots.result.now = record { count = c.slots_of-slots.ensures.0; each = c.slots_of-slots.ensures.1 } in
    clash w c.args.j c.requires (search (rules, tests)) (search (rules, tests))
    (any_from_yields_List (λ s. holds s c.plan_number_of-number.result) _ _ c.any.result c.any.ensures.ran (YieldsList-from_slice _ c.iter.ensures.rest) (λ x b q k. search (rules, tests)))
