use Rattle.std.proofs.Common.{refl, arith, rules, tests}
use Rattle.std.proofs.lemmas.Iterator.{YieldsList-from_range}
use Rattle.std.proofs.lemmas.Iterator.Search.{all_from_yields_List}
use Rattle.register.proofs.SlotList.{AreSlots, fits, no_slot, all_fit}
use Rattle.register.proofs.sound.is_sound.Goals as goal

pub returns-then-not-is_empty : goal.returns-then-not-is_empty
returns-then-not-is_empty c =
    let r = c.args.register.now in
    let w : AreSlots r c.slots_of-slots.result.now = record { count = c.slots_of-slots.ensures.0; each = c.slots_of-slots.ensures.1 } in
    all_fit w c.is_empty.ensures c.if-not-is_empty.true (omega arith)
    (all_from_yields_List (fits r) _ _ c.all.result c.all.ensures.ran (YieldsList-from_range _ _ _ refl refl) (λ x b q k. search (rules, tests)))

pub returns-else-not-is_empty : goal.returns-else-not-is_empty
returns-else-not-is_empty c =
    let r = c.args.register.now in
    let w : AreSlots r c.slots_of-slots.result.now = record { count = c.slots_of-slots.ensures.0; each = c.slots_of-slots.ensures.1 } in
    no_slot w c.is_empty.ensures c.if-not-is_empty.false refl
