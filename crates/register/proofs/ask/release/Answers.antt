use Rattle.std.specs.Prelude.{Err}
use mathlib.Core.Bool.{not}
use mathlib.Core.Path.{refl, ap, sym, ◌∙◌}
use borrow.Author.Rules.{rules}
use Rattle.std.proofs.lemmas.Result.{err_from_is_err_and}
use Rattle.register.proofs.SlotList.{AreSlots}
use Rattle.register.proofs.Answering.{went_on, gave_up, slot_of_held, release_unsound, release_small, release_unheld, release_unsigned, release_passed, release_refused, release_done, two_stand}
use Rattle.register.proofs.ask.release.Goals as goal

pub returns-in_err-check_sound : goal.returns-in_err-check_sound
returns-in_err-check_sound c = let a = c.args in
    let no = gave_up _ _ (sym c.check_sound.ensures ∙ c.in_err-check_sound.was) in
    let p = err_from_is_err_and c.from_residual.result c.from_residual.ensures.1 in
    release_refused a.register.now a.number a.room.now (release_unsound _ _ _ no.0) refl (p.1 ∙ ap Err (p.2 ∙ sym no.1))

pub returns-then-room-lt-ROOM : goal.returns-then-room-lt-ROOM
returns-then-room-lt-ROOM c = let a = c.args in
    let yes = went_on _ _ (sym c.check_sound.ensures ∙ c.in_ok-check_sound.was) in
    release_refused a.register.now a.number a.room.now (release_small _ _ _ yes.0 c.if-room-lt-ROOM.true) refl (ap Err c.alone.ensures)

pub returns-in_err-held : goal.returns-in_err-held
returns-in_err-held c = let a = c.args in
    let yes = went_on _ _ (sym c.check_sound.ensures ∙ c.in_ok-check_sound.was) in
    let no = gave_up _ _ (sym c.held_in.ensures ∙ c.in_err-held.was) in
    let p = err_from_is_err_and c.from_residual-in_err-held.result c.from_residual-in_err-held.ensures.1 in
    release_refused a.register.now a.number a.room.now (release_unheld _ _ _ yes.0 c.if-room-lt-ROOM.false no.0) refl (p.1 ∙ ap Err (p.2 ∙ sym no.1))

pub returns-then-not-has_two : goal.returns-then-not-has_two
returns-then-not-has_two c = let a = c.args in
    let r = a.register.now in
    let yes = went_on _ _ (sym c.check_sound.ensures ∙ c.in_ok-check_sound.was) in
    let held = went_on _ _ (sym c.held_in.ensures ∙ c.in_ok-held.was) in
    let w : AreSlots r c.slots_of.result.now = record { count = c.slots_of.ensures.0; each = c.slots_of.ensures.1 } in
    let u = slot_of_held r a.number w held.0 held.1 in
    release_refused r a.number a.room.now (release_unsigned _ _ _ yes.0 c.if-room-lt-ROOM.false held.0 (two_stand u c.has_two.ensures ∙ ap not c.if-not-has_two.true)) refl (ap Err c.alone-then-not-has_two.ensures)

pub returns : goal.returns
returns c = let a = c.args in
    let r = a.register.now in
    let yes = went_on _ _ (sym c.check_sound.ensures ∙ c.in_ok-check_sound.was) in
    let held = went_on _ _ (sym c.held_in.ensures ∙ c.in_ok-held.was) in
    let w : AreSlots r c.slots_of.result.now = record { count = c.slots_of.ensures.0; each = c.slots_of.ensures.1 } in
    let u = slot_of_held r a.number w held.0 held.1 in
    release_done r a.number a.room.now (release_passed _ _ _ yes.0 c.if-room-lt-ROOM.false held.0 (two_stand u c.has_two.ensures ∙ ap not c.if-not-has_two.false)) c.if-room-lt-ROOM.false u c.plan_in-plan.ensures.0 c.plan_in-plan.ensures.1 (search rules) c.put_bytes.ensures
