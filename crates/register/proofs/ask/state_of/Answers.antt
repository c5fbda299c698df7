use Rattle.std.specs.Prelude.{Err, Ok}
use mathlib.Core.Path.{refl, ap, sym, ◌∙◌}
use borrow.Author.Rules.{rules}
use Rattle.std.proofs.lemmas.Result.{err_from_is_err_and}
use Rattle.register.proofs.SlotList.{AreSlots}
use Rattle.register.proofs.Answering.{call_refused, call_done, went_on, gave_up, slot_of_held, state_unsound, state_unheld, state_passed, state_given, state_kept}
use Rattle.register.proofs.ask.state_of.Goals as goal

pub returns-in_err-check_sound : goal.returns-in_err-check_sound
returns-in_err-check_sound c = let a = c.args in
    let no = gave_up _ _ (sym c.check_sound.ensures ∙ c.in_err-check_sound.was) in
    let p = err_from_is_err_and c.from_residual.result c.from_residual.ensures.1 in
    call_refused (state_unsound a.register.now a.number no.0) refl (p.1 ∙ ap Err (p.2 ∙ sym no.1))

pub returns-in_err-held : goal.returns-in_err-held
returns-in_err-held c = let a = c.args in
    let yes = went_on _ _ (sym c.check_sound.ensures ∙ c.in_ok-check_sound.was) in
    let no = gave_up _ _ (sym c.held_in.ensures ∙ c.in_err-held.was) in
    let p = err_from_is_err_and c.from_residual-in_err-held.result c.from_residual-in_err-held.ensures.1 in
    call_refused (state_unheld a.register.now a.number yes.0 no.0) refl (p.1 ∙ ap Err (p.2 ∙ sym no.1))

pub returns : goal.returns
returns c = let a = c.args in
    let r = a.register.now in
    let yes = went_on _ _ (sym c.check_sound.ensures ∙ c.in_ok-check_sound.was) in
    let held = went_on _ _ (sym c.held_in.ensures ∙ c.in_ok-held.was) in
    let w : AreSlots r c.slots_of.result.now = record { count = c.slots_of.ensures.0; each = c.slots_of.ensures.1 } in
    call_done (state_passed r a.number yes.0 held.0)
    (ap Ok (state_given r a.number (slot_of_held r a.number w held.0 held.1) (search rules) c.signers_in.ensures))
    (state_kept r a.number)
