use mathlib.Core.Path.{refl, ap, sym, ◌∙◌}
use Rattle.std.specs.Prelude.{Err}
use Rattle.std.proofs.lemmas.Result.{err_from_is_err_and}
use Rattle.register.proofs.Answering.{call_refused, call_done, went_on, gave_up}
use Rattle.register.proofs.Clearing.{drop_unsound, drop_unheld, drop_passed, drop_left}
use Rattle.register.proofs.change.drop_plan.Goals as goal

pub returns-in_err-check_sound : goal.returns-in_err-check_sound
returns-in_err-check_sound c = let a = c.args in
    let no = gave_up _ _ (sym c.check_sound.ensures ∙ c.in_err-check_sound.was) in
    let p = err_from_is_err_and c.from_residual.result c.from_residual.ensures.1 in
    call_refused (drop_unsound a.register.now a.number no.0) refl (p.1 ∙ ap Err (p.2 ∙ sym no.1))

pub returns-in_err-held : goal.returns-in_err-held
returns-in_err-held c = let a = c.args in
    let yes = went_on _ _ (sym c.check_sound.ensures ∙ c.in_ok-check_sound.was) in
    let no = gave_up _ _ (sym c.held_in.ensures ∙ c.in_err-held.was) in
    let p = err_from_is_err_and c.from_residual-in_err-held.result c.from_residual-in_err-held.ensures.1 in
    call_refused (drop_unheld a.register.now a.number yes.0 no.0) refl (p.1 ∙ ap Err (p.2 ∙ sym no.1))

pub returns : goal.returns
returns c = let a = c.args in
    let r = a.register.now in
    let yes = went_on _ _ (sym c.check_sound.ensures ∙ c.in_ok-check_sound.was) in
    let held = went_on _ _ (sym c.held_in.ensures ∙ c.in_ok-held.was) in
    call_done (drop_passed r a.number yes.0 held.0) refl (drop_left r a.number held.1 c.free_slot.ensures)
