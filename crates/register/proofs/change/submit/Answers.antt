use mathlib.Core.Path.{refl, sym, ap, ◌∙◌}
use native.Mathlib.Omega.{arith}
use borrow.Author.Tests.{ltb-true}
use Rattle.std.specs.Prelude.{Err, ok_or}
use Rattle.std.proofs.lemmas.Result.{err_from_is_err_and}
use Rattle.refusal.specs.Refusals.{refusal_in}
use Rattle.plan.specs.Fields.{plan_number_of}
use Rattle.register.proofs.SlotList.{AreSlots}
use Rattle.register.proofs.Answering.{call_refused, call_done, went_on, gave_up, found_some, found_none, found_or, held_within, slot_of_held}
use Rattle.register.proofs.LawDone.{broken_number}
use Rattle.register.proofs.Submitting.{accepted_fits, under_revision, submit_unsound, submit_broken, submit_stale, submit_full, submit_again, submit_new, submit_same, submit_free}
use Rattle.register.proofs.change.submit.Goals as goal

pub returns-in_err-check_sound : goal.returns-in_err-check_sound
returns-in_err-check_sound c = let a = c.args in
    let no = gave_up _ _ (sym c.check_sound.ensures ∙ c.in_err-check_sound.was) in
    let p = err_from_is_err_and c.from_residual.result c.from_residual.ensures.1 in
    call_refused (submit_unsound a.register.now a.plan.now no.0) refl (p.1 ∙ ap Err (p.2 ∙ sym no.1))

pub returns-in_default : goal.returns-in_default
returns-in_default c = let a = c.args in
    let yes = went_on _ _ (sym c.check_sound.ensures ∙ c.in_ok-check_sound.was) in
    let v = sym c.verdict-answer.ensures ∙ c.in_default.is in
    call_refused (submit_broken a.register.now a.plan.now yes.0 v) (broken_number a.plan.now _ v) (ap Err (c.refusal_in.ensures ∙ ap refusal_in c.in_default.is))

pub returns-then-revision_of : goal.returns-then-revision_of
returns-then-revision_of c = let a = c.args in
    let r = a.register.now in
    let p = a.plan.now in
    let yes = went_on _ _ (sym c.check_sound.ensures ∙ c.in_ok-check_sound.was) in
    let held = rw c.plan_number_of.ensures at (found_some _ c.in-Some.ensures) in
    let w : AreSlots r c.slots_of.result.now = record { count = c.slots_of.ensures.0; each = c.slots_of.ensures.1 } in
    let old = under_revision r _ (slot_of_held r (plan_number_of p) w held.0 held.1) c.plan_in.ensures.0 c.revision_of-in-Some.ensures in
    call_refused (submit_stale r p yes.0 (sym c.verdict-answer.ensures ∙ c.in-Ok.is) held.0 (omega (arith, old, c.revision_of.ensures, c.if-revision_of.true))) refl (ap Err c.alone.ensures)

pub put_slot-requires : goal.put_slot-requires
put_slot-requires c =
    let held = found_some _ c.in-Some.ensures in
    (held_within _ _ held.0 held.1, accepted_fits _ (sym c.verdict-answer.ensures ∙ c.in-Ok.is))

pub returns-in-Some : goal.returns-in-Some
returns-in-Some c = let a = c.args in
    let r = a.register.now in
    let p = a.plan.now in
    let yes = went_on _ _ (sym c.check_sound.ensures ∙ c.in_ok-check_sound.was) in
    let held = rw c.plan_number_of.ensures at (found_some _ c.in-Some.ensures) in
    let w : AreSlots r c.slots_of.result.now = record { count = c.slots_of.ensures.0; each = c.slots_of.ensures.1 } in
    let old = under_revision r _ (slot_of_held r (plan_number_of p) w held.0 held.1) c.plan_in.ensures.0 c.revision_of-in-Some.ensures in
    call_done (submit_again r p yes.0 (sym c.verdict-answer.ensures ∙ c.in-Ok.is) held.0 (omega (arith, old, c.revision_of.ensures, c.if-revision_of.false)))
    refl
    (submit_same r p held.0 held.1 c.put_slot.ensures)

pub returns-in_err-free : goal.returns-in_err-free
returns-in_err-free c = let a = c.args in
    let r = a.register.now in
    let yes = went_on _ _ (sym c.check_sound.ensures ∙ c.in_ok-check_sound.was) in
    let none = rw c.plan_number_of.ensures at (found_none _ _ (sym c.in_default-held_at.is ∙ c.held_at.ensures)) in
    let no = gave_up _ _ (sym (found_or _ _ _) ∙ ap (λ x. ok_or x c.alone-2.result) (sym c.free_at.ensures) ∙ sym c.ok_or.ensures.value ∙ c.in_err-free.was) in
    let p = err_from_is_err_and c.from_residual-in_err-free.result c.from_residual-in_err-free.ensures.1 in
    call_refused (submit_full r a.plan.now yes.0 (sym c.verdict-answer.ensures ∙ c.in-Ok.is) none no.0) refl (p.1 ∙ ap Err (p.2 ∙ sym no.1 ∙ c.alone-2.ensures))

pub put_slot-requires-2 : goal.put_slot-requires-2
put_slot-requires-2 c =
    let free = went_on _ _ (sym (found_or _ _ _) ∙ ap (λ x. ok_or x c.alone-2.result) (sym c.free_at.ensures) ∙ sym c.ok_or.ensures.value ∙ c.in_ok-free.was) in
    (rw free.1 at (ltb-true _ _ free.0), accepted_fits _ (sym c.verdict-answer.ensures ∙ c.in-Ok.is))

pub returns : goal.returns
returns c = let a = c.args in
    let r = a.register.now in
    let p = a.plan.now in
    let yes = went_on _ _ (sym c.check_sound.ensures ∙ c.in_ok-check_sound.was) in
    let none = rw c.plan_number_of.ensures at (found_none _ _ (sym c.in_default-held_at.is ∙ c.held_at.ensures)) in
    let free = went_on _ _ (sym (found_or _ _ _) ∙ ap (λ x. ok_or x c.alone-2.result) (sym c.free_at.ensures) ∙ sym c.ok_or.ensures.value ∙ c.in_ok-free.was) in
    call_done (submit_new r p yes.0 (sym c.verdict-answer.ensures ∙ c.in-Ok.is) none free.0)
    refl
    (submit_free r p none free.1 c.put_slot-2.ensures)
