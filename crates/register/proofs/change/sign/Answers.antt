use mathlib.Core.Bool.{not}
use mathlib.Core.Path.{refl, sym, ap, ◌∙◌}
use Rattle.std.specs.Prelude.{Err}
use Rattle.std.proofs.lemmas.Result.{err_from_is_err_and}
use Rattle.plan.specs.Fields.{plan_number_of}
use Rattle.register.proofs.SlotList.{AreSlots}
use Rattle.register.proofs.Answering.{call_refused, call_done, went_on, gave_up, slot_of_held}
use Rattle.register.proofs.LawDone.{broken_number}
use Rattle.register.proofs.Signing.{same_by, sign_unsound, sign_nobody, sign_broken, sign_unheld, sign_other, sign_full, sign_twice, sign_passed, sign_first, sign_second}
use Rattle.register.proofs.change.sign.Goals as goal

pub returns-in_err-check_sound : goal.returns-in_err-check_sound
returns-in_err-check_sound c = let a = c.args in
    let no = gave_up _ _ (sym c.check_sound.ensures ∙ c.in_err-check_sound.was) in
    let p = err_from_is_err_and c.from_residual.result c.from_residual.ensures.1 in
    call_refused (sign_unsound a.register.now a.signer a.plan.now no.0) refl (p.1 ∙ ap Err (p.2 ∙ sym no.1))

pub returns-then-signer-eq0 : goal.returns-then-signer-eq0
returns-then-signer-eq0 c = let a = c.args in
    let yes = went_on _ _ (sym c.check_sound.ensures ∙ c.in_ok-check_sound.was) in
    call_refused (sign_nobody a.register.now a.signer a.plan.now yes.0 c.if-signer-eq0.true) refl (ap Err c.alone.ensures)

pub returns-in_err-verdict : goal.returns-in_err-verdict
returns-in_err-verdict c = let a = c.args in
    let yes = went_on _ _ (sym c.check_sound.ensures ∙ c.in_ok-check_sound.was) in
    let v = sym c.verdict.ensures ∙ c.in_err-verdict.was in
    let p = err_from_is_err_and c.from_residual-in_err-verdict.result c.from_residual-in_err-verdict.ensures.1 in
    call_refused (sign_broken a.register.now a.signer a.plan.now yes.0 c.if-signer-eq0.false v) (broken_number a.plan.now _ v) (p.1 ∙ ap Err p.2)

pub returns-in_err-held : goal.returns-in_err-held
returns-in_err-held c = let a = c.args in
    let r = a.register.now in
    let p = a.plan.now in
    let yes = went_on _ _ (sym c.check_sound.ensures ∙ c.in_ok-check_sound.was) in
    let v = sym c.verdict.ensures ∙ c.in_ok-verdict.was in
    let no = rw c.plan_number_of.ensures at (gave_up _ _ (sym c.held_in.ensures ∙ c.in_err-held.was)) in
    let q = err_from_is_err_and c.from_residual-in_err-held.result c.from_residual-in_err-held.ensures.1 in
    call_refused (sign_unheld r a.signer p yes.0 c.if-signer-eq0.false v no.0) refl (q.1 ∙ ap Err (q.2 ∙ sym no.1))

pub returns-then-ne : goal.returns-then-ne
returns-then-ne c = let a = c.args in
    let r = a.register.now in
    let p = a.plan.now in
    let yes = went_on _ _ (sym c.check_sound.ensures ∙ c.in_ok-check_sound.was) in
    let v = sym c.verdict.ensures ∙ c.in_ok-verdict.was in
    let held = rw c.plan_number_of.ensures at (went_on _ _ (sym c.held_in.ensures ∙ c.in_ok-held.was)) in
    let w : AreSlots r c.slots_of.result.now = record { count = c.slots_of.ensures.0; each = c.slots_of.ensures.1 } in
    let u = slot_of_held r (plan_number_of p) w held.0 held.1 in
    let agree = same_by p c.plan_in.result.now c.ne.ensures ∙ ap not c.if-ne.true in
    call_refused (sign_other r a.signer p yes.0 c.if-signer-eq0.false v held.0 u c.plan_in.ensures.0 agree) refl (ap Err c.alone-then-ne.ensures)

pub returns-then-has_two : goal.returns-then-has_two
returns-then-has_two c = let a = c.args in
    let r = a.register.now in
    let p = a.plan.now in
    let yes = went_on _ _ (sym c.check_sound.ensures ∙ c.in_ok-check_sound.was) in
    let v = sym c.verdict.ensures ∙ c.in_ok-verdict.was in
    let held = rw c.plan_number_of.ensures at (went_on _ _ (sym c.held_in.ensures ∙ c.in_ok-held.was)) in
    let w : AreSlots r c.slots_of.result.now = record { count = c.slots_of.ensures.0; each = c.slots_of.ensures.1 } in
    let u = slot_of_held r (plan_number_of p) w held.0 held.1 in
    let agree = same_by p c.plan_in.result.now c.ne.ensures ∙ ap not c.if-ne.false in
    call_refused (sign_full r a.signer p yes.0 c.if-signer-eq0.false v held.0 u c.plan_in.ensures.0 agree c.has_two.ensures c.if-has_two.true) refl (ap Err c.alone-then-has_two.ensures)

pub returns-then-first-signer : goal.returns-then-first-signer
returns-then-first-signer c = let a = c.args in
    let r = a.register.now in
    let p = a.plan.now in
    let yes = went_on _ _ (sym c.check_sound.ensures ∙ c.in_ok-check_sound.was) in
    let v = sym c.verdict.ensures ∙ c.in_ok-verdict.was in
    let held = rw c.plan_number_of.ensures at (went_on _ _ (sym c.held_in.ensures ∙ c.in_ok-held.was)) in
    let w : AreSlots r c.slots_of.result.now = record { count = c.slots_of.ensures.0; each = c.slots_of.ensures.1 } in
    let u = slot_of_held r (plan_number_of p) w held.0 held.1 in
    let agree = same_by p c.plan_in.result.now c.ne.ensures ∙ ap not c.if-ne.false in
    call_refused (sign_twice r a.signer p yes.0 c.if-signer-eq0.false v held.0 u c.plan_in.ensures.0 agree c.has_two.ensures c.if-has_two.false c.first_signer-first.ensures c.if-first-signer.true) refl (ap Err c.alone-then-first-signer.ensures)

pub returns-then-first-eq0 : goal.returns-then-first-eq0
returns-then-first-eq0 c = let a = c.args in
    let r = a.register.now in
    let p = a.plan.now in
    let yes = went_on _ _ (sym c.check_sound.ensures ∙ c.in_ok-check_sound.was) in
    let v = sym c.verdict.ensures ∙ c.in_ok-verdict.was in
    let held = rw c.plan_number_of.ensures at (went_on _ _ (sym c.held_in.ensures ∙ c.in_ok-held.was)) in
    let w : AreSlots r c.slots_of.result.now = record { count = c.slots_of.ensures.0; each = c.slots_of.ensures.1 } in
    let u = slot_of_held r (plan_number_of p) w held.0 held.1 in
    let agree = same_by p c.plan_in.result.now c.ne.ensures ∙ ap not c.if-ne.false in
    call_done (sign_passed r a.signer p yes.0 c.if-signer-eq0.false v held.0 u c.plan_in.ensures.0 agree c.has_two.ensures c.if-has_two.false c.first_signer-first.ensures c.if-first-signer.false) refl (sign_first r a.signer p u held.1 c.first_signer-first.ensures c.if-first-eq0.true c.put_slot.ensures)

pub returns-else-first-eq0 : goal.returns-else-first-eq0
returns-else-first-eq0 c = let a = c.args in
    let r = a.register.now in
    let p = a.plan.now in
    let yes = went_on _ _ (sym c.check_sound.ensures ∙ c.in_ok-check_sound.was) in
    let v = sym c.verdict.ensures ∙ c.in_ok-verdict.was in
    let held = rw c.plan_number_of.ensures at (went_on _ _ (sym c.held_in.ensures ∙ c.in_ok-held.was)) in
    let w : AreSlots r c.slots_of.result.now = record { count = c.slots_of.ensures.0; each = c.slots_of.ensures.1 } in
    let u = slot_of_held r (plan_number_of p) w held.0 held.1 in
    let agree = same_by p c.plan_in.result.now c.ne.ensures ∙ ap not c.if-ne.false in
    call_done (sign_passed r a.signer p yes.0 c.if-signer-eq0.false v held.0 u c.plan_in.ensures.0 agree c.has_two.ensures c.if-has_two.false c.first_signer-first.ensures c.if-first-signer.false) refl (sign_second r a.signer p u held.1 c.first_signer-first.ensures c.if-first-eq0.false c.put_slot-else-first-eq0.ensures)
