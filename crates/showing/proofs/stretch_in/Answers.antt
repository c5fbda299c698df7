use mathlib.Core.Path.{◌≡◌, sym, ◌∙◌}
use native.Mathlib.Omega.{arith}
use Rattle.plan.specs.Periods.{blocks_of}
use Rattle.doses.specs.Doses.{covers}
use Rattle.form.proofs.Ranges.{some_found, none_found}
use Rattle.showing.specs.Showing.{first_covering, shown_in}
use Rattle.showing.proofs.Stretches.{no_err, some_err, whole_right, shown_broken, shown_first, shown_none, shown_inside}
use Rattle.showing.proofs.stretch_in.Goals as goal

pub returns-then-is_err : goal.returns-then-is_err
returns-then-is_err c = let a = c.args in
    let broken = some_err _ (rw c.form_of.ensures at (sym c.is_err.ensures.value ∙ c.if-is_err.true)) in
    record { value = sym (shown_broken a.part.now a.day broken.1); inside = omega arith }

pub first_covering-requires : goal.first_covering-requires
first_covering-requires c = whole_right _ (no_err _ (rw c.form_of.ensures at (sym c.is_err.ensures.value ∙ c.if-is_err.false)))

pub returns-in-Some : goal.returns-in-Some
returns-in-Some c = let a = c.args in
    let e = no_err _ (rw c.form_of.ensures at (sym c.is_err.ensures.value ∙ c.if-is_err.false)) in
    let found = some_found (blocks_of a.part.now) (covers a.part.now a.day) (sym c.in-Some.ensures) in
    let same : c.blocks_shown.result ≡ shown_in a.part.now a.day = c.blocks_shown.ensures ∙ rw found.0 (sym (shown_first a.part.now a.day e (omega (arith, found.0, found.1)))) in
    record { value = same; inside = rw same (shown_inside a.part.now a.day) }

pub returns-in-None : goal.returns-in-None
returns-in-None c = let a = c.args in
    let e = no_err _ (rw c.form_of.ensures at (sym c.is_err.ensures.value ∙ c.if-is_err.false)) in
    let none : first_covering a.part.now a.day ≡ blocks_of a.part.now = none_found (blocks_of a.part.now) (covers a.part.now a.day) (sym c.in-None.ensures) in
    record { value = sym (shown_none a.part.now a.day e (omega (arith, none))); inside = omega arith }
