use mathlib.Core.Path.{◌≡◌, sym, ◌∙◌}
use native.Mathlib.Omega.{arith}
use borrow.Author.Tests.{eq-eqb, ne_eqb}
use borrow.Author.Rules.{rules}
use Rattle.period.proofs.turn.turn.Goals as goal

pub turn_by-requires : goal.turn_by-requires
turn_by-requires c =
    let k = c.args.d.kind in
    let zero : k ≡ 0 = c.if-d-eq0.true in
    record { room = search rules; j_bound = (search rules, sym (eq-eqb _ 0 zero), sym (ne_eqb k 5 (λ (z : k ≡ 5). omega arith)), sym c.if-is_marked.true ∙ c.is_marked.ensures) }

pub turn_by-requires-then-d-eq0 : goal.turn_by-requires-then-d-eq0
turn_by-requires-then-d-eq0 c =
    let k = c.args.d.kind in
    let zero : k ≡ 0 = c.if-d-eq0.true in
    record { room = search rules; j_bound = (search rules, sym (eq-eqb _ 0 zero), sym (ne_eqb k 5 (λ (z : k ≡ 5). omega arith)), sym c.if-is_marked.false ∙ c.is_marked.ensures) }

pub turn_by-requires-then-d-eq5 : goal.turn_by-requires-then-d-eq5
turn_by-requires-then-d-eq5 c =
    record { room = search rules; j_bound = (search rules, sym (ne_eqb _ 0 c.if-d-eq0.false), sym (eq-eqb _ 5 c.if-d-eq5.true), c.is_marked-then-d-eq5.ensures) }

pub turn_by-requires-2 : goal.turn_by-requires-2
turn_by-requires-2 c =
    record { room = search rules; j_bound = (search rules, sym (ne_eqb _ 0 c.if-d-eq0.false), sym (ne_eqb _ 5 c.if-d-eq5.false), c.is_marked-2.ensures) }
