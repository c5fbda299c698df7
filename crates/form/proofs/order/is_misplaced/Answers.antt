use borrow.Author.Rules.{rules}
use mathlib.Core.Bool.{not}
use mathlib.Core.List.{List}
use mathlib.Core.Path.{sym, ap, ◌∙◌}
use Prim.Native.Nat.{ℕ}
use borrow.Author.Tests.{eq-eqb, ne_eqb}
use Rattle.plan.specs.Fields.{kind_of}
use Rattle.form.specs.Form.{misplaced}
use Rattle.form.proofs.order.is_misplaced.Goals as goal

pub returns-then-b-eq0 : goal.returns-then-b-eq0
unfolding misplaced
returns-then-b-eq0 c = rw (eq-eqb _ _ c.if-b-eq0.true) c.no_head.ensures

pub returns-in-2 : goal.returns-in-2
unfolding misplaced
returns-in-2 c = let k = ap (λ (x : List ℕ). kind_of x) (sym c.block_of.ensures) ∙ sym c.kind_of.ensures in
    rw (ne_eqb _ _ c.if-b-eq0.false, k, c.in-2.is)

pub returns-in-3 : goal.returns-in-3
unfolding misplaced
returns-in-3 c = let k = ap (λ (x : List ℕ). kind_of x) (sym c.block_of.ensures) ∙ sym c.kind_of.ensures in
    rw (ne_eqb _ _ c.if-b-eq0.false, k, c.in-3.is) (ap not c.goes_on.ensures)

pub returns-in_default : goal.returns-in_default
unfolding misplaced
returns-in_default c = let k = ap (λ (x : List ℕ). kind_of x) (sym c.block_of.ensures) ∙ sym c.kind_of.ensures in
    rw (ne_eqb _ _ c.if-b-eq0.false, k, ne_eqb c.kind_of.result 2 (search rules), ne_eqb c.kind_of.result 3 (search rules))
