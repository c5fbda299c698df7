use Rattle.std.proofs.Common.{not, sym, ap, ◌∙◌, eq-eqb, ne_eqb}
use Rattle.need.proofs.Rows.{counts_fixed, counts_four, counts_other}
use Rattle.need.proofs.choice.is_counting.Goals as goal

pub returns-then-choice : goal.returns-then-choice
returns-then-choice c = ap not c.is_marked.ensures ∙ sym (counts_fixed _ c.if-choice.true _)

pub returns-then-choice-eq4 : goal.returns-then-choice-eq4
returns-then-choice-eq4 c = c.is_marked-then-choice-eq4.ensures ∙ sym (counts_four _ _ (eq-eqb _ _ c.if-choice-eq4.true))

pub returns : goal.returns
returns c = sym (counts_other _ c.if-choice.false (ne_eqb _ _ c.if-choice-eq4.false) _)
