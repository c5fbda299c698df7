use Rattle.std.proofs.Common.{sym, ◌∙◌, eq-eqb, ne_eqb}
use Rattle.need.proofs.Rows.{low_by, upper_by}
use Rattle.need.proofs.choice.amount.Goals as goal

pub returns-then-choice-eq1 : goal.returns-then-choice-eq1
returns-then-choice-eq1 c = rw (sym c.is_counting.ensures ∙ c.if-is_counting.true) (low_by _ _ (eq-eqb _ _ c.if-choice-eq1.true))

pub returns-then-is_counting : goal.returns-then-is_counting
returns-then-is_counting c =
    let t = sym c.is_counting.ensures ∙ c.if-is_counting.true in
    rw t (c.upper_of.ensures ∙ upper_by _ _ (ne_eqb _ _ c.if-choice-eq1.false) t)

pub returns : goal.returns
returns c = rw (sym c.is_counting.ensures ∙ c.if-is_counting.false)
