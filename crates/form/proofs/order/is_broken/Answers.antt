use Rattle.std.proofs.Common.{length, ne_eqb, rules}
use mathlib.Core.Bool.{false}
use mathlib.Core.Path.{◌≡◌, sym, ◌∙◌}
use Rattle.below.proofs.Tests.{or_true}
use Rattle.block.specs.Sums.{sums_right}
use Rattle.form.specs.Form.{misplaced}
use Rattle.form.proofs.order.is_broken.Goals as goal

pub returns-then-is_misplaced : goal.returns-then-is_misplaced
returns-then-is_misplaced c = rw (sym c.is_misplaced.ensures ∙ c.if-is_misplaced.true)

pub returns-in_default : goal.returns-in_default
unfolding sums_right
returns-in_default c = rw (← c.block_of.ensures, ne_eqb (length c.block_of.result.now) 512 (search rules), or_true)

pub returns : goal.returns
returns c = let a = c.args in
    let m : misplaced a.plan.now a.b ≡ false = sym c.is_misplaced.ensures ∙ c.if-is_misplaced.false in
    let e : c.in-Some.block.now ≡ c.block_of.result.now = search rules in
    rw (m, ← c.block_of.ensures, ← e) c.block_wrong.ensures
