use mathlib.Core.Path.{sym, ◌∙◌}
use Rattle.verdict.specs.Code.Groups.{hole_after}
use Rattle.verdict.proofs.classed_plan.ClassedPlan.is_hole_after.Goals as goal

pub returns-then-is_member : goal.returns-then-is_member
unfolding hole_after
returns-then-is_member c =
    let m = sym c.is_member.ensures ∙ c.if-is_member.true in
    rw (rw c.cover.ensures at m) (cc)

pub returns-else-is_member : goal.returns-else-is_member
unfolding hole_after
returns-else-is_member c =
    let m = sym c.is_member.ensures ∙ c.if-is_member.false in
    rw (rw c.cover.ensures at m) c.if-is_member.false
