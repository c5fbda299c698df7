use Rattle.verdict.proofs.classed_plan.ClassedPlan.span_at.Goals as goal

pub returns : goal.returns
returns c = cc (c.class_at.ensures.known c.requires.0 c.requires.1)
