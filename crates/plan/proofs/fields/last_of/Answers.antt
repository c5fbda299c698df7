use Rattle.plan.proofs.fields.last_of.Goals as goal

pub returns : goal.returns
returns c = cc
