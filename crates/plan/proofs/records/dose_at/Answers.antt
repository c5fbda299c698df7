use Rattle.plan.proofs.records.dose_at.Goals as goal

pub returns : goal.returns
returns c = cc
