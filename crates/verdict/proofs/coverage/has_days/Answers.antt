use Rattle.verdict.proofs.coverage.has_days.Goals as goal

pub returns : goal.returns
returns c = cc
