use Rattle.day.proofs.is_no_span.Goals as goal

pub returns : goal.returns
returns c = cc
