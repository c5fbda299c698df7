use Rattle.plan.proofs.DoseRecord.{mark_at}
use Rattle.plan.proofs.records.is_marked_in.Goals as goal

pub returns : goal.returns
returns c = rw (mark_at _ _) (cc)
