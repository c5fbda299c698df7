use Rattle.plan.proofs.DoseRecord.{mark_of}
use Rattle.plan.proofs.records.is_record_marked.Goals as goal

pub returns : goal.returns
returns c = rw (mark_of _) (cc)
