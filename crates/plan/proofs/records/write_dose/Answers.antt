use Rattle.plan.proofs.DoseRecord.{dose_lost, dose_written}
use borrow.Author.Rules.{rules}
use Rattle.plan.proofs.records.write_dose.Goals as goal

pub returns-then-record-lt-RECORD : goal.returns-then-record-lt-RECORD
returns-then-record-lt-RECORD c = dose_lost _ _ (search rules)

pub returns : goal.returns
returns c = cc (dose_written c.args.«record».now c.args.dose (search rules), c.put_half.ensures, c.put_bytes.ensures, c.put_half-2.ensures, c.put_half-3.ensures, c.put_long.ensures, c.put_long-2.ensures)
