use Rattle.plan.proofs.DoseRecord.{length_record}
use native.Mathlib.Omega.{arith}
use Rattle.form.proofs.block_form.dose_out.Goals as goal

pub record_out-requires : goal.record_out-requires
record_out-requires c = rw c.record_of.ensures (length_record c.args.r.now c.args.i (omega arith))

pub returns : goal.returns
returns c = cc
