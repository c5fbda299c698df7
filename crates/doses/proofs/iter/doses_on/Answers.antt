use Rattle.std.proofs.Common.{arith}
use Rattle.doses.specs.Code.Left.{applied}
use Rattle.doses.specs.declared.iter.Rest.{Rest}
use Rattle.doses.proofs.Left.{join_end, day_all}
use Rattle.doses.proofs.iter.doses_on.Goals as goal

pub returns : goal.returns
returns c =
    let p = c.args.plan.now in
    let nothing : Rest = record { block = 0; next = 0; end = 0; position = 0 } in
    rw (join_end 0 (applied p nothing) 0 (omega arith)) (day_all p c.args.day)
