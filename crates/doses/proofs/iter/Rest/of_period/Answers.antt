use Rattle.std.proofs.Common.{◌≡◌, true, false, arith}
use Rattle.doses.specs.Doses.{covers}
use Rattle.doses.specs.Code.Left.{applied}
use Rattle.doses.specs.declared.iter.Rest.{Rest}
use Rattle.doses.proofs.Left.{join_end, left_all}
use Rattle.doses.proofs.iter.Rest.of_period.Goals as goal

pub returns-then-not-is_covering : goal.returns-then-not-is_covering
returns-then-not-is_covering c =
    let a = c.args in
    let h : covers a.plan.now a.day a.b ≡ false = cc in
    let nothing : Rest = record { block = 0; next = 0; end = 0; position = 0 } in
    rw h (join_end 0 (applied a.plan.now nothing) 0 (omega arith))

pub returns : goal.returns
returns c =
    let a = c.args in
    let h : covers a.plan.now a.day a.b ≡ true = cc in
    rw (h, c.doses_of.ensures.0, c.position_of.ensures, c.block_of.ensures, c.from.ensures) (left_all a.plan.now a.day a.b)
