use mathlib.Core.Path.{◌≡◌}
use native.Mathlib.Omega.{arith}
use Rattle.doses.specs.Doses.{position_of}
use Rattle.plan.specs.Fields.{header_of}
use Rattle.plan.specs.Periods.{block_at}
use Rattle.supply.proofs.Placing.{position_one, position_small}
use Rattle.supply.proofs.place.position_in.Goals as goal

pub returns-then-t-eq1 : goal.returns-then-t-eq1
returns-then-t-eq1 c =
    position_one (block_at c.args.plan.now c.args.t.b) c.args.day (omega (arith, c.requires.0, c.if-t-eq1.true))

pub overflow_cast-result : goal.overflow_cast-result
overflow_cast-result c =
    let x : c.position_of.result ≡ position_of (header_of (block_at c.args.plan.now c.args.t.b)) c.args.day = cc in
    record { fits = omega (arith, c.requires.1, position_small (block_at c.args.plan.now c.args.t.b) c.args.day) }
