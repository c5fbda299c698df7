use Rattle.plan.specs.Periods.{block_at}
use Rattle.supply.proofs.Placing.{position_some}
use Rattle.supply.proofs.place.place_on.Goals as goal

pub place_at-requires : goal.place_at-requires
place_at-requires c =
    let k = rw c.in-Some.is at c.requires.0 in
    record { sorted = (k.sorted, k.small, k.all, k.interval_is); position_nonzero = (rw c.position_in-position.ensures (position_some (block_at c.args.plan.now c.in-Some.t.b) c.args.day), c.dose_from-from.ensures) }
