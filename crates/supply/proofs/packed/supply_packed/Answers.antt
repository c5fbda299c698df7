use Rattle.std.proofs.Common.{sym}
use lib.Seq.{length-take-le}
use Rattle.supply.proofs.Unpacked.{lent_records, lent_within, supply_unpacked}
use Rattle.supply.proofs.packed.supply_packed.Goals as goal

pub slice_bounds-records-end : goal.slice_bounds-records-end
slice_bounds-records-end c = rw (c.packed_count.ensures, c.packed_records-records.ensures) (lent_within c.args.pauses.now)

pub slice_bounds-supply_of-end : goal.slice_bounds-supply_of-end
slice_bounds-supply_of-end c =
    sym (length-take-le c.packed_count.result c.packed_records-records.result (rw (c.packed_count.ensures, c.packed_records-records.ensures) (lent_within c.args.pauses.now)))

pub returns : goal.returns
returns c =
    let a = c.args in
    let s = a.pauses.now in
    rw (c.supply_of.ensures, c.packed_count.ensures, c.packed_records-records.ensures, lent_records s) (supply_unpacked a.plan.now a.start a.pack a.choice s)
