use Rattle.std.proofs.Common.{ap, ◌∙◌}
use Rattle.std.specs.Prelude.{Ok}
use Rattle.supply.proofs.Asking.{set_is}
use Rattle.supply.proofs.lent.dates_of.Goals as goal

pub returns : goal.returns
returns c =
    let a = c.args in
    let f = rw c.are_out.ensures at c.in_ok-asked.ensures in
    ap Ok c.set_of.ensures
    ∙ set_is a.plan.now a.start a.pack a.pauses.now _ f c.supply_by.ensures c.supply_by-2.ensures c.supply_by-3.ensures c.supply_by-4.ensures
