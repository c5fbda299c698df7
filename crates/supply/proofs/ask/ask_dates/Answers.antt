use mathlib.Core.Path.{refl}
use Rattle.verdict.proofs.Exactly.{accepted_only}
use Rattle.supply.proofs.Accepted.{orderly}
use Rattle.supply.proofs.Asking.{asks_dates}
use Rattle.supply.proofs.ask.ask_dates.Goals as goal

pub is_ranging-requires : goal.is_ranging-requires
is_ranging-requires c =
    let j = c.in_ok-asked.ensures.judged in
    (j.tells 1, (orderly _ (accepted_only _ j.accepted.1) 1).few)

pub is_needed-requires : goal.is_needed-requires
is_needed-requires c = c.in_ok-asked.ensures.judged.tells 4

pub returns : goal.returns
returns c = asks_dates _ c.in_ok-asked.ensures refl refl refl c.is_ranging.ensures c.is_needed.ensures
