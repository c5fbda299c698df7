use mathlib.Core.Path.{◌≡◌}
use Rattle.period.specs.Code.Twice.{slot_of}
use Rattle.period.proofs.Seen.{slot_small}
use Rattle.period.proofs.twice.slot_of.Goals as goal

pub returns : goal.returns
unfolding slot_of
returns c =
    let d = c.args.d in
    let e : c.select_unpredictable-2.result ≡ slot_of d =
    rw (c.select_unpredictable-2.ensures, c.select_unpredictable.ensures, c.min.ensures) in
    (e, rw e (slot_small d))
