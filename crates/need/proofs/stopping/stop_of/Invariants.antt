use Rattle.std.proofs.Common.{is_some}
use Rattle.std.specs.Option.{unwrap_or}
use Rattle.plan.specs.Fields.{last_of}
use Rattle.plan.specs.Periods.{block_at}
use Rattle.need.specs.Telling.{is_told}
use Rattle.need.proofs.Found.{Found}
use Rattle.need.proofs.Telling.{Behind}
use Rattle.need.proofs.stopping.stop_of.Given as goal

abbrev pub invariant-loop-b : goal.invariant-loop-b
invariant-loop-b l =
    Behind l.chosen l.b l.bits × Found (is_told l.chosen l.plan) (λ k. last_of (block_at l.plan k)) l.b (is_some l.stop) (unwrap_or l.stop 0)
