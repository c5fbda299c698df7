use Rattle.std.proofs.Common.{◌≡◌, get_or}
use Rattle.below.specs.Below.{any_below}
use Rattle.pause.specs.Pauses.{no_day, holds}
use Rattle.pause.proofs.lent.paused.Given as goal

abbrev pub invariant-loop-p : goal.invariant-loop-p
invariant-loop-p l = l.hit ≡ any_below l.p-index (λ i. holds (get_or l.ps i no_day) l.day)
