use Rattle.std.proofs.Common.{◌≡◌, get_or}
use Rattle.below.specs.Below.{any_below}
use Rattle.pause.specs.Pauses.{no_day, is_out}
use Rattle.pause.proofs.lent.are_out.Given as goal

abbrev pub invariant-loop-p : goal.invariant-loop-p
invariant-loop-p l = l.out ≡ any_below l.p-index (λ i. is_out (get_or l.ps i no_day))
