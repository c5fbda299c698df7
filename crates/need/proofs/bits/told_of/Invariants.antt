use Rattle.std.proofs.Common.{◌≡◌, ℕ, ◌<◌, get_or, length}
use Rattle.plan.specs.declared.Class.TheVariants.{Empty}
use Rattle.need.specs.Telling.{number_of}
use Rattle.need.proofs.bits.told_of.Given as goal

abbrev pub invariant-loop-b : goal.invariant-loop-b
invariant-loop-b l = (length l.numbers ≡ 32) × ((k : ℕ) → k < l.b → get_or l.numbers k 0 ≡ number_of (get_or l.fn.classes k Empty))
