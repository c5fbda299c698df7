use Rattle.std.proofs.Common.{◌≡◌, ◌≤◌, min}
use Rattle.plan.specs.Periods.{blocks_of}
use Rattle.need.proofs.Telling.{behind}
use Rattle.need.proofs.bits.told_by.Given as goal

abbrev pub invariant-loop-b : goal.invariant-loop-b
invariant-loop-b l =
    (l.b ≤ min (blocks_of l.plan) 32) × (l.x.fixed ≡ behind l.plan l.classes 1 l.b) × (l.x.dosed ≡ behind l.plan l.classes 3 l.b) × (l.x.needed ≡ behind l.plan l.classes 4 l.b)
