use Prim.Native.Nat.{ℕ, ◌-◌, ◌≤◌}
use mathlib.Core.Path.{◌≡◌}
use Rattle.need.proofs.Telling.{Behind}
use Rattle.need.specs.Telling.{Tells}
use Rattle.plan.specs.Periods.{blocks_of}
use Rattle.supply.specs.Code.Surveying.{Surveyed}
use Rattle.supply.proofs.survey.survey_of.Given as goal

abbrev pub invariant-loop-b : goal.invariant-loop-b
invariant-loop-b l = (l.b ≤ l.n) × (l.n ≡ blocks_of l.plan) × Behind l.chosen l.b l.bits × ((choice : ℕ) → Tells choice l.plan l.chosen → Surveyed choice l.plan l.day l.b l.s)

abbrev pub decreases-loop-b : goal.decreases-loop-b
decreases-loop-b l = l.n - l.b
