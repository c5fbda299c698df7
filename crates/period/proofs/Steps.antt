-- One dose more of the pass. Assumes nothing.
use Prim.Native.Nat.{ℕ, ◌+◌}
use mathlib.Core.Path.{◌≡◌}
use native.Mathlib.Numerals.{add-one}
use Rattle.plan.specs.declared.Dose.{Dose}
use Rattle.period.specs.declared.turn.Walk.{Walk}
use Rattle.period.specs.Code.Turn.{next_rule, turned, walked_to}

pub one_more : (D : ℕ → Dose) {j rule : ℕ} {s t : Walk} {d : Dose} → s ≡ walked_to D j → d ≡ D j → rule ≡ next_rule s d j → t ≡ turned s d j rule → t ≡ walked_to D (j + 1)
unfolding walked_to
one_more D {j} {rule} {s} {t} {d} e f g h = rw (add-one, h, g, f, e)
