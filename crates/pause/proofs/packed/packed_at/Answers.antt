use mathlib.Core.Path.{sym}
use Rattle.pause.proofs.Lists.{pauses_at, pauses_past}
use Rattle.pause.proofs.packed.packed_at.Goals as goal

pub returns-then-i-s : goal.returns-then-i-s
returns-then-i-s c = rw (pauses_at _ _ c.if-i-s.true) (cc)

pub returns : goal.returns
returns c = sym (pauses_past _ _ c.if-i-s.false)
