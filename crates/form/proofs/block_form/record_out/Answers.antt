use Prim.Native.Nat.{◌≤◌, ◌<◌, max}
use borrow.Author.Tests.{lt-ltb, le-ltb}
use Rattle.below.proofs.Tests.{or_true, or_false}
use Rattle.plan.specs.Fields.{dose_of}
use Rattle.form.proofs.Zeroed.{record_is}
use Rattle.form.proofs.block_form.record_out.Goals as goal

pub returns-then-max-gt9999999999 : goal.returns-then-max-gt9999999999
returns-then-max-gt9999999999 c = let d = c.args.«record».now in
    let l : 9999999999 < max (dose_of d).low (dose_of d).high = rw (← c.open_record-r.ensures.0, ← c.max.ensures) c.if-max-gt9999999999.true in
    rw (← record_is d c.requires, lt-ltb _ _ l, lt-ltb _ _ c.if-max-gt9999999999.true, or_true)

pub returns-else-max-gt9999999999 : goal.returns-else-max-gt9999999999
returns-else-max-gt9999999999 c = let d = c.args.«record».now in
    let e = c.open_record-r.ensures in
    let l : max (dose_of d).low (dose_of d).high ≤ 9999999999 = rw (← e.0, ← c.max.ensures) c.if-max-gt9999999999.false in
    rw (← record_is d c.requires, le-ltb _ _ l, or_false, ← e.0, ← e.1) c.time_out.ensures
