use mathlib.Core.Path.{refl}
use native.Mathlib.Omega.{arith}
use Rattle.block.proofs.Numbers.{AreBytes}
use Rattle.plan.specs.Fields.{dose_of}
use Rattle.plan.proofs.FirstEight.{day_is, kind_is, mark_is, minute_is, spare_is}
use Rattle.plan.proofs.records.open_record.Goals as goal

pub returns : goal.returns
unfolding dose_of
returns c =
    let s = c.args.«record».now in
    let b : AreBytes s = λ i. omega (arith, c.shared_slice_known-1.given i) in
    rw (c.from_le_bytes.ensures, c.from_le_bytes-2.ensures, c.from_le_bytes-3.ensures, c.to_le_bytes.ensures, c.longs_at-x.ensures.0, c.longs_at-x.ensures.1, c.longs_at-x.ensures.2, day_is s b, kind_is s b, mark_is s b, minute_is s b, spare_is s b) (refl, refl)
