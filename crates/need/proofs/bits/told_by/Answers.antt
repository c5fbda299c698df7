use Rattle.std.proofs.Common.{◌≡◌, min, arith, rules}
use Rattle.plan.specs.Periods.{blocks_of}
use Rattle.need.proofs.Telling.{counts, down_none, down_fits, down_more, down_all}
use Rattle.need.proofs.bits.told_by.Goals as goal

pub loop-b-init : goal.loop-b-init
loop-b-init c =
    let a = c.args in
    let n = min (blocks_of a.plan.now) 32 in
    let e : c.min-b.result ≡ n = search rules in
    rw e (omega arith, down_none (counts a.classes 1) n, down_none (counts a.classes 3) n, down_none (counts a.classes 4) n)

pub with_class-x-requires : goal.with_class-x-requires
with_class-x-requires c =
    let a = c.args in
    let l = c.loop-b in
    let n = min (blocks_of a.plan.now) 32 in (
      down_fits (counts a.classes 1) n l.b l.invariant.1 (omega arith) (omega arith),
      down_fits (counts a.classes 3) n l.b l.invariant.2 (omega arith) (omega arith),
      down_fits (counts a.classes 4) n l.b l.invariant.3 (omega arith) (omega arith),
    )

pub loop-b-preserved : goal.loop-b-preserved
loop-b-preserved c =
    let a = c.args in
    let l = c.loop-b in
    let n = min (blocks_of a.plan.now) 32 in
    let x = c.with_class-x.ensures in (
      omega arith,
      down_more (counts a.classes 1) n l.b l.invariant.1 (omega arith) l.invariant.0 x.0,
      down_more (counts a.classes 3) n l.b l.invariant.2 (omega arith) l.invariant.0 x.1,
      down_more (counts a.classes 4) n l.b l.invariant.3 (omega arith) l.invariant.0 x.2,
    )

pub returns : goal.returns
returns c =
    let a = c.args in
    let l = c.loop-b in
    let n = min (blocks_of a.plan.now) 32 in
    let z : l.b ≡ 0 = omega arith in
    let fixed = down_all (counts a.classes 1) n l.b l.invariant.1 z in
    let dosed = down_all (counts a.classes 3) n l.b l.invariant.2 z in
    let needed = down_all (counts a.classes 4) n l.b l.invariant.3 z in
    λ i. record { fixed = fixed i; dosed = dosed i; needed = needed i }
