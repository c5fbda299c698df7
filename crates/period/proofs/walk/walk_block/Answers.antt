use Prim.Native.Nat.{◌+◌, ◌*◌}
use mathlib.Core.Path.{◌≡◌, sym, ◌∙◌}
use native.Mathlib.Omega.{arith}
use Rattle.plan.specs.Periods.{dose_in}
use Rattle.plan.proofs.Marks.{at_place}
use Rattle.period.proofs.Steps.{one_more}
use Rattle.period.proofs.walk.walk_block.Goals as goal

pub loop-i-init : goal.loop-i-init
loop-i-init c = let e : c.args.q * 20 + 0 ≡ c.args.q * 20 = omega arith in
    rw e c.requires.passed

pub loop-i-preserved : goal.loop-i-preserved
loop-i-preserved c =
    let a = c.args in
    let w = c.loop-i.invariant in
    let i = c.loop-i.i in
    let e : a.q * 20 + (i + 1) ≡ a.q * 20 + i + 1 = omega arith in
    let here = sym (at_place a.plan.now a.b a.q i (omega arith)) in
    let dose = c.dose_at-d.ensures ∙ rw (← c.block_of-r.ensures) at here in
    rw e (record {
      kept = one_more (dose_in a.plan.now a.b) w.kept dose c.next_rule.ensures c.turn-s.ensures.0;
      room = c.turn-s.ensures.1;
    })

pub returns : goal.returns
returns c = let e : c.args.m ≡ c.loop-i.i = omega arith in
    rw e c.loop-i.invariant
