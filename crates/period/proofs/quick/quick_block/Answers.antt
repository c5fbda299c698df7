use Prim.Native.Nat.{ℕ, ◌+◌, ◌*◌}
use mathlib.Core.List.{List}
use mathlib.Core.Path.{◌≡◌, sym, ap, ◌∙◌}
use native.Mathlib.Omega.{arith}
use Rattle.plan.specs.Fields.{record_at, dose_of}
use Rattle.plan.specs.Periods.{dose_in}
use Rattle.plan.proofs.Marks.{at_place}
use Rattle.period.proofs.QuickPass.{quick_more}
use borrow.Author.Rules.{rules}
use Rattle.period.proofs.quick.quick_block.Goals as goal

pub loop-i-init : goal.loop-i-init
loop-i-init c = let e : c.args.q * 20 + 0 ≡ c.args.q * 20 = omega arith in
    rw e c.requires.quickly

pub quick_turn-s-requires : goal.quick_turn-s-requires
quick_turn-s-requires c = (search rules, c.loop-i.invariant.room, c.in_ok-sound_upper.ensures.0)

pub loop-i-preserved : goal.loop-i-preserved
loop-i-preserved c = let a = c.args in
    let i = c.loop-i.i in
    let e : a.q * 20 + (i + 1) ≡ a.q * 20 + i + 1 = omega arith in
    let dose = c.dose_at-d.ensures ∙ ap (λ (r : List ℕ). dose_of (record_at r i)) c.block_of-r.ensures ∙ sym (at_place a.plan.now a.b a.q i (omega arith)) in
    let sound = c.in_ok-sound_upper.ensures in
    rw e (quick_more (dose_in a.plan.now a.b) c.loop-i.invariant dose c.quick_rank-rank.ensures c.if-rank-s.false sound.1 sound.2 c.quick_turn-s.ensures.0 c.quick_turn-s.ensures.1)

pub returns : goal.returns
returns c = let e : c.args.m ≡ c.loop-i.i = omega arith in
    rw e c.loop-i.invariant
