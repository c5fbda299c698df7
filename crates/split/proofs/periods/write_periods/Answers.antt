use mathlib.Core.Path.{◌≡◌, sym, ◌∙◌}
use mathlib.Core.List.{[]}
use native.Mathlib.Omega.{arith}
use Rattle.below.proofs.Lists.{join_zero, join_more}
use Rattle.plan.specs.Periods.{blocks_of}
use Rattle.writer.proofs.Holding.{holds_begin, holds_finish}
use Rattle.split.specs.Code.Wanted.{is_need}
use Rattle.split.specs.Parts.{part_of, part_bytes}
use Rattle.split.specs.Split.{over}
use Rattle.split.proofs.Adding.{adds_none, adds_both}
use borrow.Author.Rules.{rules}
use Rattle.split.proofs.periods.write_periods.Goals as goal

pub loop-b-init : goal.loop-b-init
loop-b-init c = (search rules, search rules, search rules, rw join_zero adds_none)

pub loop-b-preserved : goal.loop-b-preserved
loop-b-preserved c = (search rules, search rules, search rules, rw join_more (adds_both c.loop-b.invariant.3 c.add_brought-at.ensures))

pub returns : goal.returns
unfolding over part_bytes part_of
returns c = let a = c.args in
    let old = a.out.now in
    let l = c.loop-b in
    let g = c.begin-at in
    let h = c.head_of.result in
    let room = c.requires in
    let e : l.b ≡ blocks_of a.classed.plan.now = omega arith in
    let all = rw e at l.invariant.3 in
    let started = rw (sym g.ensures.0, sym g.ensures.1) at (holds_begin h old (omega (arith, room.0))) in
    let ends = holds_finish h (part_of (is_need a.part) a.classed.plan.now) old l.at l.out (all h [] old room started) in
    rw (← c.head_of.ensures) (c.finish.ensures.0 ∙ ends.0, c.finish.ensures.1 ∙ ends.1)
