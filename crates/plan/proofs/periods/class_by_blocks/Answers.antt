use Prim.Native.Nat.{◌+◌, ◌*◌, ◌<◌, min}
use mathlib.Core.Bool.{not}
use mathlib.Core.Path.{◌≡◌, sym, ap, ◌∙◌}
use native.Mathlib.Omega.{arith}
use Rattle.plan.specs.Fields.{record_at, dose_of, is_marked}
use Rattle.plan.specs.Periods.{block_at, doses_of, dose_in, has_unmarked, has_marked, class_of}
use Rattle.plan.specs.declared.Dose.{Dose}
use Rattle.plan.proofs.Marks.{whole_block, at_place, any_start, any_block}
use borrow.Author.Rules.{rules}
use Rattle.plan.proofs.periods.class_by_blocks.Goals as goal

pub loop-i-init : goal.loop-i-init
loop-i-init c = (search rules, search rules, any_start _ _, any_start _ _)

pub with_marks-m-requires : goal.with_marks-m-requires
with_marks-m-requires c = let l = c.loop-i in
    let h = whole_block c.args.plan.now (c.args.b + l.i) (omega (arith, c.requires.2, l.invariant.1)) in
    (rw c.block_of.ensures h, omega (arith, c.doses_here.ensures))

pub loop-i-preserved : goal.loop-i-preserved
loop-i-preserved c = let a = c.args in
    let l = c.loop-i in
    let p = a.plan.now in
    let r = block_at p (a.b + l.i) in
    let more : l.i * 20 < a.n = omega (arith, l.invariant.1) in
    let one = any_block (λ j. not (is_marked (dose_in p a.b j))) (λ k. not (is_marked (dose_of (record_at r k)))) a.n l.i more (λ k h. ap (λ (d : Dose). not (is_marked d)) (at_place p a.b l.i k h)) in
    let two = any_block (λ j. is_marked (dose_in p a.b j)) (λ k. is_marked (dose_of (record_at r k))) a.n l.i more (λ k h. ap (λ (d : Dose). is_marked d) (at_place p a.b l.i k h)) in
    let w = rw (c.block_of.ensures, c.doses_here.ensures, l.invariant.2, l.invariant.3) at c.with_marks-m.ensures in
    (search rules, search rules, w.0 ∙ sym one, w.1 ∙ sym two)

pub returns : goal.returns
unfolding class_of has_unmarked has_marked
returns c = let l = c.loop-i in
    let e : min (l.i * 20) c.args.n ≡ doses_of c.args.plan.now c.args.b = omega (arith, c.requires.0, l.invariant.0, l.invariant.1, c.loop-i-test.false) in
    rw (← e) (cc)
