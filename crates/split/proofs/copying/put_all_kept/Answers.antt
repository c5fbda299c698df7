use native.Mathlib.Omega.{arith}
use Rattle.split.specs.Code.Wanted.{is_need}
use Rattle.split.proofs.Copied.{kept_start, kept_turn}
use borrow.Author.Rules.{rules}
use Rattle.split.proofs.copying.put_all_kept.Goals as goal

pub loop-i-init : goal.loop-i-init
loop-i-init c = let a = c.args in
    let e = kept_start a.out.now a.block a.held (is_need a.part) a.r.now a.from c.requires.0 (omega (arith, c.requires.3)) in
    (search rules, search rules, search rules, omega arith, e.0, e.1)

pub loop-i-preserved : goal.loop-i-preserved
loop-i-preserved c = let a = c.args in
    let l = c.loop-i in
    let k = c.put_kept-m.ensures in
    let e = kept_turn a.out.now a.block a.held (is_need a.part) a.r.now a.from c.requires.0 l.i l.invariant.0 (omega (arith, c.requires.3, l.invariant.0, c.loop-i-test.true)) _ _ _ _ l.invariant.3 l.invariant.4 l.invariant.5 k.0 k.1 in
    (omega (arith, l.invariant.0), search rules, search rules, e.0, e.1, e.2)
