use Prim.Native.Nat.{◌+◌, ◌*◌, min}
use mathlib.Core.Path.{◌≡◌}
use native.Mathlib.Omega.{arith}
use borrow.Author.Rules.{rules}
use Rattle.period.specs.Code.Quick.{quick_begun}
use Rattle.period.proofs.QuickPass.{begins}
use Rattle.period.proofs.period_doses.Doses.quick_pass.Goals as goal

pub quick_block-requires-clause-quickly : goal.quick_block-requires-clause-quickly
quick_block-requires-clause-quickly c = let e : c.default.result ≡ quick_begun = search rules in
    rw e (begins _)

pub quick_block-requires-in-loop-q-clause-quickly : goal.quick_block-requires-in-loop-q-clause-quickly
quick_block-requires-in-loop-q-clause-quickly c = let n = c.args.self.n in
    let q = c.loop-q.q in
    let e : min n (q * 20) ≡ q * 20 = omega (arith, c.div_ceil-q-end.ensures) in
    rw e at c.loop-q.invariant

pub loop-q-init : goal.loop-q-init
loop-q-init c = let e : min c.args.self.n (1 * 20) ≡ 0 + c.min.result = omega (arith, c.min.ensures) in
    rw e c.in_ok-s.ensures

pub loop-q-preserved : goal.loop-q-preserved
loop-q-preserved c = let n = c.args.self.n in
    let q = c.loop-q.q in
    let e : min n ((q + 1) * 20) ≡ q * 20 + c.min-in-loop-q.result = omega (arith, c.min-in-loop-q.ensures) in
    rw e c.in_ok-s-2.ensures

pub returns : goal.returns
returns c = let n = c.args.self.n in
    let e : min n (c.loop-q.q * 20) ≡ n = omega (arith, c.div_ceil-q-end.ensures) in
    rw e at c.loop-q.invariant
