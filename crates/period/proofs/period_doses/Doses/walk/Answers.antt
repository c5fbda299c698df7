use Prim.Native.Nat.{◌+◌, ◌*◌, min}
use mathlib.Core.Path.{◌≡◌, refl}
use native.Mathlib.Omega.{arith}
use borrow.Author.Rules.{rules}
use Rattle.period.specs.Code.Turn.{walked_to}
use Rattle.period.proofs.period_doses.Doses.walk.Goals as goal

pub loop-q-init : goal.loop-q-init
unfolding walked_to
loop-q-init c = let e : min c.args.self.n (0 * 20) ≡ 0 = omega arith in (
  search rules,
  rw e (record {
    kept = refl;
    room = record { from = omega arith; marked = omega arith; big = omega arith; small = omega arith };
  }),
)

pub walk_block-s-requires : goal.walk_block-s-requires
walk_block-s-requires c = let n = c.args.self.n in
    let q = c.loop-q.q in
    let e : min n (q * 20) ≡ q * 20 = omega arith in
    record { m_bound = search rules; passed = rw e at c.loop-q.invariant.1 }

pub loop-q-preserved : goal.loop-q-preserved
loop-q-preserved c = let n = c.args.self.n in
    let q = c.loop-q.q in
    let e : min n ((q + 1) * 20) ≡ q * 20 + c.min.result = omega (arith, c.min.ensures) in
    (search rules, rw e c.walk_block-s.ensures)

pub returns : goal.returns
returns c = let e : min c.args.self.n (c.loop-q.q * 20) ≡ c.args.self.n = omega arith in
    rw e at c.loop-q.invariant.1
