use Prim.Native.Nat.{max}
use mathlib.Core.Path.{◌≡◌}
use native.Mathlib.Omega.{arith}
use Rattle.period.proofs.QuickPass.{too_little, by_quotient}
use Rattle.period.proofs.quick.may_too_much.Goals as goal

pub returns-then-s-lt100000000000 : goal.returns-then-s-lt100000000000
returns-then-s-lt100000000000 c = too_little c.args.limit c.if-s-lt100000000000.true

pub returns : goal.returns
returns c = let e : c.max.result ≡ max 1 c.args.limit = omega (arith, c.max.ensures) in
    rw e (by_quotient (max 1 c.args.limit) c.args.s.total)
