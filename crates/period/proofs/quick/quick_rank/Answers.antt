use Prim.Native.Nat.{◌+◌, ◌*◌, ◌≤◌, min}
use mathlib.Core.Path.{◌≡◌}
use native.Mathlib.Omega.{arith}
use borrow.Author.Tests.{ne_eqb}
use Rattle.period.specs.Code.Quick.{quick_key, quick_rank}
use Rattle.period.proofs.Choice.{cond_le, from_is}
use Rattle.period.proofs.quick.quick_rank.Goals as goal
use Rattle.period.proofs.quick.quick_rank.Goals.{After-from}

-- the mark
one : (c : After-from) → c.from.result ≤ 1
one c = rw (c.from.ensures, from_is c.is_marked.result) (cond_le c.is_marked.result {a = 1} {b = 0} (omega arith) (omega arith))

pub overflow_add-result : goal.overflow_add-result
overflow_add-result c = omega (arith, one (goal.at.overflow_add-result c).After-from)

pub returns-then-d-eq0 : goal.returns-then-d-eq0
unfolding quick_rank
returns-then-d-eq0 c = let d = c.args.d in
    let zero : d.kind ≡ 0 = c.if-d-eq0.true in
    let key : quick_key d ≡ d.kind * 65536 + c.from.result = rw (c.from.ensures, from_is c.is_marked.result, c.is_marked.ensures, zero) in
    let fit : min (quick_key d) 4294967295 ≡ quick_key d = omega (arith, key, one (goal.at.returns-then-d-eq0 c).After-from) in
    rw (fit, key) (omega arith)

pub returns-then-d-eq5 : goal.returns-then-d-eq5
unfolding quick_rank
returns-then-d-eq5 c = let d = c.args.d in
    let clock : d.kind ≡ 5 = c.if-d-eq5.true in
    let key : quick_key d ≡ d.kind * 65536 + d.minute = rw clock in
    let fit : min (quick_key d) 4294967295 ≡ quick_key d = omega (arith, key) in
    rw (fit, key) (omega arith)

pub returns : goal.returns
unfolding quick_rank
returns c = let d = c.args.d in
    let key : quick_key d ≡ d.kind * 65536 + 0 = rw (ne_eqb d.kind 5 c.if-d-eq5.false, ne_eqb d.kind 0 c.if-d-eq0.false) in
    let fit : min (quick_key d) 4294967295 ≡ quick_key d = omega (arith, key) in
    rw (fit, key) (omega arith)
