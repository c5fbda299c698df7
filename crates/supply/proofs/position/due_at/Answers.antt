use Prim.Native.Nat.{◌≤◌}
use mathlib.Core.Path.{◌≡◌}
use native.Mathlib.Omega.{arith}
use borrow.Author.Rules.{rules}
use Rattle.plan.specs.Periods.{dose_in}
use Rattle.supply.proofs.Range.{sums_begin, sums_small, sums_go_on, sums_stop}
use Rattle.supply.proofs.position.due_at.Goals as goal

pub loop-j-init : goal.loop-j-init
loop-j-init c =
    sums_begin _ _ _ _ c.requires.n_value c.requires.from

pub overflow_add-need : goal.overflow_add-need
overflow_add-need c =
    let l = c.loop-j in
    let d = c.dose_in-d.ensures in
    let x = c.amount-need.ensures in
    let m : c.amount-need.result ≤ 9999999999 = rw (x, d) (c.requires.small.each l.j (omega (arith, c.requires.n_value))) in
    record { fits = omega (arith, sums_small _ _ _ _ l.invariant c.requires.small) }

pub loop-j-preserved : goal.loop-j-preserved
loop-j-preserved c =
    let a = c.args in
    let l = c.loop-j in
    let d : c.dose_in-d.result ≡ dose_in a.plan.now a.b l.j = c.dose_in-d.ensures in
    let m : c.dose_in-d.result.day ≡ (dose_in a.plan.now a.b l.j).day = rw d in
    sums_go_on _ _ _ _ l.invariant (search rules) (omega arith) (cc)

pub returns-then-position-from : goal.returns-then-position-from
returns-then-position-from c =
    let l = c.loop-j in
    let m : c.from.result ≡ (dose_in c.args.plan.now c.args.b l.j).day = rw (← c.dose_in-d.ensures) c.from.ensures in
    sums_stop _ _ _ _ l.invariant (λ i h g. omega (arith, m, c.if-position-from.true, c.requires.sorted l.j i h (omega arith)))

pub returns : goal.returns
returns c =
    let l = c.loop-j in
    let e : l.j ≡ c.args.n = omega (arith, l.invariant.within) in
    let s = sums_stop _ _ _ _ l.invariant (λ i h g. absurd (omega arith)) in
    (s.0, rw e at s.1)
