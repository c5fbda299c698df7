use Prim.Native.Nat.{◌+◌, ◌≤◌}
use Rattle.day.specs.Days.{last_number}
use mathlib.Core.Path.{refl}
use native.Mathlib.Omega.{arith}
use borrow.Author.Tests.{ltb-false}
use Rattle.below.proofs.Tests.{or_neither}
use Rattle.supply.proofs.Standing.{stands_low, known_on}
use Rattle.supply.proofs.walk.advance.Goals as goal

pub next_day-r-requires : goal.next_day-r-requires
next_day-r-requires c =
    let a = c.args in
    let g = c.requires.able in
    let l : a.w.day ≤ last_number = omega (arith, g.looks.within, g.looks.dated) in
    let t = a.w.today in
    record { first = stands_low a.choice a.plan.now a.w.day t.in_first t.first l g.known.first; second = stands_low a.choice a.plan.now a.w.day t.in_second t.second l g.known.second }

pub returns : goal.returns
returns c =
    let a = c.args in
    let n = or_neither _ _ c.if-x-t.false in
    let e = c.requires.stays.0.one n.0 in
    let k = known_on c.requires.able.known c.next_day-r.ensures (omega (arith, e, ltb-false a.w.today.until (a.w.day + a.x.days) n.1)) in
    let end = c.requires.able.looks.end_is in
    record { chosen_is = refl; start_is = refl; stop_is = refl; end_is = refl; day_is = refl; rest_is = refl; count_is = refl; goes = λ l. omega (arith, end, l); over = λ l. omega (arith, end, l); known = λ l m. rw e k }
