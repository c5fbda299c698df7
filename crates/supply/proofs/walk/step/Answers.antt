use Prim.Native.Nat.{◌≤◌}
use mathlib.Core.Path.{refl}
use native.Mathlib.Omega.{arith}
use Rattle.supply.proofs.Standing.{known_small}
use Rattle.supply.proofs.Striding.{takes_stays, takes_need, takes_days, takes_none}
use Rattle.supply.proofs.Walking.{able, went_from, went_over, went_step}
use Rattle.supply.proofs.walk.step.Goals as goal

pub next_stride-x-requires : goal.next_stride-x-requires
next_stride-x-requires c =
    let v = c.stood-w.ensures in
    let g = able c.requires.0 v in
    record { day_le_until = (omega (arith, c.requires.1, v.day_is), g.looks.within, g.looks.dated, λ i. ((g.known.rounded _ (omega arith) g.known.reached).reach i).reached); due_bound = omega (arith, known_small g.known) }

pub returns-then-w-x : goal.returns-then-w-x
returns-then-w-x c =
    let v = c.stood-w.ensures in
    let g = able c.requires.0 v in
    let l : c.stood-w.result.day ≤ c.args.s.until = omega (arith, c.requires.1, v.day_is) in
    went_from v
    (went_over _ _ c.args.s _ _ (rw v.chosen_is c.requires.0.tells) g.looks (λ ps seen. takes_none _ _ _ g c.args.s l ps seen c.next_stride-x.ensures c.if-w-x.true) refl)

pub advance-requires : goal.advance-requires
advance-requires c =
    let v = c.stood-w.ensures in
    let g = able c.requires.0 v in
    record { able = g; stays = (takes_stays _ _ _ g c.args.s (omega (arith, c.requires.1, v.day_is)) c.next_stride-x.ensures, c.if-w-x.false) }

pub returns : goal.returns
returns c =
    let v = c.stood-w.ensures in
    let g = able c.requires.0 v in
    let l : c.stood-w.result.day ≤ c.args.s.until = omega (arith, c.requires.1, v.day_is) in
    let t = c.next_stride-x.ensures in
    let k = takes_stays _ _ _ g c.args.s l t in
    went_from v
    (went_step _ _ c.args.s _ _ (rw v.chosen_is c.requires.0.tells) g.looks _ k.some c.advance.ensures
    (λ ps seen. (takes_days _ _ _ g c.args.s l ps seen t c.if-w-x.false, takes_need _ _ _ g c.args.s l ps seen t)))
