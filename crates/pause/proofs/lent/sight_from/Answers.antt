use Rattle.std.proofs.Common.{◌≡◌, arith, ◌∙◌, ap, length, get_or}
use Rattle.std.proofs.lemmas.List.{get_or_default}
use Rattle.pause.specs.declared.Pause.{Pause}
use Rattle.pause.specs.declared.Sight.{Sight}
use Rattle.pause.specs.Pauses.{no_day}
use Rattle.pause.specs.Sight.{seen_with}
use Rattle.pause.proofs.InSight.{seen_of, seen_none, seen_more, seen_all}
use Rattle.pause.proofs.lent.sight_from.Goals as goal

pub loop-p-init : goal.loop-p-init
loop-p-init c = seen_none c.args.ps.now c.args.day

pub loop-p-preserved : goal.loop-p-preserved
loop-p-preserved c =
    let ps = c.args.ps.now in
    let i = c.loop-p.p-index in
    let none : Pause = record { first = 0; last = 0 } in
    let same = get_or_default ps i none no_day c.loop-p-test.true in
    c.with_pause_in_sight-s.ensures
    ∙ ap (λ (s : Sight). seen_with s (get_or ps i none) c.args.day) c.loop-p.invariant
    ∙ seen_more ps c.args.day i (get_or ps i none) same

pub returns : goal.returns
returns c =
    let e : c.loop-p.p-index ≡ length c.args.ps.now = omega arith in
    c.loop-p.invariant ∙ ap (seen_of c.args.ps.now c.args.day) e ∙ seen_all c.args.ps.now c.args.day
