use Rattle.std.proofs.Common.{◌≡◌, arith, sym, length, get_or, rules, tests}
use Rattle.std.proofs.lemmas.List.{get_or_default}
use Rattle.below.proofs.Search.{any_zero, any_more}
use Rattle.pause.specs.Pauses.{no_day, is_out, are_out}
use Rattle.pause.proofs.lent.are_out.Goals as goal

pub loop-p-init : goal.loop-p-init
loop-p-init c = sym (any_zero (λ i. is_out (get_or c.args.ps.now i no_day)))

pub loop-p-preserved : goal.loop-p-preserved
loop-p-preserved c =
    let more = any_more (λ i. is_out (get_or c.args.ps.now i no_day)) c.loop-p.p-index in
    let same = get_or_default c.args.ps.now c.loop-p.p-index no_day (record { first = 0; last = 0 }) c.loop-p-test.true in
    rw (more, ← c.loop-p.invariant, same) (rw c.is_out-out.ensures)

pub returns : goal.returns
unfolding are_out
returns c =
    let e : c.loop-p.p-index ≡ length c.args.ps.now = omega arith in
    rw (← e, c.loop-p.invariant) (search (rules, tests))
