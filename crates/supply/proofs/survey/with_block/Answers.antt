use mathlib.Core.Bool.{true}
use mathlib.Core.Path.{◌≡◌}
use borrow.Author.Tests.{eq-eqb}
use Rattle.plan.specs.Fields.{kind_of, first_of, last_of}
use Rattle.plan.specs.Periods.{block_at, is_period}
use Rattle.supply.proofs.Surveying.{survey_past, survey_period}
use Rattle.supply.proofs.survey.with_block.Goals as goal

pub returns-then-last-day : goal.returns-then-last-day
returns-then-last-day c choice m is w =
    let p = c.args.plan.now in
    let f : c.first_of-first.result ≡ first_of (block_at p c.args.b) = cc in
    let l : c.last_of-last.result ≡ last_of (block_at p c.args.b) = cc in
    survey_past w m (rw (← f) c.if-day-first.false) (rw (← l) c.if-last-day.true)

pub returns : goal.returns
returns c choice m is w =
    let p = c.args.plan.now in
    let k : kind_of (block_at p c.args.b) ≡ 2 = cc in
    let t : is_period p c.args.b ≡ true = eq-eqb _ 2 k in
    let f : c.first_of-first.result ≡ first_of (block_at p c.args.b) = cc in
    let l : c.last_of-last.result ≡ last_of (block_at p c.args.b) = cc in
    rw c.with_period.ensures (survey_period w m t (is t) (rw (← f) c.if-day-first.false) l c.if-last-day.false)
