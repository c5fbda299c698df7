use mathlib.Core.Bool.{cond, ◌&&◌, ◌||◌}
use mathlib.Core.Path.{◌≡◌}
use native.Mathlib.Omega.{arith}
use lib.Dec.{ltb}
use Rattle.std.specs.Prelude.{is_some}
use Rattle.need.specs.Need.{due_on}
use Rattle.supply.specs.Code.Standing.{is_still, period_at, kept_of}
use Rattle.supply.proofs.Clearing.{FreeOn, free_on, counts_free}
use Rattle.supply.proofs.Standing.{sum_is, known_on_day, stands_due, stands_small}
use Rattle.supply.proofs.Surveying.{survey_first, survey_second, rounded_on}
use Rattle.supply.proofs.today.on_day.Goals as goal

pub due_in-due-requires : goal.due_in-due-requires
due_in-due-requires c =
    let a = c.args in
    omega (arith, stands_small a.choice a.plan.now a.day _ _ c.place_on-in_first.ensures, stands_small a.choice a.plan.now a.day _ _ c.place_on-in_second.ensures)

pub rounds_on-rounds-requires : goal.rounds_on-rounds-requires
rounds_on-rounds-requires c =
    let a = c.args in
    let o = c.requires.0 in
    let p = a.plan.now in
    let w = c.survey_of-s.ensures a.choice c.requires.1 in
    let m = stands_due a.choice p a.day _ _ (rw (c.kept-first.ensures, c.period_at-one.ensures) at c.place_on-in_first.ensures) in
    let n = stands_due a.choice p a.day _ _ (rw (c.kept-second.ensures, c.period_at-other.ensures) at c.place_on-in_second.ensures) in
    let s = sum_is a.choice p o w.reached w.steady (survey_first w) (survey_second w) w.one w.other a.day (omega arith) w.reached in
    let due : c.due_in-due.result ≡ due_on a.choice p a.day = omega (arith, c.due_in-due.ensures, s, m, n) in
    let f : FreeOn a.choice p a.day c.or-alone.result =
    rw (c.or-alone.ensures, c.free.ensures, c.free-2.ensures, c.period_at-one.ensures, c.period_at-other.ensures) (free_on a.choice p o a.day (survey_first w) (survey_second w) w.one w.other) in
    counts_free a.choice p a.day o c.or-alone.result f due

pub returns : goal.returns
returns c =
    let a = c.args in
    let o = c.requires.0 in
    let p = a.plan.now in
    let w = c.survey_of-s.ensures a.choice c.requires.1 in
    let f : c.kept-first.result ≡ kept_of (period_at p c.survey_of-s.result.first) c.survey_of-s.result.one = rw (← c.period_at-one.ensures) c.kept-first.ensures in
    let g : c.kept-second.result ≡ kept_of (period_at p c.survey_of-s.result.second) c.survey_of-s.result.other = rw (← c.period_at-other.ensures) c.kept-second.ensures in
    let free : FreeOn a.choice p a.day c.or-alone.result =
    rw (c.or-alone.ensures, c.free.ensures, c.free-2.ensures, c.period_at-one.ensures, c.period_at-other.ensures) (free_on a.choice p o a.day (survey_first w) (survey_second w) w.one w.other) in
    let far : c.known_until-until.result ≡ cond ((is_some (kept_of (period_at p c.survey_of-s.result.first) c.survey_of-s.result.one) || is_some (kept_of (period_at p c.survey_of-s.result.second) c.survey_of-s.result.other)) && ltb 0 c.rounds_on-rounds.result.interval) c.rounds_on-rounds.result.until c.survey_of-s.result.until =
    rw (c.is_some.ensures, c.is_some-2.ensures, f, g) at c.known_until-until.ensures in
    let q : c.steady_until.result ≡ cond (is_still (kept_of (period_at p c.survey_of-s.result.first) c.survey_of-s.result.one) && is_still (kept_of (period_at p c.survey_of-s.result.second) c.survey_of-s.result.other)) c.known_until-until.result a.day =
    rw (c.is_still.ensures, c.is_still-2.ensures, f, g) at c.steady_until.ensures in
    let known =
    known_on_day a.choice p o w.reached w.steady (survey_first w) (survey_second w) w.one w.other far q (rw f at c.place_on-in_first.ensures) (rw g at c.place_on-in_second.ensures) (rw c.rounds_on-rounds.ensures (rounded_on a.choice p o a.day c.or-alone.result free w)) in
    rw (f, g) known
