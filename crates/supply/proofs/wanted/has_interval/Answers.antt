use Rattle.std.proofs.Common.{◌≡◌, rules, tests}
use Rattle.plan.specs.Periods.{doses_of, dose_in}
use Rattle.supply.specs.Dates.{is_interval, has_interval}
use Rattle.supply.proofs.Ranges.{any_from_Range}
use Rattle.supply.proofs.wanted.has_interval.Goals as goal

pub returns : goal.returns
unfolding has_interval
returns c =
    let a = c.args in
    let p = a.plan.now in
    let n : c.doses_of.result ≡ doses_of p a.b = c.doses_of.ensures.0 in
    rw (← n) (any_from_Range c.doses_of.result (λ j. is_interval (dose_in p a.b j)) _ _ _ c.any.ensures.ran (λ x t q k. search (rules, tests)))
