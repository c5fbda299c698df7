use mathlib.Core.Bool.{true, false}
use mathlib.Core.Path.{◌≡◌}
use borrow.Author.Rules.{rules}
use Rattle.std.proofs.Common.{tests}
use Rattle.plan.specs.Periods.{is_period}
use Rattle.period.proofs.Ranges.{last_below}
use Rattle.period.proofs.header.ahead_of.Goals as goal

pub returns : goal.returns
returns c =
    let p = c.args.plan.now in
    last_below c.args.b _ _ _ _ (λ a. is_period p a ≡ true) (λ a. is_period p a ≡ false) c.find.ensures.ran (cc)
    (λ x q k. search (rules, tests))
    (λ x q k. (search (rules, tests), search (rules, tests)))
