use Rattle.std.proofs.Common.{rules, tests}
use Rattle.form.proofs.Ranges.{find_in_range}
use Rattle.doses.specs.Doses.{covers}
use Rattle.plan.specs.Periods.{blocks_of}
use Rattle.showing.proofs.first_covering.Goals as goal

pub returns : goal.returns
returns c =
    let p = c.args.part.now in
    find_in_range (blocks_of p) (covers p c.args.day) _ _ _ _ c.find.ensures.ran (cc) (λ x q k. search (rules, tests)) (λ x q k. (search (rules, tests), search (rules, tests)))
