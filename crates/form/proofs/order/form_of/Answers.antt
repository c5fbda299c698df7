use Rattle.std.specs.Prelude.{Err}
use Rattle.std.proofs.Common.{rules, tests}
use mathlib.Core.Path.{ap, ◌≡◌, sym, ◌∙◌}
use Rattle.plan.specs.Periods.{blocks_of}
use Rattle.form.specs.Form.{sums_wrong, misplaced, form_of}
use Rattle.form.specs.Code.Found.{found_below}
use Rattle.form.specs.Code.Front.{broken_at}
use Rattle.form.proofs.Naming.{nothing_broken, named_2, passed_2, named_3, passed_3, named_4}
use Rattle.form.proofs.Ranges.{find_in_range}
use Rattle.form.proofs.order.form_of.Goals as goal
use Rattle.form.proofs.order.form_of.Goals.{After-find, After-find-2, After-find-3}

-- the three searches
broken : (c : After-find) → found_below (blocks_of c.args.plan.now) (broken_at c.args.plan.now) ≡ c.find.result
broken c =
    let p = c.args.plan.now in
    sym (find_in_range (blocks_of p) (broken_at p) _ _ _ _ c.find.ensures.ran (cc) (λ x q k. search (rules, tests)) (λ x q k. (search (rules, tests), search (rules, tests))))

summed : (c : After-find-2) → found_below (blocks_of c.args.plan.now) (sums_wrong c.args.plan.now) ≡ c.find-2.result
summed c =
    let p = c.args.plan.now in
    sym (find_in_range (blocks_of p) (sums_wrong p) _ _ _ _ c.find-2.ensures.ran (cc) (λ x q k. search (rules, tests)) (λ x q k. (search (rules, tests), search (rules, tests))))

placed : (c : After-find-3) → found_below (blocks_of c.args.plan.now) (misplaced c.args.plan.now) ≡ c.find-3.result
placed c =
    let p = c.args.plan.now in
    sym (find_in_range (blocks_of p) (misplaced p) _ _ _ _ c.find-3.ensures.ran (cc) (λ x q k. search (rules, tests)) (λ x q k. (search (rules, tests), search (rules, tests))))

pub returns-then-bad_length : goal.returns-then-bad_length
unfolding form_of
returns-then-bad_length c = rw (sym c.bad_length.ensures ∙ c.if-bad_length.true) (cc)

pub returns-in_default : goal.returns-in_default
returns-in_default c = let a = c.args in
    nothing_broken a.limit a.plan.now (sym c.bad_length.ensures ∙ c.if-bad_length.false) (broken (goal.at.returns-in_default c).After-find ∙ c.in_default.is)

pub returns-in-Some-find : goal.returns-in-Some-find
returns-in-Some-find c = let a = c.args in
    ap Err c.of_rule-in-Some-find.ensures
    ∙ named_2 a.limit a.plan.now (sym c.bad_length.ensures ∙ c.if-bad_length.false) (summed (goal.at.returns-in-Some-find c).After-find-2 ∙ c.in-Some-find.is)

pub returns-in-Some-find-2 : goal.returns-in-Some-find-2
returns-in-Some-find-2 c = let a = c.args in
    let long = sym c.bad_length.ensures ∙ c.if-bad_length.false in
    let two = passed_2 a.limit a.plan.now long (summed (goal.at.returns-in-Some-find-2 c).After-find-2 ∙ c.in_default-find.is) in
    ap Err c.of_rule-in-Some-find-2.ensures
    ∙ named_3 a.limit a.plan.now long two (placed (goal.at.returns-in-Some-find-2 c).After-find-3 ∙ c.in-Some-find-2.is)

pub returns : goal.returns
returns c = let a = c.args in
    let long = sym c.bad_length.ensures ∙ c.if-bad_length.false in
    let two = passed_2 a.limit a.plan.now long (summed (goal.at.returns c).After-find-2 ∙ c.in_default-find.is) in
    let three = passed_3 a.limit a.plan.now long two (placed (goal.at.returns c).After-find-3 ∙ c.in_default-find-2.is) in
    ap Err c.of_rule-2.ensures
    ∙ named_4 a.limit a.plan.now long three (broken (goal.at.returns c).After-find ∙ c.in-Some.is)
