use Rattle.std.proofs.Common.{◌≡◌, ◌∙◌, ℕ, Bool, ◌+◌, true, false, not, rules, tests}
use Rattle.std.proofs.lemmas.Iterator.{first_from_Range}
use Rattle.plan.specs.Periods.{is_continuation, more_of}
use Rattle.below.proofs.Search.{first_le}
use Rattle.plan.proofs.Found.{first_found}
use Rattle.plan.proofs.periods.more_blocks.Goals as goal

pub returns : goal.returns
unfolding more_of
returns c =
    let a = c.args in
    let test : ℕ → Bool = λ i. not (is_continuation a.plan.now (a.b + 1 + i)) in
    let found = first_from_Range _ _ _ c.find.result (λ i. test i ≡ true) (λ i. test i ≡ false) c.find.ensures.ran (λ x q k. search (rules, tests)) (λ x q k. search (rules, tests)) in
    let e = first_found test 63 c.find.result found in
    (c.unwrap_or.ensures ∙ e, rw (c.unwrap_or.ensures ∙ e) (first_le test 63))
