use Rattle.std.proofs.Common.{ℕ, ◌∙◌, refl, Bool, arith, not, rules, tests}
use Rattle.std.proofs.lemmas.Iterator.{YieldsList-from_range}
use Rattle.std.proofs.lemmas.Iterator.Search.{any_from_yields_List}
use Rattle.plan.specs.Fields.{is_marked}
use Rattle.plan.specs.Periods.{dose_in, has_unmarked, has_marked, class_of}
use Rattle.plan.proofs.Found.{any_found}
use Rattle.plan.proofs.periods.class_by_doses.Goals as goal

pub returns : goal.returns
unfolding class_of has_unmarked has_marked
returns c =
    let a = c.args in
    let marked : ℕ → Bool = λ j. is_marked (dose_in a.plan.now a.b j) in
    let unmarked : ℕ → Bool = λ j. not (marked j) in
    let one = any_from_yields_List unmarked _ _ c.any-unmarked.result c.any-unmarked.ensures.ran (YieldsList-from_range 0 a.n a.n refl (omega arith)) (λ x b q k. search (rules, tests)) in
    let two = any_from_yields_List marked _ _ c.any-marked.result c.any-marked.ensures.ran (YieldsList-from_range 0 a.n a.n refl (omega arith)) (λ x b q k. search (rules, tests)) in
    c.class_by.ensures ∙ rw (one, two, any_found unmarked a.n, any_found marked a.n, c.requires)
