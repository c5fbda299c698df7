use mathlib.Core.Bool.{true, false}
use mathlib.Core.Path.{◌≡◌}
use borrow.Author.Rules.{rules}
use Rattle.std.proofs.Common.{tests}
use Rattle.std.proofs.lemmas.Iterator.{first_from_Range}
use Rattle.split.specs.Code.Wanted.{is_need}
use Rattle.split.specs.Parts.{is_dosed_in}
use Rattle.split.proofs.Next.{next_found}
use Rattle.split.proofs.periods.next_dosed.Goals as goal

pub returns : goal.returns
returns c =
    let m = is_need c.args.part in
    let p = c.args.classed.plan.now in
    let found = first_from_Range _ _ _ c.find.result (λ k. is_dosed_in m p k ≡ true) (λ k. is_dosed_in m p k ≡ false) c.find.ensures.ran (λ x q k. search (rules, tests)) (λ x q k. search (rules, tests)) in
    next_found m p c.args.b c.requires c.find.result (rw c.blocks-2.ensures at found)
