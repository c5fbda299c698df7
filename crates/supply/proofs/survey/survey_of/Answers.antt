use Prim.Native.Nat.{◌<◌}
use mathlib.Core.Path.{sym, ◌∙◌}
use native.Mathlib.Omega.{arith}
use borrow.Author.Rules.{rules}
use Rattle.need.proofs.Telling.{behind_half, behind_first}
use Rattle.plan.specs.Periods.{blocks_of}
use Rattle.supply.proofs.WholeRounds.{chosen_class}
use Rattle.supply.proofs.survey.survey_of.Goals as goal

pub loop-b-preserved : goal.loop-b-preserved
loop-b-preserved c =
    let p = c.args.plan.now in
    let l = c.loop-b in
    let n : l.b < blocks_of p = omega arith in
    let odd = c.is_odd.ensures ∙ sym (behind_first l.invariant.2) in (
      search rules,
      search rules,
      behind_half l.invariant.2,
      λ choice m. c.with_block-s.ensures choice n (λ t. odd ∙ m.each l.b n t ∙ chosen_class choice p l.b) (l.invariant.3 choice m),
    )
