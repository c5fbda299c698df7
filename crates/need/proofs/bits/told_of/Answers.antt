use Rattle.std.proofs.Common.{ℕ, ◌<◌, length, ◌∙◌, arith}
use Rattle.std.proofs.lemmas.List.{get_or-set_same, get_or-set_other}
use Rattle.std.proofs.Math.ListN.{length-set}
use borrow.Author.Count.{below_more}
use Rattle.need.proofs.Telling.{told_numbers}
use Rattle.need.proofs.bits.told_of.Goals as goal

pub loop-b-preserved : goal.loop-b-preserved
loop-b-preserved c =
    let l = c.loop-b in
    let n = c.number_of.result in
    let in_range : l.b < length l.numbers = omega arith in (
      omega (arith, length-set {A = ℕ}),
      below_more _ l.b
          (λ k h. get_or-set_other l.numbers l.b k n 0 (omega arith) ∙ l.invariant.1 k h)
          (get_or-set_same l.numbers l.b n 0 in_range ∙ c.number_of.ensures),
    )

pub returns : goal.returns
returns c =
    let l = c.loop-b in
    rw c.told_by.ensures (told_numbers c.args.plan.now c.args.classes l.numbers (λ b h. l.invariant.1 b (omega arith)))
