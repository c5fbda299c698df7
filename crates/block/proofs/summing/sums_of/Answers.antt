use Rattle.std.proofs.Common.{◌∙◌, ap, fold, rules}
use Rattle.block.specs.Code.Turns.{no_sums, turned}
use Rattle.block.proofs.Closures.{fold_slice}
use Rattle.block.proofs.Turns.{fold_turns}
use Rattle.block.proofs.summing.sums_of.Goals as goal

pub returns : goal.returns
returns c =
    fold_slice (turned 6) (λ b x r f k. search rules) c.fold.ensures.ran
    ∙ ap (fold (turned 6) no_sums) c.iter.ensures.rest ∙ fold_turns c.args.b.now c.turns_of.result c.turns_of.ensures
