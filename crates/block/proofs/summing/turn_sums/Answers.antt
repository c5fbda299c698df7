use Rattle.std.proofs.Common.{◌≡◌, ◌/◌, ◌∙◌, fold, length, ap, arith, rules}
use Rattle.std.specs.Int.{w32, from_le_bytes}
use Rattle.std.specs.Simd.{first_chunks}
use Rattle.block.specs.Sums.{grown}
use Rattle.block.specs.Code.Turns.{no_sums}
use Rattle.block.proofs.Closures.{fold_slice}
use Rattle.block.proofs.Turns.{fold_words}
use Rattle.block.proofs.summing.turn_sums.Goals as goal

pub returns : goal.returns
returns c =
    let b = c.args.turn.now in
    let six : length b / 4 ≡ 6 = omega (arith, c.told-turn) in
    let words = c.iter.ensures.rest ∙ c.as_chunks.ensures.front ∙ ap (λ n. first_chunks 4 n b) six in
    fold_slice (λ s w. grown s (from_le_bytes w32 w)) (λ b x r f k. search rules) c.fold.ensures.ran
    ∙ ap (fold (λ s w. grown s (from_le_bytes w32 w)) no_sums) words ∙ fold_words no_sums b 6
