use Rattle.std.proofs.Common.{◌≡◌, ◌∙◌, ◌&&◌, true, eqb, fold, rules}
use borrow.Author.Tests.{tests}
use Rattle.block.proofs.Closures.{fold_slice}
use Rattle.block.proofs.Zero.{all_zero, fold_all}
use Rattle.block.proofs.zero_bytes.is_chunk_zero.Goals as goal

pub returns : goal.returns
returns g c =
    let e : c.fold.result ≡ fold (λ z x. z && eqb x 0) true c.args.chunk.now =
    rw (c.iter.ensures.rest) at (fold_slice (λ z x. z && eqb x 0) (λ b x r f k. search (rules, tests)) c.fold.ensures.ran) in
    e ∙ fold_all (λ x. eqb x 0) true c.args.chunk.now ∙ all_zero c.args.chunk.now
