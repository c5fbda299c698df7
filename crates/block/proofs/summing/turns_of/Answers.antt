use Rattle.std.proofs.Common.{◌*◌, ◌/◌, ◌∙◌, [], length, get_or, ap, arith, rules}
use Rattle.block.specs.Sums.{summed}
use Rattle.block.specs.Code.Turns.{no_sums, TurnsTo}
use Rattle.std.proofs.lemmas.List.FromFn.{fill_by_all}
use Rattle.block.proofs.Closures.{from_fn_at}
use Rattle.block.proofs.Turns.{turn_at}
use Rattle.block.proofs.summing.turns_of.Goals as goal

pub returns : goal.returns
unfolding TurnsTo
returns c =
    let b = c.args.b.now in
    let items = c.from_fn.ensures.items in
    fill_by_all (λ k. summed no_sums b (k * 24) 6) c.from_fn.result 21 no_sums items.long
    (λ k l.
    from_fn_at _ (λ k. summed no_sums (get_or c.as_chunks.result.0.now k []) 0 6) _ c.from_fn.result no_sums (λ k y q called. search rules) items k l
    ∙ ap (λ t. summed no_sums t 0 6) (ap (λ ts. get_or ts k []) c.as_chunks.ensures.front) ∙ turn_at b (length b / 24) k (omega (arith, c.told-b)))
