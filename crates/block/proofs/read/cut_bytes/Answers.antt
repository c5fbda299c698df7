use Rattle.std.proofs.Common.{◌∙◌, get_or, get_or-drop, rules}
use Rattle.block.proofs.Closures.{from_fn_at}
use Rattle.block.proofs.read.cut_bytes.Goals as goal

pub returns : goal.returns
returns g c =
    let items = c.from_fn.ensures.items in (
      items.long,
      λ k l.
          from_fn_at _ (λ k. get_or c.rest_at-rest.result.now k 0) _ c.from_fn.result 0 (λ k y q called. search rules) items k l
          ∙ rw c.rest_at-rest.ensures (get_or-drop c.args.at c.args.s.now k 0),
    )
