use mathlib.Core.Path.{sym, ◌∙◌}
use Rattle.pause.proofs.Lists.{length_pauses, lent_bad, lent_good}
use Rattle.pause.proofs.packed.packed_count.Goals as goal

pub returns-then-is_no_list : goal.returns-then-is_no_list
returns-then-is_no_list c =
    let s = c.args.s.now in
    rw (lent_bad s (sym c.is_no_list.ensures ∙ c.if-is_no_list.true))

pub returns : goal.returns
returns c =
    let s = c.args.s.now in
    rw (lent_good s (sym c.is_no_list.ensures ∙ c.if-is_no_list.false)) (sym (length_pauses s))
