use mathlib.Core.Path.{sym, ◌∙◌}
use Rattle.pause.proofs.Lists.{no_day_first, lent_bad, lent_good}
use Rattle.pause.proofs.packed.packed_records.Goals as goal

pub returns-then-is_no_list : goal.returns-then-is_no_list
returns-then-is_no_list c =
    let s = c.args.s.now in
    rw (lent_bad s (sym c.is_no_list.ensures ∙ c.if-is_no_list.true)) (sym no_day_first)

pub returns : goal.returns
returns c =
    let s = c.args.s.now in
    rw (lent_good s (sym c.is_no_list.ensures ∙ c.if-is_no_list.false)) c.records.ensures
