use Rattle.std.proofs.Common.{rules, tests}
use borrow.Author.Tests.{lt-ltb, le-ltb}
use Rattle.plan.specs.Fields.{record_at}
use Rattle.form.specs.Form.{record_out}
use Rattle.form.specs.Code.Front.{records_out}
use Rattle.form.proofs.Ranges.{any_in_range}
use Rattle.form.proofs.block_form.records_out.Goals as goal

pub returns-then-n-gt20 : goal.returns-then-n-gt20
unfolding records_out
returns-then-n-gt20 c = rw (← c.count_of-n.ensures, lt-ltb _ _ c.if-n-gt20.true)

pub returns-else-n-gt20 : goal.returns-else-n-gt20
unfolding records_out
returns-else-n-gt20 c =
    rw (← c.count_of-n.ensures, le-ltb _ _ c.if-n-gt20.false)
    (any_in_range c.count_of-n.result (λ i. record_out (record_at c.args.r.now i)) _ _ _ _ c.any.ensures.ran (cc) (λ x q k. search (rules, tests)) (λ x q k. (search (rules, tests), search (rules, tests))))
