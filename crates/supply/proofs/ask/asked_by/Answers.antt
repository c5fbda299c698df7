use mathlib.Core.Bool.{true, false}
use mathlib.Core.Path.{◌≡◌, sym, ◌∙◌}
use borrow.Author.Tests.{lt-ltb, le-ltb}
use Rattle.day.specs.Days.{is_day}
use Rattle.supply.specs.Supply.{asked_by}
use Rattle.supply.proofs.ask.asked_by.Goals as goal

pub returns-then-pack-gt-PACK_LIMIT : goal.returns-then-pack-gt-PACK_LIMIT
unfolding asked_by
returns-then-pack-gt-PACK_LIMIT c = rw (lt-ltb _ _ c.if-pack-gt-PACK_LIMIT.true, c.alone.ensures)

pub returns-then-out : goal.returns-then-out
unfolding asked_by
returns-then-out c = rw (le-ltb _ _ c.if-pack-gt-PACK_LIMIT.false, c.if-out.true, c.alone-then-out.ensures)

pub returns-then-not-is_day : goal.returns-then-not-is_day
unfolding asked_by
returns-then-not-is_day c =
    let d : is_day c.args.start ≡ false = rw (← c.new.ensures) (sym c.is_day.ensures ∙ c.if-not-is_day.true) in
    rw (le-ltb _ _ c.if-pack-gt-PACK_LIMIT.false, c.if-out.false, d, c.alone-then-not-is_day.ensures)

pub returns : goal.returns
unfolding asked_by
returns c =
    let d : is_day c.args.start ≡ true = rw (← c.new.ensures) (sym c.is_day.ensures ∙ c.if-not-is_day.false) in
    rw (le-ltb _ _ c.if-pack-gt-PACK_LIMIT.false, c.if-out.false, d)
