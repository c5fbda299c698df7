use mathlib.Core.Path.{sym, ◌∙◌}
use borrow.Author.Rules.{rules}
use Rattle.writer.proofs.Room.{room_is}
use Rattle.writer.proofs.Steps.{period_none, period_done}
use Rattle.writer.proofs.add_period.Goals as goal

pub returns-then-not-has_room : goal.returns-then-not-has_room
returns-then-not-has_room c = period_none _ _ _ (sym c.has_room.ensures ∙ c.if-not-has_room.true)

pub overflow_add-result : goal.overflow_add-result
overflow_add-result c = let e = room_is _ _ (sym c.has_room.ensures ∙ c.if-not-has_room.false) in search rules

pub returns : goal.returns
returns c = period_done _ _ _ (sym c.has_room.ensures ∙ c.if-not-has_room.false) _ c.fill_period.ensures

pub slice_bounds-fill_period-end : goal.slice_bounds-fill_period-end
slice_bounds-fill_period-end c = let e = room_is _ _ (sym c.has_room.ensures ∙ c.if-not-has_room.false) in search rules
