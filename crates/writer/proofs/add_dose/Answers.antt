use mathlib.Core.Path.{sym, ◌∙◌}
use borrow.Author.Rules.{rules}
use Rattle.writer.proofs.Steps.{dose_none, dose_last, dose_full, dose_more}
use Rattle.writer.proofs.Room.{room_is, begun_is}
use Rattle.writer.proofs.add_dose.Goals as goal

pub returns-then-not-has_begun : goal.returns-then-not-has_begun
returns-then-not-has_begun c = dose_none _ _ _ (sym c.has_begun.ensures ∙ c.if-not-has_begun.true)

pub overflow_sub-at : goal.overflow_sub-at
overflow_sub-at c = let e = begun_is _ _ 2 (sym c.has_begun.ensures ∙ c.if-not-has_begun.false) in search rules

pub put_dose-requires : goal.put_dose-requires
put_dose-requires c = let e = begun_is _ _ 2 (sym c.has_begun.ensures ∙ c.if-not-has_begun.false) in search rules

pub returns-then-at-lt-FULL : goal.returns-then-at-lt-FULL
returns-then-at-lt-FULL c = dose_last _ _ _ (sym c.has_begun.ensures ∙ c.if-not-has_begun.false) (search rules) _ c.put_dose.ensures

pub returns-then-not-has_room : goal.returns-then-not-has_room
returns-then-not-has_room c = dose_full _ _ _ (sym c.has_begun.ensures ∙ c.if-not-has_begun.false) (search rules) (sym c.has_room.ensures ∙ c.if-not-has_room.true)

pub put_dose-requires-2 : goal.put_dose-requires-2
put_dose-requires-2 c = let e = room_is _ _ (sym c.has_room.ensures ∙ c.if-not-has_room.false) in search rules

pub overflow_add-result-2 : goal.overflow_add-result-2
overflow_add-result-2 c = let e = room_is _ _ (sym c.has_room.ensures ∙ c.if-not-has_room.false) in search rules

pub returns : goal.returns
returns c = dose_more _ _ _ (sym c.has_begun.ensures ∙ c.if-not-has_begun.false) (search rules) (sym c.has_room.ensures ∙ c.if-not-has_room.false) _ _ c.fill_continuation.ensures c.put_dose-2.ensures

pub slice_bounds-fill_continuation-end : goal.slice_bounds-fill_continuation-end
slice_bounds-fill_continuation-end c = let e = room_is _ _ (sym c.has_room.ensures ∙ c.if-not-has_room.false) in search rules
