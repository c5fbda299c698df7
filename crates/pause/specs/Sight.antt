-- "with no pause in sight": what a list of pauses says from a day on, and up to which day.
use Rattle.std.specs.Prelude.{ℕ, zero, suc, ◌-◌, min, cond, ◌&&◌, ◌||◌, List, leb, ltb, length, get_or}
use Rattle.day.specs.Days.{open_mark, closed_day}
use Rattle.pause.specs.declared.Pause.{Pause}
use Rattle.pause.specs.declared.Sight.{Sight}
use Rattle.pause.specs.Pauses.{no_day, holds, is_paused}

-- up to which day the pause holds the days as it holds day d, or does not; the open mark where that never changes
abbrev pub steady_to : Pause → ℕ → ℕ
steady_to x d = cond (holds x d) (closed_day x.last) (cond (ltb d x.first && leb x.first (closed_day x.last)) (x.first - 1) open_mark)

-- the least of that over the list's first n pauses
unfoldable pub steady_below : ℕ → List Pause → ℕ → ℕ
steady_below zero xs d = open_mark
steady_below (suc n) xs d = min (steady_below n xs d) (steady_to (get_or xs n no_day) d)

-- up to which day the list pauses the days as it pauses day d, or does not; the open mark where no change is in sight
unfoldable pub sight_to : List Pause → ℕ → ℕ
sight_to xs d = steady_below (length xs) xs d

-- what the list says from day d on
abbrev pub sight_of : List Pause → ℕ → Sight
sight_of xs d = record { paused = is_paused xs d; until = sight_to xs d }

-- the same, where `known` is what the list says from an earlier day on: up to the day that it names, only whether day d is paused is asked
abbrev pub sight_on : List Pause → ℕ → Sight → Sight
sight_on xs d known = cond (leb d known.until) (record { paused = is_paused xs d; until = known.until }) (sight_of xs d)

-- what was said before of day d, and one pause more
abbrev pub seen_with : Sight → Pause → ℕ → Sight
seen_with s x d = record { paused = s.paused || holds x d; until = min s.until (steady_to x d) }
