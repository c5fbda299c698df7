-- The doses of a day of one period, from its header and doses: what the law of split is stated by for a laid-out period.
use Rattle.std.specs.Prelude.{ℕ, cond, ◌&&◌, List, [], leb}
use Rattle.below.specs.Lists.{keep}
use Rattle.day.specs.Days.{closed_day}
use Rattle.plan.specs.declared.Dose.{Dose}
use Rattle.doses.specs.Doses.{position_of, applies}
use Rattle.layout.specs.Layout.{Written}

-- the period's doses on day d
unfoldable pub doses_on_day : ℕ → Written → List Dose
doses_on_day d w =
    cond (leb w.header.first d && leb d (closed_day w.header.end)) (keep (applies (position_of w.header d)) w.doses) []
