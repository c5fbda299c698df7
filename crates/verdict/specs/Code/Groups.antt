-- What the code for rules 16 and 17 answers on its way. No rule is stated by these.
use Rattle.std.specs.Prelude.{ℕ, ◌+◌, Bool, ◌&&◌, List}
use Rattle.plan.specs.Fields.{last_of}
use Rattle.plan.specs.Periods.{block_at}
use Rattle.verdict.specs.Coverage.{is_member, hole_at}
use Rattle.verdict.specs.declared.Group.TheVariants.{All, Fixed, Need, FixedOrEmpty, NeedOrEmpty}
use Rattle.verdict.specs.declared.Group.{Group}

-- the group that must have the days between the first and last day of the group g
abbrev pub cover_of : Group → Group
cover_of All = All
cover_of Fixed = FixedOrEmpty
cover_of Need = NeedOrEmpty
cover_of FixedOrEmpty = FixedOrEmpty
cover_of NeedOrEmpty = NeedOrEmpty

-- the day after the period at block b is a hole: what is tested in place of every day of the calendar
unfoldable pub hole_after : Group → List ℕ → ℕ → Bool
hole_after g p b = is_member (cover_of g) p b && hole_at g (cover_of g) p (last_of (block_at p b) + 1)
