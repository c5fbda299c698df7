-- What an iterator over a day's doses has still to give: a caller sees it as this list, and its fields nowhere.
use Rattle.std.specs.Prelude.{ℕ, ◌+◌, ◌-◌, min, cond, List, [], ◌∷◌, ◌++◌}
use Rattle.below.specs.Lists.{join_below}
use Rattle.plan.specs.declared.Dose.{Dose}
use Rattle.plan.specs.Periods.{blocks_of, dose_in}
use Rattle.doses.specs.Doses.{covers, applies, doses_of_period}
use Rattle.doses.specs.declared.iter.Rest.{Rest}
use Rattle.doses.specs.declared.iter.DosesOn.TheInside.{Inside}

-- the lists f i, f (i + 1), .., f (n - 1), one behind the other
abbrev pub join_from : {A : Type 0} → ℕ → ℕ → (ℕ → List A) → List A
join_from n i f = join_below (n - i) (λ k. f (i + k))

-- dose j of a period, if it applies, and the doses of the period at block b, if it has the day
abbrev pub applied : List ℕ → Rest → ℕ → List Dose
applied p r j = cond (applies r.position (dose_in p r.block j)) (dose_in p r.block j ∷ []) []

abbrev pub had_on : List ℕ → ℕ → ℕ → List Dose
had_on p d b = cond (covers p d b) (doses_of_period p d b) []

-- of a period, and of all behind it too
abbrev pub left_in : List ℕ → Rest → List Dose
left_in p r = join_from r.end r.next (applied p r)

abbrev pub doses_left : Inside → List Dose
doses_left s = left_in s.plan.now s.rest ++ join_from (min (blocks_of s.plan.now) 64) s.block (had_on s.plan.now s.day)
