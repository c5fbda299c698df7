-- What the code asks of a plan for a part of it. No rule is stated here.
use Rattle.std.specs.Prelude.{ℕ, Bool, true, false, cond, not, ◌&&◌, List, Option, Some, None}
use Rattle.below.specs.Below.{any_below}
use Rattle.plan.specs.Periods.{blocks_of, is_period, class_of}
use Rattle.plan.specs.Classes.{same_class}
use Rattle.plan.specs.declared.Class.{Class}
use Rattle.plan.specs.declared.Class.TheVariants as class
use Rattle.split.specs.Parts.{run_first, run_last, has_run}
use Rattle.split.specs.declared.parts.Part.{Part}
use Rattle.split.specs.declared.parts.Part.TheVariants as part
use Rattle.split.specs.declared.run.Run.{Run}

-- a part by the need mark of its doses, as the rules name it
abbrev pub is_need : Part → Bool
is_need part.Fixed = false
is_need part.Need = true

-- the class that has doses of the part alone
abbrev pub own_class : Bool → Class
own_class marked = cond marked class.Need class.Fixed

-- the period at block b has other doses too, or none; and no period has
abbrev pub is_other : Bool → List ℕ → ℕ → Bool
is_other marked p b = is_period p b && not (same_class (class_of p b) (own_class marked))

unfoldable pub is_alone : Bool → List ℕ → Bool
is_alone marked p = not (any_below (blocks_of p) (is_other marked p))

-- the run behind block b, if there is one
abbrev pub run_behind : Bool → List ℕ → ℕ → Option Run
run_behind marked p b = cond (has_run marked p b) (Some (record { first = run_first p b; last = run_last marked p b })) None
