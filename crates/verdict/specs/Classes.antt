-- The classes that come with a verdict, for whoever splits the plan.
use Rattle.std.specs.Prelude.{ℕ, cond, List, Result, Err, Ok}
use Rattle.refusal.specs.declared.Refusal.{Refusal}
use Rattle.below.specs.Lists.{list_below}
use Rattle.plan.specs.Periods.{is_period, class_of}
use Rattle.plan.specs.declared.Class.{Class}
use Rattle.plan.specs.declared.Class.TheVariants.{Empty}
use Rattle.verdict.specs.Answers.{Answer}

-- "fixed (none marked), need (all marked) or mixed (both); one without is empty": the class of the period that begins at block b;
-- empty too where none does
abbrev pub class_at : List ℕ → ℕ → Class
class_at p b = cond (is_period p b) (class_of p b) Empty

-- of an accepted plan those of blocks 0 to 31; of any other plan its first broken rule
unfoldable pub classes_by : Answer → List ℕ → Result (List Class) Refusal
classes_by (Ok n) p = Ok (list_below 32 (class_at p))
classes_by (Err r) p = Err r
