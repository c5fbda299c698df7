-- Written out, though the check finds it: a body that gives something else is refused at this goal.
use mathlib.Core.Bool.{Bool, true, false, ◌&&◌}
use mathlib.Core.Path.{◌≡◌, refl}
use Rattle.plan.specs.Periods.{is_period}
use Rattle.split.proofs.periods.is_other.Goals as goal

-- what is asked of a class that is right where a period begins
same_and : (t : Bool) {f g : Bool} → (t ≡ true → f ≡ g) → (t && f) ≡ (t && g)
same_and true h = h refl
same_and false h = refl

pub returns : goal.returns
returns c = let a = c.args in
    rw (c.is_period.ensures, c.has_alone.ensures) (same_and (is_period a.classed.plan.now a.b) (λ t. rw (c.class_at.ensures.known c.requires t)))
