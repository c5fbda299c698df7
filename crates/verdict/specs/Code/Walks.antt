-- One walk over the periods in block order shows that a plan keeps rule 16, and one that it keeps rule 17: what a turn of each
-- makes of its state s. No rule is stated by these.
use Rattle.std.specs.Prelude.{ℕ, ◌+◌, max, Bool, cond, Option, Some, None, ◌&&◌, ◌||◌, List, leb, ltb}
use Rattle.plan.specs.Fields.{first_of, last_of}
use Rattle.plan.specs.Periods.{block_at, class_of}
use Rattle.plan.specs.Classes.{is_empty, same_class}
use Rattle.plan.specs.declared.Class.{Class}
use Rattle.verdict.specs.Coverage.{in_group}
use Rattle.verdict.specs.Code.Groups.{cover_of}
use Rattle.verdict.specs.declared.Group.{Group}
use Rattle.verdict.specs.declared.coverage.Span.{Span}
use Rattle.verdict.specs.declared.holes.Reach.{Reach}

-- the period at block b
abbrev pub span_of : List ℕ → ℕ → Span
span_of p b = record { class = class_of p b; first = first_of (block_at p b); end = last_of (block_at p b) + 1 }

-- a period of the group begins behind those ahead of it, or the walk is lost
unfoldable pub free_on : Group → Span → Option ℕ → Option ℕ
free_on g q None = None
free_on g q (Some day) = cond (in_group g q.class) (cond (ltb q.first day) None (Some (max day q.end))) (Some day)

-- a period of the cover joins the days so far, or begins them anew; where the group has begun, one that is apart from them
-- is passed over, and if it is of the group the walk is lost
unfoldable pub reach_on : Group → Span → Option Reach → Option Reach
reach_on g q None = None
reach_on g q (Some s) =
    let spans = in_group g q.class in
    cond (in_group (cover_of g) q.class)
    (cond (leb s.from q.first && leb q.first s.to)
    (Some (record { from = s.from; to = max s.to q.end; began = s.began || spans }))
    (cond s.began (cond spans None (Some s)) (Some (record { from = q.first; to = q.end; began = spans }))))
    (Some s)

-- a period of class c is like those so far, whose doses are all of this class, empty where none has any: one of the two is
-- empty, or they are one
abbrev pub is_like : Class → Class → Bool
is_like class c = is_empty c || is_empty class || same_class c class

-- the class of them all
unfoldable pub class_with : Class → Class → Class
class_with class c = cond (is_empty c) class c
