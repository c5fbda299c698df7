-- "Showing a day": which of a part's own bytes are shown.
use Rattle.std.specs.Prelude.{ℕ, ◌+◌, ◌*◌, cond, List, [], eqb, ltb, take, drop, Err, Ok}
use Rattle.below.specs.Below.{first_below}
use Rattle.form.specs.Answers.{Form}
use Rattle.form.specs.Form.{form_of}
use Rattle.plan.specs.Periods.{blocks_of, more_of}
use Rattle.doses.specs.Doses.{covers}
use Rattle.showing.specs.declared.Stretch.{Stretch}

-- "rules 1 to 4 (limit 32,768)"
abbrev pub part_limit : ℕ
part_limit = 32768

abbrev pub nothing : Stretch
nothing = record { at = 0; length = 0 }

-- "the first period covering it"; the number of blocks where none does
abbrev pub first_covering : List ℕ → ℕ → ℕ
first_covering part day = first_below (blocks_of part) (covers part day)

-- "the blocks of the first period covering it", by where they begin and how many bytes they are
abbrev pub blocks_shown : List ℕ → ℕ → Stretch
blocks_shown part b = record { at = b * 512; length = (1 + more_of part b) * 512 }

-- "An empty stretch comes .. if the wanted part breaks rules 1 to 4 .., or if no period covers the day."
abbrev pub shown_by : Form → List ℕ → ℕ → Stretch
shown_by (Err r) part day = nothing
shown_by (Ok tt) part day =
    let b = first_covering part day in
    cond (ltb b (blocks_of part)) (blocks_shown part b) nothing

unfoldable pub shown_in : List ℕ → ℕ → Stretch
shown_in part day = shown_by (form_of part_limit part) part day

-- "the list wanted (1 fixed, 2 need)"; "An empty stretch comes for another list number"
abbrev pub wanted : List ℕ → List ℕ → ℕ → List ℕ
wanted fixed need list = cond (eqb list 1) fixed (cond (eqb list 2) need [])

unfoldable pub stretch_of : List ℕ → List ℕ → ℕ → ℕ → Stretch
stretch_of fixed need list day = shown_in (wanted fixed need list) day

-- "a stretch of that part's own bytes"
unfoldable pub shown : List ℕ → List ℕ → ℕ → ℕ → List ℕ
shown fixed need list day =
    let s = stretch_of fixed need list day in
    take s.length (drop s.at (wanted fixed need list))
