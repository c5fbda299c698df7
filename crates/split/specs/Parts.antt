-- The periods of the two parts of the plan p. A part goes by the need mark of its doses: false is the fixed part, true the
-- need part.
use Rattle.std.specs.Prelude.{ℕ, ◌+◌, ◌-◌, max, min, Bool, cond, ◌&&◌, List, [], ◌∷◌, leb, ltb}
use Rattle.std.specs.Bool.{beq}
use Rattle.below.specs.Below.{first_from}
use Rattle.below.specs.Lists.{join_below, keep}
use Rattle.plan.specs.declared.Dose.{Dose}
use Rattle.plan.specs.Fields.{first_of, last_of, is_marked}
use Rattle.plan.specs.Periods.{blocks_of, block_at, is_period, class_of}
use Rattle.plan.specs.Classes.{is_empty}
use Rattle.layout.specs.Layout.{Written, laid_out}
use Rattle.layout.specs.Reading.{head_of, header_at, doses_at}
use Rattle.verdict.specs.Coverage.{has_days, is_member}
use Rattle.verdict.specs.declared.Group.TheVariants.{Fixed, Need}
use Rattle.verdict.specs.declared.Group.{Group}

-- "fixed part, the fixed and mixed periods ..; need part, the need and mixed periods"
abbrev pub group_of : Bool → Group
group_of marked = cond marked Need Fixed

-- the period at block b is one of the part's dosed periods
abbrev pub is_dosed_in : Bool → List ℕ → ℕ → Bool
is_dosed_in marked p b = is_member (group_of marked) p b

-- "with unmarked doses", "with marked doses"
abbrev pub is_of_part : Bool → Dose → Bool
is_of_part marked d = beq (is_marked d) marked

-- "Dates, interval and dose order are kept"
abbrev pub dosed_period : Bool → List ℕ → ℕ → Written
dosed_period marked p b = record { header = header_at p b; doses = keep (is_of_part marked) (doses_at p b) }

-- the part's next dosed period behind block b; the number of blocks where there is none
unfoldable pub next_dosed : Bool → List ℕ → ℕ → ℕ
next_dosed marked p b = first_from (blocks_of p - (b + 1)) (b + 1) (is_dosed_in marked p)

-- "A run is a longest stretch of days, between the first and last day of a part's dosed periods, that none of those covers."
-- The dosed periods stand in order and share no day, so that the run behind the one at block b, if there is one, goes from
-- the day after its last to the day ahead of the next one's first (proofs/Runs.antt)
abbrev pub run_first : List ℕ → ℕ → ℕ
run_first p b = last_of (block_at p b) + 1

abbrev pub run_last : Bool → List ℕ → ℕ → ℕ
run_last marked p b = first_of (block_at p (next_dosed marked p b)) - 1

abbrev pub has_run : Bool → List ℕ → ℕ → Bool
has_run marked p b = ltb (next_dosed marked p b) (blocks_of p) && leb (run_first p b) (run_last marked p b)

-- the empty period at block e shares days with the run from lo to hi
abbrev pub shares_run : List ℕ → ℕ → ℕ → ℕ → Bool
shares_run p lo hi e = is_period p e && is_empty (class_of p e) && has_days p lo hi e

-- "one empty period (interval 0) with the shared days"
abbrev pub shared : List ℕ → ℕ → ℕ → ℕ → Written
shared p lo hi e =
    record {
      header = record { interval = 0; first = max lo (first_of (block_at p e)); end = min hi (last_of (block_at p e)) };
      doses = [];
    }

-- "For each empty period and each run that share days": for block e, and for all of them
abbrev pub shared_by : List ℕ → ℕ → ℕ → ℕ → List Written
shared_by p lo hi e = cond (shares_run p lo hi e) (shared p lo hi e ∷ []) []

unfoldable pub shared_in : List ℕ → ℕ → ℕ → List Written
shared_in p lo hi = join_below (blocks_of p) (shared_by p lo hi)

-- what goes into the part for the run behind block b
unfoldable pub behind : Bool → List ℕ → ℕ → List Written
behind marked p b = cond (has_run marked p b) (shared_in p (run_first p b) (run_last marked p b)) []

-- what goes into the part for block b
unfoldable pub brought_by : Bool → List ℕ → ℕ → List Written
brought_by marked p b = cond (is_dosed_in marked p b) (dosed_period marked p b ∷ behind marked p b) []

-- "its periods by first day" (that they stand so is a law, proofs/Order.antt). "Other empty periods go nowhere."
unfoldable pub part_of : Bool → List ℕ → List Written
part_of marked p = join_below (blocks_of p) (brought_by marked p)

-- "Each part is a head (count and sums new) and its periods"
unfoldable pub part_bytes : Bool → List ℕ → List ℕ
part_bytes marked p = laid_out (head_of p) (part_of marked p)
