-- The one pass over a period's doses D 0, D 1, .., as the code makes it. No rule is stated here: proofs/Walked.antt shows that
-- what the pass keeps is what the rules of Doses say.
use Rattle.std.specs.Prelude.{ℕ, zero, suc, ◌+◌, ◌-◌, ◌*◌, ◌/◌, ◌%◌, ◌≤◌, min, Bool, false, cond, not, ◌&&◌, ◌||◌, List, ◌≡◌, eqb, leb, ltb}
use Rattle.std.specs.Bool.{beq}
use Rattle.plan.specs.declared.Dose.{Dose}
use Rattle.plan.specs.Fields.{is_marked}
use Rattle.plan.specs.Periods.{dose_in}
use Rattle.period.specs.declared.turn.Last.{Last}
use Rattle.period.specs.declared.turn.Walk.{Walk}
use Rattle.period.specs.Doses.{is_timed, is_untimed, bad_range, unmarked_upper}

-- a clock dose
abbrev pub is_clock : Dose → Bool
is_clock d = eqb d.kind 5

-- a clock dose's place by day number and minute: while these rise, no two of a day have one minute
unfoldable pub rank_of : Dose → ℕ
rank_of d = d.day * 65536 + d.minute

-- the last dose of a kind from 1 to 4, its index and 1, by the state s; 0 where there is none
abbrev pub last_at : Walk → ℕ → ℕ
last_at s k =
    cond (eqb k 1) s.morning (cond (eqb k 2) s.noon (cond (eqb k 3) s.evening (cond (eqb k 4) s.night 0)))

-- where the doses with the day number of dose j, which is d, begin, by the state s ahead of it
abbrev pub from_of : Walk → Dose → ℕ → ℕ
from_of s d j = cond (eqb s.day d.day) s.from j

-- 99 doses with the day number of dose j are ahead of it
abbrev pub is_crowded : Walk → Dose → ℕ → Bool
is_crowded s d j = leb 99 (j - from_of s d j)

-- both amounts are the same
abbrev pub same_amounts : Dose → Dose → Bool
same_amounts d e = eqb d.low e.low && eqb d.high e.high

-- two untimed doses of one need mark
abbrev pub is_like : Dose → Dose → Bool
is_like d e = is_untimed d && is_untimed e && beq (is_marked d) (is_marked e)

-- the last dose like d, its index and 1, is of dose j's day, and has other amounts than d
abbrev pub is_other : Walk → Dose → ℕ → Bool
is_other s d j =
    let last = cond (is_marked d) s.need s.fixed in
    is_untimed d && ltb (from_of s d j) last.at && not (eqb last.low d.low && eqb last.high d.high)

-- dose j breaks a rule that the pass looks for
abbrev pub is_asked : Walk → Dose → ℕ → Bool
is_asked s d j = ltb d.day s.day || is_crowded s d j || is_other s d j || bad_range d

-- the lowest broken of rules 7, 9, 11 and 13, by the test of each; 14 where none is
abbrev pub lowest : Bool → Bool → Bool → Bool → ℕ
lowest t7 t9 t11 t13 = cond t7 7 (cond t9 9 (cond t11 11 (cond t13 13 14)))

-- the lowest rule broken with dose j, which is d
unfoldable pub rule_with : Walk → Dose → ℕ → ℕ
rule_with s d j =
    min (lowest (ltb d.day s.day) (is_crowded s d j) (is_other s d j) (bad_range d)) s.rule

-- the same, with the tests told apart only where one holds
unfoldable pub next_rule : Walk → Dose → ℕ → ℕ
next_rule s d j = cond (is_asked s d j) (rule_with s d j) s.rule

-- the state before the first dose
abbrev pub begun : Walk
begun =
    record {
      day = 0;
      from = 0;
      top = 0;
      fixed = record { at = 0; low = 0; high = 0 };
      need = record { at = 0; low = 0; high = 0 };
      timed = false;
      morning = 0;
      noon = 0;
      evening = 0;
      night = 0;
      marked = 0;
      big = 0;
      small = 0;
      most = 0;
      again = false;
      rule = 14;
    }

-- d is untimed, and unmarked or marked
abbrev pub is_fixed : Dose → Bool
is_fixed d = is_untimed d && not (is_marked d)

abbrev pub is_need : Dose → Bool
is_need d = is_untimed d && is_marked d

-- what is kept of dose j, which is d
abbrev pub kept_as : Dose → ℕ → Last
kept_as d j = record { at = j + 1; low = d.low; high = d.high }

-- the state with dose j, which is d, and the lowest rule broken with it
unfoldable pub turned : Walk → Dose → ℕ → ℕ → Walk
turned s d j rule =
    record {
      day = d.day;
      from = from_of s d j;
      top = cond (is_clock d && ltb s.top (rank_of d)) (rank_of d) s.top;
      fixed = cond (is_fixed d) (kept_as d j) s.fixed;
      need = cond (is_need d) (kept_as d j) s.need;
      timed = s.timed || is_timed d;
      morning = cond (eqb d.kind 1) (j + 1) s.morning;
      noon = cond (eqb d.kind 2) (j + 1) s.noon;
      evening = cond (eqb d.kind 3) (j + 1) s.evening;
      night = cond (eqb d.kind 4) (j + 1) s.night;
      marked = s.marked + cond (is_marked d) 1 0;
      big = s.big + unmarked_upper d / 2048;
      small = s.small + unmarked_upper d % 2048;
      most = cond (is_marked d) s.most d.day;
      again = s.again || (is_clock d && leb (rank_of d) s.top) || ltb (from_of s d j) (last_at s d.kind);
      rule = rule;
    }

-- the state after j doses
unfoldable pub walked_to : (ℕ → Dose) → ℕ → Walk
walked_to D zero = begun
walked_to D (suc j) = let s = walked_to D j in turned s (D j) j (next_rule s (D j) j)

-- no number of the state can grow too large
pub record Room (j : ℕ) (s : Walk) : Type 0 where
  pub from : s.from ≤ j
  pub marked : s.marked ≤ j
  pub big : s.big ≤ j * 9007199254740992
  pub small : s.small ≤ j * 2047

-- the pass over the period at block b of the plan p has come to dose j
pub record Passed (p : List ℕ) (b j : ℕ) (s : Walk) : Type 0 where
  pub kept : s ≡ walked_to (dose_in p b) j
  pub room : Room j s
