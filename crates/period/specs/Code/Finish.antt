-- How rules 7, 8, 12 and 14 are read off the state s that the pass over n doses has left. No rule is stated here:
-- proofs/Ends.antt shows that these are the rules of Doses, where no day number has fallen.
use Rattle.std.specs.Prelude.{ℕ, ◌+◌, ◌*◌, ◌/◌, ◌≤◌, ◌<◌, max, Bool, false, cond, not, ◌&&◌, ◌||◌, List, ◌≡◌, eqb, leb, ltb}
use Rattle.plan.specs.declared.Dose.{Dose}
use Rattle.period.specs.declared.turn.Walk.{Walk}
use Rattle.period.specs.Period.{period_breaks}

-- the last day number, which is the largest, passes the limit
abbrev pub is_past : Walk → ℕ → Bool
is_past s limit = ltb 0 limit && ltb limit s.day

-- the first day number, which is the smallest, is 0, and a dose is unmarked or the last day number is not 0
abbrev pub is_any_day : (ℕ → Dose) → Walk → ℕ → Bool
is_any_day D s n = ltb 0 n && eqb (D 0).day 0 && (ltb s.marked n || not (eqb s.day 0))

-- there are doses of kind 0 and of kinds 1 to 4
abbrev pub is_both : Walk → Bool
is_both s = (ltb 0 s.fixed.at || ltb 0 s.need.at) && s.timed

-- the limit, or else the last day number of an unmarked dose, which is their largest, at least 1
abbrev pub round_by : Walk → ℕ → ℕ
round_by s limit = cond (eqb limit 0) (max 1 s.most) limit

-- the sum reaches as many times 100,000,000,000, which is 2048 times 48,828,125
abbrev pub is_too_much : Walk → ℕ → Bool
is_too_much s limit = leb (48828125 * round_by s limit) (s.big + s.small / 2048)

-- the period at block b breaks no rule below k
abbrev pub NotYet : List ℕ → ℕ → ℕ → Type 0
NotYet p b k = (i : ℕ) → 5 ≤ i → i < k → period_breaks i p b ≡ false
