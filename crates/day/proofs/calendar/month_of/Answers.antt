use Prim.Native.Nat.{ℕ, zero, suc, ◌+◌, ◌≤◌, ◌<◌}
use mathlib.Core.Bool.{Bool}
use native.Mathlib.Numerals.{add-one}
use native.Mathlib.Omega.{arith}
use borrow.Author.Rules.{rules}
use Rattle.std.specs.Prelude.{Option, Some, None, MatchOption, unwrap_or}
use Rattle.std.proofs.Common.{tests}
use Rattle.std.proofs.lemmas.Iterator.{first_from_Range}
use Rattle.day.specs.Calendar.{before}
use Rattle.day.proofs.Months.{before_zero}
use Rattle.day.proofs.calendar.month_of.Goals as goal

-- a day behind the end of each month before m is not before m
reached : (leap : Bool) (rest m : ℕ) → ((k : ℕ) → 0 ≤ k → k < m → before leap (k + 1) ≤ rest) → before leap m ≤ rest
reached leap rest zero h = omega (arith, before_zero leap)
reached leap rest (suc k) h = rw add-one at (h k (omega arith) (omega arith))

-- the month that a search through the first eleven finds, or else the last
found : (leap : Bool) (rest : ℕ) (r : Option ℕ) → rest < before leap 12 →
    MatchOption r ((k : ℕ) → 0 ≤ k → k < 11 → before leap (k + 1) ≤ rest)
    (λ i. (0 ≤ i) × (i < 11) × (rest < before leap (i + 1)) × ((k : ℕ) → 0 ≤ k → k < i → before leap (k + 1) ≤ rest)) →
    (unwrap_or r 11 < 12) × (before leap (unwrap_or r 11) ≤ rest) × (rest < before leap (unwrap_or r 11 + 1))
found leap rest None l h = (omega arith, reached leap rest 11 h, l)
found leap rest (Some i) l h = (omega (arith, h.1), reached leap rest i h.3, h.2)

pub returns : goal.returns
returns c =
    let leap = c.args.leap in
    let rest = c.args.rest in
    let first =
    first_from_Range _ _ _ _ (λ m. rest < before leap (m + 1)) (λ m. before leap (m + 1) ≤ rest) c.find.ensures.ran
    (λ x q k. search (rules, tests))
    (λ x q k. (search (rules, tests), search (rules, tests))) in
    rw c.unwrap_or.ensures (found leap rest _ c.requires first)
