use mathlib.Core.Bool.{Bool, false, ◌&&◌}
use mathlib.Core.Path.{◌≡◌}
use Prim.Native.Nat.{ℕ}
use lib.Dec.{leb}
use Rattle.std.specs.Prelude.{Option, Some, None, MatchOption, is_some, unwrap_or}
use Rattle.std.proofs.Common.{rules, tests}
use Rattle.need.proofs.Telling.{told_any, told_day_lem}
use Rattle.supply.proofs.Wanting.{needed_stop}
use Rattle.supply.proofs.wanted.is_needed.Goals as goal

-- a test of the day that there may be, by the day and whether there is one
some_from : (start : ℕ) (day : Option ℕ) (r : Bool) (Q : ℕ → Type 0) → MatchOption day (r ≡ false) Q → ((x : ℕ) → Q x → r ≡ leb start x) →
    r ≡ (is_some day && leb start (unwrap_or day 0))
some_from start None r Q h f = h
some_from start (Some x) r Q h f = f x h

pub returns : goal.returns
returns c =
    let a = c.args in
    let s = c.stop_of.ensures in
    rw (needed_stop a.start a.plan.now, ← told_any c.requires, ← told_day_lem c.requires, ← s.0, ← s.1)
    (some_from a.start c.stop_of.result _ _ c.is_some_and.ensures (λ x q. search (rules, tests)))
