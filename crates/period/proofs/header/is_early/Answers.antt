use Prim.Native.Nat.{ℕ, ◌-◌, ◌<◌}
use mathlib.Core.Bool.{true, false}
use mathlib.Core.List.{List}
use mathlib.Core.Path.{◌≡◌}
use native.Mathlib.Omega.{arith}
use lib.Dec.{ltb}
use borrow.Author.Tests.{lt-ltb, le-ltb}
use Rattle.below.proofs.Search.{first_is, first_none}
use Rattle.plan.specs.Fields.{first_of}
use Rattle.plan.specs.Periods.{block_at, is_period}
use Rattle.period.specs.Period.{ahead_of, early}
use Rattle.period.proofs.header.is_early.Goals as goal

module _ (p : List ℕ) (b : ℕ) where
  some_ahead : (a : ℕ) → a < b → is_period p a ≡ true → ((k : ℕ) → a < k → k < b → is_period p k ≡ false) → early p b ≡ ltb (first_of (block_at p b)) (first_of (block_at p a))
  unfolding ahead_of
  some_ahead a l here none =
      let back : b - 1 - (b - 1 - a) ≡ a = omega arith in
      let ahead : ahead_of p b ≡ b - 1 - a = first_is (λ (i : ℕ). is_period p (b - 1 - i)) {n = b} {i = b - 1 - a} (omega arith) (λ i m. none (b - 1 - i) (omega arith) (omega arith)) (rw back here) in
      rw (ahead, lt-ltb (b - 1 - a) b (omega arith), back)

  none_ahead : ((k : ℕ) → k < b → is_period p k ≡ false) → early p b ≡ false
  unfolding ahead_of
  none_ahead none =
      let ahead : ahead_of p b ≡ b = first_none (λ (i : ℕ). is_period p (b - 1 - i)) b (λ i m. none (b - 1 - i) (omega arith)) in
      rw (ahead, le-ltb b b (omega arith))

pub returns-in-Some : goal.returns-in-Some
returns-in-Some c =
    let near = c.in-Some.ensures in
    rw (some_ahead c.args.plan.now c.args.b c.in-Some.a near.0 near.1 near.2) (cc)

pub returns-in-None : goal.returns-in-None
returns-in-None c = rw (none_ahead c.args.plan.now c.args.b c.in-None.ensures)
