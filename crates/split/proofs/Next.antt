-- The part's next dosed period. Assumes nothing.
use Prim.Native.Nat.{ℕ, zero, suc, ◌+◌, ◌-◌, ◌≤◌, ◌<◌}
use mathlib.Core.Bool.{Bool, true, false}
use mathlib.Core.List.{List}
use mathlib.Core.Logic.{⊎_elim}
use mathlib.Core.Path.{◌≡◌, sym}
use native.Mathlib.Nat.{eq-or-lt_of_le}
use native.Mathlib.Omega.{arith}
use Rattle.below.proofs.Tests.{bool_cases, le_or_lt, true_not_false}
use Rattle.below.specs.Below.{first_from}
use Rattle.below.proofs.Search.{from_hit, from_none}
use Rattle.std.specs.Prelude.{Option, Some, None, MatchOption}
use Rattle.plan.specs.Periods.{blocks_of}
use Rattle.split.specs.Parts.{is_dosed_in, next_dosed}

-- m is the least of i, i + 1, .., e - 1 that has p, or e
record IsNext (p : ℕ → Bool) (i e m : ℕ) : Type 0 where
  pub from : i ≤ m
  pub within : m ≤ e
  pub before : (k : ℕ) → i ≤ k → k < m → p k ≡ false
  pub here : m < e → p m ≡ true

from_facts : (p : ℕ → Bool) (n i : ℕ) → IsNext p i (i + n) (first_from n i p)
unfolding first_from
from_facts p zero i =
    record { from = omega arith; within = omega arith; before = λ k l h. absurd (omega arith); here = λ l. absurd (omega arith) }
from_facts p (suc n) i =
    ⊎_elim
    (λ (t : p i ≡ true).
    rw t (record { from = omega arith; within = omega arith; before = λ k l h. absurd (omega arith); here = λ l. t }))
    (λ (t : p i ≡ false).
    let f = from_facts p n (suc i) in
    rw t (record {
      from = omega (arith, f.from);
      within = omega (arith, f.within);
      before = λ k l h. ⊎_elim (λ (e : i ≡ k). rw (← e) t) (λ (q : i < k). f.before k q h) (eq-or-lt_of_le l);
      here = λ l. f.here (omega arith);
    }))
    (bool_cases (p i))

-- c is the first block behind block b at which a dosed period of the part begins, or the number of blocks
pub record Next (m : Bool) (p : List ℕ) (b c : ℕ) : Type 0 where
  pub behind : b < c
  pub within : c ≤ blocks_of p
  pub none : (k : ℕ) → b < k → k < c → is_dosed_in m p k ≡ false
  pub dosed : c < blocks_of p → is_dosed_in m p c ≡ true

pub next_is : (m : Bool) (p : List ℕ) (b : ℕ) → b < blocks_of p → Next m p b (next_dosed m p b)
unfolding next_dosed
next_is m p b l =
    let e : b + 1 + (blocks_of p - (b + 1)) ≡ blocks_of p = omega arith in
    let f = from_facts (is_dosed_in m p) (blocks_of p - (b + 1)) (b + 1) in
    record {
      behind = omega (arith, f.from);
      within = omega (arith, f.within);
      none = λ k h q. f.before k (omega arith) q;
      dosed = λ h. f.here (omega arith);
    }

-- a dosed period behind block b is the next one, or behind that
pub next_le : (m : Bool) (p : List ℕ) (b c : ℕ) → b < c → c < blocks_of p → is_dosed_in m p c ≡ true → next_dosed m p b ≤ c
next_le m p b c l q t =
    ⊎_elim
    (λ h. h)
    (λ (h : c < next_dosed m p b). absurd (true_not_false t ((next_is m p b (omega arith)).none c l h)))
    (le_or_lt (next_dosed m p b) c)

-- the answer of a search behind block b
pub next_found : (m : Bool) (p : List ℕ) (b : ℕ) → b < blocks_of p → (r : Option ℕ) →
    MatchOption r ((k : ℕ) → b + 1 ≤ k → k < blocks_of p → is_dosed_in m p k ≡ false)
    (λ c. (b + 1 ≤ c) × (c < blocks_of p) × (is_dosed_in m p c ≡ true) × ((k : ℕ) → b + 1 ≤ k → k < c → is_dosed_in m p k ≡ false)) →
    MatchOption r (blocks_of p ≤ next_dosed m p b) (λ c. (c < blocks_of p) × (c ≡ next_dosed m p b))
unfolding next_dosed
next_found m p b l None none =
    omega (arith, from_none (is_dosed_in m p) (blocks_of p - (b + 1)) (b + 1) (λ k x y. none k x (omega arith)))
next_found m p b l (Some c) f =
    (f.1, sym (from_hit (is_dosed_in m p) (blocks_of p - (b + 1)) (b + 1) c f.0 (omega (arith, f.1)) f.3 f.2))
