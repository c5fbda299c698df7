-- What the walk counts on holds of every plan that is accepted. Assumes nothing.
use Prim.Native.Nat.{ℕ, zero, suc, ◌-◌, ◌*◌, ◌%◌, ◌≤◌, ◌<◌}
use mathlib.Core.Bool.{Bool, true, false, not, ◌||◌}
use mathlib.Core.List.{List, []}
use mathlib.Core.Logic.{⊎_elim}
use mathlib.Core.Path.{◌≡◌, refl, sym, ◌∙◌}
use native.Mathlib.Nat.{eq-or-lt_of_le}
use native.Mathlib.Omega.{arith}
use lib.Dec.{eqb, leb, ltb}
use lib.ListN.{length}
use lib.Seq.{drop-length, take-nil}
use borrow.Author.Tests.{ltb-false, lt-ltb, leb-true, le-leb, eqb-true, ne_eqb, not-false}
use Rattle.below.proofs.Search.{any_not}
use Rattle.below.proofs.Tests.{and_both, or_neither, not_true_false, true_not_false}
use Rattle.block.proofs.Numbers.{number_past}
use Rattle.doses.specs.Doses.{covers}
use Rattle.form.proofs.Formed.{dated}
use Rattle.need.proofs.Bound.{in_range}
use Rattle.need.proofs.Rows.{chosen_in}
use Rattle.period.specs.Doses.{falls, dose_breaks}
use Rattle.period.specs.Period.{limit_of, period_breaks}
use Rattle.plan.specs.Fields.{interval_of, first_of, last_of}
use Rattle.plan.specs.Periods.{blocks_of, block_at, is_period, doses_of, dose_in, class_of}
use Rattle.plan.specs.Classes.{same_class}
use Rattle.plan.specs.declared.Class.{Class}
use Rattle.plan.specs.declared.Class.TheVariants.{Empty, Fixed, Need}
use Rattle.verdict.proofs.Exactly.{NoRuleBroken, formed_of}
use Rattle.verdict.proofs.Lowest.{row_period, row_16}
use Rattle.verdict.specs.Coverage.{may_share, shares_with, shares}
use Rattle.verdict.specs.Verdict.{plan_limit}
use Rattle.supply.specs.Code.Standing.{Sorted, InRound, Orderly}

-- of two periods that may share a day one is need, and the other is not
abbrev is_need : Class → Bool
is_need x = same_class x Need

mixed : (x y : Class) → may_share x y ≡ true → is_need x ≡ not (is_need y)
mixed Need Fixed h = refl
mixed Need Empty h = refl
mixed Fixed Need h = refl
mixed Empty Need h = refl
mixed x y h = absurd (true_not_false h refl)

-- so of three periods two may not
no_three : (x y z : Bool) → x ≡ not y → x ≡ not z → y ≡ not z → ⊥
no_three x true true a b c = true_not_false refl c
no_three x true false a b c = true_not_false b a
no_three x false true a b c = true_not_false a b
no_three x false false a b c = true_not_false c refl

-- what it says that the period at block b has day d
record Covering (p : List ℕ) (d b : ℕ) : Type 0 where
  period : is_period p b ≡ true
  begun : first_of (block_at p b) ≤ d
  unended : d ≤ last_of (block_at p b)

covering : (p : List ℕ) (d b : ℕ) → covers p d b ≡ true → Covering p d b
covering p d b h =
    let x = and_both (is_period p b) _ h in
    let z = and_both (leb (first_of (block_at p b)) d) _ x.1 in
    record { period = x.0; begun = leb-true _ _ z.0; unended = leb-true _ _ z.1 }

-- a period that has a day is one, and has begun on it
pub covers_period : (p : List ℕ) (d b : ℕ) → covers p d b ≡ true → is_period p b ≡ true
covers_period p d b h = (covering p d b h).period

pub covers_begun : (p : List ℕ) (d b : ℕ) → covers p d b ≡ true → first_of (block_at p b) ≤ d
covers_begun p d b h = (covering p d b h).begun

module _ (p : List ℕ) (ok : NoRuleBroken p) where
  short : length p ≤ 16384
  short = ltb-false _ _ (or_neither (eqb (length p) 0 || not (eqb (length p % 512) 0)) (ltb plan_limit (length p)) ok.long).1

  whole : length p % 512 ≡ 0
  whole = eqb-true _ _ (not-false _ (or_neither (eqb (length p) 0) _ (or_neither (eqb (length p) 0 || not (eqb (length p % 512) 0)) (ltb plan_limit (length p)) ok.long).0).1)

  -- past all blocks there is nothing
  ends : interval_of (block_at p (blocks_of p)) ≡ 0
  unfolding block_at
  ends =
      let e : blocks_of p * 512 ≡ length p = omega (arith, whole) in
      let n : block_at p (blocks_of p) ≡ [] = rw (e, drop-length p, take-nil {A = ℕ} 512) in
      rw n (number_past 2 [] 2 (omega arith))

  module _ (b : ℕ) (l : b < blocks_of p) (e : is_period p b ≡ true) where
    -- rule 7 at one dose
    unbroken : (j : ℕ) → j < doses_of p b → dose_breaks (limit_of (block_at p b)) 7 (dose_in p b) j ≡ false
    unfolding period_breaks
    unbroken j q =
        let row = sym (row_period p {k = 7} (omega arith) (omega arith) b) ∙ ok.none 7 b (omega arith) l in
        any_not (dose_breaks (limit_of (block_at p b)) 7 (dose_in p b)) (rw e at row) j q

    next : (j : ℕ) → suc j < doses_of p b → (dose_in p b j).day ≤ (dose_in p b (suc j)).day
    unfolding dose_breaks
    next j q =
        let x = (or_neither (falls (dose_in p b) (suc j)) _ (unbroken (suc j) q)).0 in
        let m : suc j - 1 ≡ j = omega arith in
        ltb-false _ _ (rw (lt-ltb 0 (suc j) (omega arith), m) at x)

    -- in an iterated period no day number passes the interval
    pub in_round : 0 < interval_of (block_at p b) → InRound p b
    unfolding dose_breaks limit_of
    in_round i j q =
        let x = (or_neither (falls (dose_in p b) j) _ (unbroken j q)).1 in
        ltb-false _ _ (rw (ne_eqb (interval_of (block_at p b)) 0 (λ z. omega arith), lt-ltb 0 (interval_of (block_at p b)) i) at x)

    sorted : Sorted p b
    sorted i zero a q = let z : i ≡ 0 = omega arith in rw z (omega arith)
    sorted i (suc j) a q =
        ⊎_elim
        (λ (z : i ≡ suc j). rw z (omega arith))
        (λ (z : i < suc j). omega (arith, sorted i j (omega arith) (omega arith), next j q))
        (eq-or-lt_of_le a)

  -- rule 16: two periods that share a day may
  shared : (d b c : ℕ) → b < c → c < blocks_of p → covers p d b ≡ true → covers p d c ≡ true → is_need (class_of p b) ≡ not (is_need (class_of p c))
  unfolding shares shares_with
  shared d b c l q h g =
      let x = covering p d b h in
      let y = covering p d c g in
      let row = rw y.period at (sym (row_16 p c) ∙ ok.none 16 c (omega arith) q) in
      let n = any_not (shares_with p c) row b l in
      let i = le-leb (first_of (block_at p b)) (last_of (block_at p c)) (omega (arith, x.begun, y.unended)) in
      let j = le-leb (first_of (block_at p c)) (last_of (block_at p b)) (omega (arith, y.begun, x.unended)) in
      mixed (class_of p b) (class_of p c) (not-false _ (rw (x.period, i, j) at n))

  two : (d a b c : ℕ) → a < b → b < c → c < blocks_of p → covers p d a ≡ true → covers p d b ≡ true → covers p d c ≡ false
  two d a b c l m q h g =
      not_true_false (covers p d c)
      (λ f. no_three (is_need (class_of p a)) (is_need (class_of p b)) (is_need (class_of p c)) (shared d a b l (omega arith) h g) (shared d a c (omega arith) q h f) (shared d b c m q g f))

  pub orderly : (choice : ℕ) → Orderly choice p
  orderly choice =
      let r = in_range p ok in
      record {
        few = omega (arith, short);
        ends = ends;
        dated = dated (formed_of p ok);
        sorted = sorted;
        small = λ b l e. record { few = r.few b l e; each = λ j h. chosen_in choice (dose_in p b j) 9999999999 (r.low b j l e h) (r.upper b j l e h) };
        rounds = in_round;
        two = two;
      }
