-- The walk over the days, and what it means: the pack is the needs of the covered days and the rest; the next day needs more
-- than the rest, or the stop day is reached; and no more days could be covered. Assumes nothing.
use Prim.Native.Nat.{ℕ, zero, suc, ◌+◌, ◌-◌, ◌≤◌, ◌<◌}
use mathlib.Core.Bool.{cond}
use mathlib.Core.Logic.{◌⊎◌, inl, inr, ⊎_elim}
use mathlib.Core.Path.{◌≡◌, ap, ◌∙◌}
use native.Mathlib.Nat.{eq-or-lt_of_le}
use native.Mathlib.Omega.{arith}
use lib.Dec.{eqb, ltb}
use borrow.Author.Tests.{lt-ltb, le-ltb, ltb-true, ltb-false}
use Rattle.below.proofs.Search.{NoneBelow, none_zero, first_is, first_end, first_facts}
use Rattle.below.proofs.Tests.{le_or_lt}
use Rattle.below.proofs.Total.{sum_zero, sum_more, sum_plus, sum_same}
use Rattle.day.specs.Days.{last_number, open_mark}
use Rattle.supply.specs.Covered.{summed, covered}
use Rattle.supply.specs.Supply.{lasting_of}

module _ (need : ℕ → ℕ) (start : ℕ) where
  -- a day more
  pub summed_zero : summed need start 0 ≡ 0
  summed_zero = sum_zero (λ i. need (start + i))

  pub summed_more : (n : ℕ) → summed need start (n + 1) ≡ summed need start n + need (start + n)
  summed_more n = sum_more (λ i. need (start + i)) n

  -- a single day
  pub summed_one : summed need start 1 ≡ need start
  summed_one = let e : start + 0 ≡ start = omega arith in let n : need (start + 0) ≡ need start = rw e in omega (arith, summed_zero, summed_more 0)

  -- n days and then m more
  pub summed_plus : (n m : ℕ) → summed need start (n + m) ≡ summed need start n + summed need (start + n) m
  summed_plus n m =
      sum_plus (λ i. need (start + i)) n m ∙
      ap (λ (x : ℕ). summed need start n + x) (sum_same _ _ m (λ i l. let e : start + (n + i) ≡ start + n + i = omega arith in rw e))

  summed_rises : (m n : ℕ) → summed need start m ≤ summed need start (m + n)
  summed_rises m zero = let e : m + 0 ≡ m = omega arith in rw e (omega arith)
  summed_rises m (suc n) =
      let e : m + suc n ≡ m + n + 1 = omega arith in
      rw e (omega (arith, summed_rises m n, summed_more (m + n)))

  pub summed_le : {m n : ℕ} → m ≤ n → summed need start m ≤ summed need start n
  summed_le {m} {n} l = let e : m + (n - m) ≡ n = omega arith in rw e at (summed_rises m (n - m))

  -- what the walk has shown when it stands at day n with a rest
  pub record Walked (k pack n rest : ℕ) : Type 0 where
    pub within : n ≤ k
    pub sum : pack ≡ summed need start n + rest
    pub none : NoneBelow (λ m. ltb pack (summed need start (m + 1))) n

  pub walk_begins : (k pack : ℕ) → Walked k pack 0 pack
  walk_begins k pack = record { within = omega arith; sum = omega (arith, summed_zero); none = none_zero _ }

  module _ {k pack n rest : ℕ} (w : Walked k pack n rest) where
    pub walk_stops : n < k → rest < need (start + n) → covered need start k pack ≡ n
    unfolding covered
    walk_stops l h =
        first_is (λ m. ltb pack (summed need start (m + 1))) l w.none
        (lt-ltb pack (summed need start (n + 1)) (omega (arith, w.sum, summed_more n)))

    pub walk_ends : k ≤ n → covered need start k pack ≡ n
    unfolding covered
    walk_ends l =
        first_end (λ m. ltb pack (summed need start (m + 1))) l w.none ∙ omega (arith, w.within)

  -- what the count of days means
  pub record Supplied (k pack n rest : ℕ) : Type 0 where
    pub within : n ≤ k
    pub sum : pack ≡ summed need start n + rest
    pub stopped : (rest < need (start + n)) ⊎ (n ≡ k)
    pub greatest : (m : ℕ) → m ≤ k → summed need start m ≤ pack → m ≤ n

  fits : (k pack : ℕ) → summed need start (covered need start k pack) ≤ pack
  unfolding covered
  fits k pack =
      let f = first_facts (λ m. ltb pack (summed need start (m + 1))) k in
      let n = covered need start k pack in
      ⊎_elim
      (λ (l : n ≤ 0). let e : n ≡ 0 = omega arith in rw e (omega (arith, summed_zero)))
      (λ (l : 0 < n).
      let e : n - 1 + 1 ≡ n = omega arith in
      rw e at (ltb-false pack (summed need start (n - 1 + 1)) (f.before (n - 1) (omega arith))))
      (le_or_lt n 0)

  pub supplied : (k pack : ℕ) → Supplied k pack (covered need start k pack) (pack - summed need start (covered need start k pack))
  unfolding covered
  supplied k pack =
      let f = first_facts (λ m. ltb pack (summed need start (m + 1))) k in
      let n = covered need start k pack in
      let fit = fits k pack in
      record {
        within = f.within;
        sum = omega arith;
        stopped =
            ⊎_elim
            (λ (e : n ≡ k). inr e)
            (λ (l : n < k). inl (omega (arith, ltb-true pack (summed need start (n + 1)) (f.here l), summed_more n)))
            (eq-or-lt_of_le f.within);
        greatest =
            λ m h g.
            ⊎_elim
            (λ l. l)
            (λ (l : n < m).
            absurd (omega (arith, ltb-true pack (summed need start (n + 1)) (f.here (omega arith)), summed_le {m = n + 1} {n = m} (omega arith))))
            (le_or_lt m n);
      }

  -- two answers that mean it are one
  pub supplied_one : {k pack m n r s : ℕ} → Supplied k pack m r → Supplied k pack n s → (m ≡ n) × (r ≡ s)
  supplied_one {k} {pack} {m} {n} {r} {s} a b =
      let x : m ≤ n = b.greatest m a.within (omega (arith, a.sum)) in
      let y : n ≤ m = a.greatest n b.within (omega (arith, b.sum)) in
      let e : m ≡ n = omega arith in
      let t = b.sum in
      (e, let q : summed need start m ≡ summed need start n = rw e in omega (arith, a.sum, b.sum))

  -- the answer, by where the walk stood
  left : {k pack n rest : ℕ} → Walked k pack n rest → pack - summed need start n ≡ rest
  left w = omega (arith, w.sum)

  module _ (stop : ℕ) {pack n rest last : ℕ} (w : Walked (stop + 1 - start) pack n rest) (l : last ≡ cond (eqb n 0) open_mark (start + n - 1)) where
    pub lasting_short : n < stop + 1 - start → rest < need (start + n) →
        record { days = n; last = last; rest = rest; reason = 1 } ≡ lasting_of need start stop pack
    unfolding lasting_of
    lasting_short h s = rw (walk_stops w h s, left w, l, lt-ltb n (stop + 1 - start) h)

    pub lasting_long : {reason : ℕ} → stop + 1 - start ≤ n → reason ≡ cond (eqb stop last_number) 3 2 →
        record { days = n; last = last; rest = rest; reason = reason } ≡ lasting_of need start stop pack
    unfolding lasting_of
    lasting_long h r = rw (walk_ends w h, left w, l, r, le-ltb n (stop + 1 - start) h)
