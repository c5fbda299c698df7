-- A day's four sums drop nothing where no amount is out of its range. Assumes nothing.
use Rattle.std.proofs.Common.{◌≡◌, ℕ, ◌+◌, ◌%◌, ◌^◌, ◌<◌, ◌≤◌, min, Bool, true, false, cond, List, [], ◌∷◌, ◌∙◌, ⊎_elim, arith}
use mathlib.Core.Bool.{beq}
use Rattle.below.proofs.Tests.{bool_cases, and_both}
use Rattle.below.proofs.Total.{sum_le}
use Rattle.plan.specs.Fields.{is_marked, upper_of, header_of}
use Rattle.plan.specs.Periods.{blocks_of, block_at, is_period, doses_of, dose_in}
use Rattle.plan.specs.declared.Dose.{Dose}
use Rattle.doses.specs.Doses.{covers, position_of, applies, doses_of_period, doses_on, added, added_all, day_sums, share, low_of, exact_sums}
use Rattle.below.specs.Lists.{sum_over}
use Rattle.below.proofs.Lists.{sum_pick, sum_join}

-- the four sums from a, b, c and d on, where they fit
module _ (a b c d : ℕ) (xs : List Dose) where
  pub record Fit : Type 0 where
    pub plain_low : a + sum_over (share false low_of) xs < 2 ^ 64
    pub plain_upper : b + sum_over (share false upper_of) xs < 2 ^ 64
    pub need_low : c + sum_over (share true low_of) xs < 2 ^ 64
    pub need_upper : d + sum_over (share true upper_of) xs < 2 ^ 64

abbrev rows : ℕ → ℕ → ℕ → ℕ → List (List ℕ)
rows a b c d = (a ∷ b ∷ []) ∷ (c ∷ d ∷ []) ∷ []

kept : (n : ℕ) → n < 2 ^ 64 → n % 2 ^ 64 ≡ n
kept n h = omega arith

same_rows : {a b c d e f g h : ℕ} → a ≡ e → b ≡ f → c ≡ g → d ≡ h → rows a b c d ≡ rows e f g h
same_rows p q r s = rw (p, q, r, s)

pub sums_exact : (a b c d : ℕ) (xs : List Dose) → Fit a b c d xs →
    added_all (rows a b c d) xs ≡
    rows (a + sum_over (share false low_of) xs) (b + sum_over (share false upper_of) xs) (c + sum_over (share true low_of) xs) (d + sum_over (share true upper_of) xs)
unfolding added_all added sum_over
sums_exact a b c d [] f = same_rows (omega arith) (omega arith) (omega arith) (omega arith)
sums_exact a b c d (x ∷ xs) f =
    ⊎_elim
    (λ (t : is_marked x ≡ true).
    let pl = rw t at f.plain_low in
    let pu = rw t at f.plain_upper in
    let nl = rw t at f.need_low in
    let nu = rw t at f.need_upper in
    rw (t, kept (c + x.low) (omega arith), kept (d + upper_of x) (omega arith))
    (sums_exact a b (c + x.low) (d + upper_of x) xs
    (record { plain_low = omega arith; plain_upper = omega arith; need_low = omega arith; need_upper = omega arith }) ∙
    same_rows (omega arith) (omega arith) (omega arith) (omega arith)))
    (λ (t : is_marked x ≡ false).
    let pl = rw t at f.plain_low in
    let pu = rw t at f.plain_upper in
    let nl = rw t at f.need_low in
    let nu = rw t at f.need_upper in
    rw (t, kept (a + x.low) (omega arith), kept (b + upper_of x) (omega arith))
    (sums_exact (a + x.low) (b + upper_of x) c d xs
    (record { plain_low = omega arith; plain_upper = omega arith; need_low = omega arith; need_upper = omega arith }) ∙
    same_rows (omega arith) (omega arith) (omega arith) (omega arith)))
    (bool_cases (is_marked x))

-- a plan whose periods have few doses, and those in their ranges: what rules 1 to 4 give
pub record InRange (p : List ℕ) : Type 0 where
  pub few : (b : ℕ) → b < blocks_of p → is_period p b ≡ true → doses_of p b ≤ 1280
  pub low : (b j : ℕ) → b < blocks_of p → is_period p b ≡ true → j < doses_of p b → (dose_in p b j).low ≤ 9999999999
  pub upper : (b j : ℕ) → b < blocks_of p → is_period p b ≡ true → j < doses_of p b → upper_of (dose_in p b j) ≤ 9999999999

module _ (p : List ℕ) (d : ℕ) (ok : InRange p) (g : Dose → ℕ) (small : (x : Dose) → x.low ≤ 9999999999 → upper_of x ≤ 9999999999 → g x ≤ 9999999999) where
  period_small : (b : ℕ) → b < blocks_of p → is_period p b ≡ true → sum_over g (doses_of_period p d b) ≤ 12799999998720
  unfolding doses_of_period
  period_small b l e =
      rw (sum_pick g (doses_of p b) (λ j. applies (position_of (header_of (block_at p b)) d) (dose_in p b j)) (dose_in p b))
      (omega (
        arith,
        ok.few b l e,
        sum_le (λ j. cond (applies (position_of (header_of (block_at p b)) d) (dose_in p b j)) (g (dose_in p b j)) 0) 9999999999 (doses_of p b) (λ j h. at_most (applies (position_of (header_of (block_at p b)) d) (dose_in p b j)) (g (dose_in p b j)) (small (dose_in p b j) (ok.low b j l e h) (ok.upper b j l e h))),
      ))
    where
      at_most : (t : Bool) (n : ℕ) → n ≤ 9999999999 → cond t n 0 ≤ 9999999999
      at_most true n h = h
      at_most false n h = omega arith

  block_small : (b : ℕ) → b < min (blocks_of p) 64 → sum_over g (cond (covers p d b) (doses_of_period p d b) []) ≤ 12799999998720
  unfolding sum_over
  block_small b l =
      ⊎_elim
      (λ (t : covers p d b ≡ true). rw t (period_small b (omega arith) (and_both _ _ t).0))
      (λ (t : covers p d b ≡ false). rw t (omega arith))
      (bool_cases (covers p d b))

  -- 64 periods of 1,280 doses at the most
  pub day_small : sum_over g (doses_on p d) ≤ 819199999918080
  unfolding doses_on
  day_small =
      rw (sum_join g (min (blocks_of p) 64) (λ b. cond (covers p d b) (doses_of_period p d b) []))
      (omega (arith, sum_le (λ b. sum_over g (cond (covers p d b) (doses_of_period p d b) [])) 12799999998720 (min (blocks_of p) 64) block_small))

share_in : (m : Bool) (g : Dose → ℕ) (x : Dose) → g x ≤ 9999999999 → share m g x ≤ 9999999999
share_in m g x h =
    ⊎_elim (λ (t : beq (is_marked x) m ≡ true). rw t h) (λ t. rw t (omega arith)) (bool_cases (beq (is_marked x) m))

-- nothing is dropped
pub day_exact : (p : List ℕ) (d : ℕ) → InRange p → day_sums p d ≡ exact_sums (doses_on p d)
unfolding day_sums exact_sums
day_exact p d ok =
    let xs = doses_on p d in
    let pl = day_small p d ok (share false low_of) (λ x h k. share_in false low_of x h) in
    let pu = day_small p d ok (share false upper_of) (λ x h k. share_in false upper_of x k) in
    let nl = day_small p d ok (share true low_of) (λ x h k. share_in true low_of x h) in
    let nu = day_small p d ok (share true upper_of) (λ x h k. share_in true upper_of x k) in
    sums_exact 0 0 0 0 xs
    (record { plain_low = omega arith; plain_upper = omega arith; need_low = omega arith; need_upper = omega arith }) ∙
    same_rows (omega arith) (omega arith) (omega arith) (omega arith)
