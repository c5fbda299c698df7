-- Which dates a set has: by the periods that are told, and by where choice 4 stops. Assumes nothing.
use Prim.Native.Nat.{ℕ, zero, suc, ◌≤◌, ◌<◌}
use mathlib.Core.Bool.{Bool, true, false, cond, ◌&&◌}
use mathlib.Core.List.{List}
use mathlib.Core.Logic.{◌⊎◌, inl, inr, ⊎_elim}
use mathlib.Core.Path.{◌≡◌}
use native.Mathlib.Omega.{arith}
use lib.Dec.{leb}
use borrow.Author.Tests.{leb-true, le-leb}
use Rattle.below.proofs.Search.{any_hit, any_some}
use Rattle.below.proofs.Tests.{bool_cases, bool_iff, and_both, both_and, le_or_lt}
use Rattle.below.proofs.Total.{largest_bounds}
use Rattle.below.specs.Below.{any_below, largest_below}
use Rattle.need.specs.Need.{fixed_or_mixed, choice_of, stops_at, stop_day_by, has_stop_by, stop_day, has_stop}
use Rattle.need.specs.Telling.{is_set, Tells}
use Rattle.plan.specs.Fields.{last_of}
use Rattle.plan.specs.Periods.{blocks_of, block_at, is_period, class_of}
use Rattle.supply.specs.Dates.{ends_from, has_interval, is_needed}
use Rattle.supply.specs.Code.Asking.{ranges_with}

-- some term is as large as the largest, unless that is 0
largest_some : (f : ℕ → ℕ) (least n : ℕ) → least ≤ largest_below n f → (least ≡ 0) ⊎ ((k : ℕ) × (k < n) × (least ≤ f k))
unfolding largest_below
largest_some f least zero l = inl (omega arith)
largest_some f least (suc n) l =
    ⊎_elim
    (λ (h : least ≤ f n). inr (n, omega arith, h))
    (λ (h : f n < least).
    ⊎_elim (λ z. inl z) (λ z. inr (z.0, omega (arith, z.1), z.2)) (largest_some f least n (omega arith)))
    (le_or_lt least (f n))

-- of the blocks that stop some ends on or after the start exactly where the last of them does
module _ (stops : ℕ → Bool) (last : ℕ → ℕ) (start n : ℕ) where
  abbrev last_if : ℕ → ℕ
  last_if k = cond (stops k) (last k) 0

  last_of_lem : {k : ℕ} → stops k ≡ true → last_if k ≡ last k
  last_of_lem t = rw t

  one_ends : (k : ℕ) → k < n → stops k ≡ true → start ≤ last k → any_below n (λ k. stops k && leb start (last k)) ≡ true
  one_ends k l t h = any_hit (λ k. stops k && leb start (last k)) l (both_and t (le-leb start (last k) h))

  pub some_ends : any_below n (λ k. stops k && leb start (last k)) ≡ (any_below n stops && leb start (largest_below n last_if))
  some_ends =
      bool_iff (any_below n (λ k. stops k && leb start (last k))) (any_below n stops && leb start (largest_below n last_if))
      (λ e.
      let s = any_some (λ k. stops k && leb start (last k)) n e in
      let b = and_both (stops s.0) (leb start (last s.0)) s.2 in
      both_and (any_hit stops s.1 b.0)
      (le-leb start (largest_below n last_if) (omega (arith, leb-true start (last s.0) b.1, last_of_lem {k = s.0} b.0, largest_bounds last_if n s.0 s.1))))
      (λ e.
      let b = and_both (any_below n stops) (leb start (largest_below n last_if)) e in
      let any = any_some stops n b.0 in
      ⊎_elim
      (λ (z : start ≡ 0). one_ends any.0 any.1 any.2 (omega arith))
      (λ z.
      ⊎_elim
      (λ (t : stops z.0 ≡ true). one_ends z.0 z.1 t (omega (arith, z.2, last_of_lem {k = z.0} t)))
      (λ (t : stops z.0 ≡ false). let o : last_if z.0 ≡ 0 = rw t in one_ends any.0 any.1 any.2 (omega (arith, z.2, o)))
      (bool_cases (stops z.0)))
      (largest_some last_if start n (leb-true start (largest_below n last_if) b.1)))

-- a need or mixed period ends on or after the start where choice 4 does not stop before it
pub needed_stop : (start : ℕ) (p : List ℕ) → is_needed start p ≡ (has_stop 4 p && leb start (stop_day 4 p))
unfolding is_needed has_stop_by stop_day_by choice_of
needed_stop start p = some_ends (stops_at 4 (class_of p) p) (λ b. last_of (block_at p b)) start (blocks_of p)

-- the bits of choice 1 tell which of the plan's periods are fixed or mixed
pub ranges_told : (start : ℕ) {p : List ℕ} {bits : ℕ} → Tells 1 p bits → (b : ℕ) → b < blocks_of p → ranges_with start (is_set bits b) p b ≡ (ends_from fixed_or_mixed start p b && has_interval p b)
unfolding choice_of
ranges_told start {p} k b l =
    ⊎_elim (λ (t : is_period p b ≡ true). rw (k.each b l t)) (λ (t : is_period p b ≡ false). rw t) (bool_cases (is_period p b))
