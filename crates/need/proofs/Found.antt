-- The stop day: a turn of the loop that finds it. Assumes nothing.
use Rattle.std.proofs.Common.{◌≡◌, ℕ, zero, suc, ◌+◌, ◌<◌, ◌≤◌, max, Bool, true, false, cond, sym, refl, ◌∙◌, arith}
use mathlib.Core.Bool.{or-false}
use Rattle.below.proofs.Search.{any_zero, any_more}
use Rattle.below.proofs.Tests.{or_true}
use Rattle.below.proofs.Total.{largest_zero, largest_more}
use Rattle.below.specs.Below.{any_below, largest_below}

-- some of the first b blocks stop, and the largest last day of those that do
module _ (stops : ℕ → Bool) (last : ℕ → ℕ) where
  abbrev pub last_if : ℕ → ℕ
  last_if k = cond (stops k) (last k) 0

  pub record Found (b : ℕ) (any : Bool) (day : ℕ) : Type 0 where
    pub any_is : any ≡ any_below b stops
    pub day_is : day ≡ largest_below b last_if

  pub found_none : Found 0 false 0
  found_none = record { any_is = sym (any_zero stops); day_is = sym (largest_zero last_if) }

  module _ {b : ℕ} {any : Bool} {day : ℕ} (f : Found b any day) where
    pub found_hit : {l next : ℕ} → stops b ≡ true → l ≡ last b → next ≡ max day l → Found (b + 1) true next
    found_hit h e g =
        let z : last_if b ≡ last b = rw h in
        record {
          any_is = sym (any_more stops b ∙ rw (h, or_true));
          day_is = rw (largest_more last_if b, z, ← e, ← f.day_is) g;
        }

    pub found_miss : stops b ≡ false → Found (b + 1) any day
    found_miss h =
        let z : last_if b ≡ 0 = rw h in
        record {
          any_is = f.any_is ∙ sym (any_more stops b ∙ rw (h, or-false));
          day_is = omega (arith, f.day_is, largest_more last_if b, z);
        }

    -- where no block further on stops, they are found for all
    pub found_all : (n : ℕ) → ((k : ℕ) → b ≤ k → k < b + n → stops k ≡ false) → Found (b + n) any day
    found_all zero h = let e : b + 0 ≡ b = omega arith in rw e f
    found_all (suc n) h =
        let g = found_all n (λ k l m. h k l (omega arith)) in
        let e : b + suc n ≡ b + n + 1 = omega arith in
        let s = h (b + n) (omega arith) (omega arith) in
        let z : last_if (b + n) ≡ 0 = rw s in
        rw e
        (record {
          any_is = g.any_is ∙ sym (any_more stops (b + n) ∙ rw (s, or-false));
          day_is = omega (arith, g.day_is, largest_more last_if (b + n), z);
        })

-- equal terms have one largest
pub largest_same : {f g : ℕ → ℕ} (n : ℕ) → ((b : ℕ) → b < n → f b ≡ g b) → largest_below n f ≡ largest_below n g
unfolding largest_below
largest_same zero h = refl
largest_same (suc n) h = rw (largest_same n (λ b l. h b (omega arith)), h n (omega arith))
