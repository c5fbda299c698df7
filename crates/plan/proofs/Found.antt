-- What `find` and `any` find among the numbers 0 to n - 1. Assumes nothing.
use Rattle.std.proofs.Common.{◌≡◌, ℕ, zero, suc, ◌+◌, ◌<◌, ◌≤◌, Bool, true, false, ◌||◌, sym, ◌∙◌, arith}
use Rattle.std.specs.Prelude.{Option, Some, None, MatchOption, unwrap_or}
use Rattle.std.specs.List.{list_any, range_with_len}
use Rattle.below.specs.Below.{first_below, any_below}
use Rattle.below.proofs.Search.{first_is, first_end, any_zero, any_more, any_same}
use Rattle.plan.proofs.Marks.{any_split}

pub first_found : (p : ℕ → Bool) (n : ℕ) (r : Option ℕ) →
    MatchOption r ((k : ℕ) → 0 ≤ k → k < n → p k ≡ false) (λ i. (0 ≤ i) × (i < n) × (p i ≡ true) × ((k : ℕ) → 0 ≤ k → k < i → p k ≡ false)) →
    unwrap_or r n ≡ first_below n p
first_found p n None h = sym (first_end p {n = n} {i = n} (omega arith) (λ k l. h k (omega arith) l))
first_found p n (Some i) h = sym (first_is p h.1 (λ k l. h.3 k (omega arith) l) h.2)

-- the first of some numbers has the test, or one of the others
any_first : (q : ℕ → Bool) (n : ℕ) → any_below (1 + n) q ≡ (q 0 || any_below n (λ k. q (1 + k)))
any_first q n =
    let e : any_below 1 q ≡ q 0 = any_more q 0 ∙ rw (any_zero q) in
    any_split q 1 n ∙ rw e

any_from : (p : ℕ → Bool) (a n : ℕ) → list_any p (range_with_len a n) ≡ any_below n (λ k. p (a + k))
any_from p a zero = sym (any_zero _)
any_from p a (suc n) =
    let q : ℕ → Bool = λ k. p (a + k) in
    let e : suc n ≡ 1 + n = omega arith in
    let z : a + 0 ≡ a = omega arith in
    let more : any_below n (λ k. p (a + 1 + k)) ≡ any_below n (λ k. q (1 + k)) =
    any_same (λ k. p (a + 1 + k)) (λ k. q (1 + k)) n (λ k l. let m : a + 1 + k ≡ a + (1 + k) = omega arith in rw m) in
    rw (any_from p (a + 1) n, more, e, any_first q n, z)

pub any_found : (p : ℕ → Bool) (n : ℕ) → list_any p (range_with_len 0 n) ≡ any_below n p
any_found p n = any_from p 0 n ∙ any_same (λ k. p (0 + k)) p n (λ k l. let z : 0 + k ≡ k = omega arith in rw z)
