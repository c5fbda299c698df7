-- The lowest of rules 7, 9, 11 and 13, by a test of each. Assumes nothing.
use Prim.Native.Nat.{ℕ, ◌+◌, ◌-◌, ◌≤◌, ◌<◌}
use mathlib.Core.Bool.{Bool, true, false, cond}
use mathlib.Core.Logic.{⊎_elim}
use mathlib.Core.Path.{◌≡◌, refl, ◌∙◌}
use native.Mathlib.Omega.{arith}
use lib.Dec.{eqb}
use borrow.Author.Tests.{eqb-true}
use Rattle.below.specs.Below.{first_from, first_below}
use Rattle.below.proofs.Search.{first_facts}
use Rattle.below.proofs.Tests.{bool_cases}
use Rattle.period.specs.Code.Turn.{lowest}

-- the test of rule k, of those given; rules 8, 10 and 12 have none
abbrev pub test_of : Bool → Bool → Bool → Bool → ℕ → Bool
test_of t7 t9 t11 t13 k =
    cond (eqb k 7) t7 (cond (eqb k 9) t9 (cond (eqb k 11) t11 (cond (eqb k 13) t13 false)))

-- m is the least number from 7 on that has the test, or 14
pub record Lowest (test : ℕ → Bool) (m : ℕ) : Type 0 where
  pub least : 7 ≤ m
  pub most : m ≤ 14
  pub before : (k : ℕ) → 7 ≤ k → k < m → test k ≡ false
  pub here : m < 14 → test m ≡ true

as_first : (t7 t9 t11 t13 : Bool) → lowest t7 t9 t11 t13 ≡ 7 + first_below 7 (λ i. test_of t7 t9 t11 t13 (7 + i))
unfolding first_below first_from
as_first true t9 t11 t13 = refl
as_first false true t11 t13 = refl
as_first false false true t13 = refl
as_first false false false true = refl
as_first false false false false = refl

pub lowest_is : (t7 t9 t11 t13 : Bool) → Lowest (test_of t7 t9 t11 t13) (lowest t7 t9 t11 t13)
lowest_is t7 t9 t11 t13 =
    let test = test_of t7 t9 t11 t13 in
    let first = first_below 7 (λ i. test (7 + i)) in
    let f = first_facts (λ (i : ℕ). test (7 + i)) 7 in
    rw (as_first t7 t9 t11 t13) (record {
      least = omega arith;
      most = omega (arith, f.within);
      before = λ k a b. let e : 7 + (k - 7) ≡ k = omega arith in rw e at (f.before (k - 7) (omega arith));
      here = λ l. f.here (omega arith);
    })

-- tests that agree where they are asked
module _ (t7 t9 t11 t13 u7 u9 u11 u13 : Bool) where
  pub same_tests : (k : ℕ) → (k ≡ 7 → t7 ≡ u7) → (k ≡ 9 → t9 ≡ u9) → (k ≡ 11 → t11 ≡ u11) → (k ≡ 13 → t13 ≡ u13) → test_of t7 t9 t11 t13 k ≡ test_of u7 u9 u11 u13 k
  same_tests k h7 h9 h11 h13 =
      ⊎_elim (λ (e : eqb k 7 ≡ true). rw e (h7 (eqb-true k 7 e)))
      (λ n7. rw n7 (⊎_elim (λ (e : eqb k 9 ≡ true). rw e (h9 (eqb-true k 9 e)))
      (λ n9. rw n9 (⊎_elim (λ (e : eqb k 11 ≡ true). rw e (h11 (eqb-true k 11 e)))
      (λ n11. rw n11 (⊎_elim (λ (e : eqb k 13 ≡ true). rw e (h13 (eqb-true k 13 e)))
      (λ n13. rw n13)
      (bool_cases (eqb k 13))))
      (bool_cases (eqb k 11))))
      (bool_cases (eqb k 9))))
      (bool_cases (eqb k 7))

no_choice_lem : (b : Bool) → cond b false false ≡ false
no_choice_lem true = refl
no_choice_lem false = refl

module _ (t7 t9 t11 t13 : Bool) where
  pub no_test : (k : ℕ) → (k ≡ 7 → t7 ≡ false) → (k ≡ 9 → t9 ≡ false) → (k ≡ 11 → t11 ≡ false) → (k ≡ 13 → t13 ≡ false) → test_of t7 t9 t11 t13 k ≡ false
  no_test k h7 h9 h11 h13 =
      same_tests t7 t9 t11 t13 false false false false k h7 h9 h11 h13 ∙ simp no_choice_lem
