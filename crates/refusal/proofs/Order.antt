-- Laws of "the lowest broken number, then the lowest block that breaks it". Assumes nothing.
use Prim.Native.Nat.{ℕ, ◌≤◌, ◌<◌}
use mathlib.Core.Bool.{Bool, true, false}
use mathlib.Core.Path.{◌≡◌}
use mathlib.Core.Logic.{⊎_elim}
use native.Mathlib.Omega.{arith}
use Rattle.below.proofs.Tests.{true_not_false, le_or_lt}
use Rattle.below.proofs.Search.{IsFirst, NoneBelow, first_facts, first_is, first_end, any_hit, any_none}
use Rattle.below.specs.Below.{any_below}
use Rattle.refusal.specs.Order.{lowest_rule, lowest_block}

module _ (n : ℕ) (breaks : ℕ → ℕ → Bool) where
  -- no rule below k is broken: what the search has shown when it stands at rule k, and what rule k may count on
  abbrev pub Passed : ℕ → Type 0
  Passed k = NoneBelow (λ i. any_below n (breaks i)) k

  -- a block breaks rule k, or none does
  pub block_hit : (k : ℕ) → lowest_block n breaks k < n → any_below n (breaks k) ≡ true
  unfolding lowest_block
  block_hit k l = any_hit (breaks k) l ((first_facts (breaks k) n).here l)

  pub block_none : (k : ℕ) → n ≤ lowest_block n breaks k → any_below n (breaks k) ≡ false
  unfolding lowest_block
  block_none k l = any_none (breaks k) (λ b q. (first_facts (breaks k) n).before b (omega arith))

  -- so the search over the rules ends here
  pub rule_is : {end k : ℕ} → k < end → Passed k → lowest_block n breaks k < n → lowest_rule end n breaks ≡ k
  unfolding lowest_rule
  rule_is {end} {k} l passed h = first_is (λ i. any_below n (breaks i)) l passed (block_hit k h)

  pub rule_none : {end k : ℕ} → end ≤ k → Passed k → lowest_rule end n breaks ≡ end
  unfolding lowest_rule
  rule_none l passed = first_end (λ i. any_below n (breaks i)) l passed

  -- no rule below the lowest broken one is broken
  pub passed_lowest : (end : ℕ) → Passed (lowest_rule end n breaks)
  unfolding lowest_rule
  passed_lowest end = (first_facts (λ i. any_below n (breaks i)) end).before

  -- what the lowest block is, and that a broken rule has one
  pub block_facts : (k : ℕ) → IsFirst (breaks k) n (lowest_block n breaks k)
  unfolding lowest_block
  block_facts k = first_facts (breaks k) n

  pub block_some : (end : ℕ) → lowest_rule end n breaks < end → lowest_block n breaks (lowest_rule end n breaks) < n
  unfolding lowest_rule
  block_some end l =
      let hit = (first_facts (λ i. any_below n (breaks i)) end).here l in
      ⊎_elim
      (λ h. absurd (true_not_false hit (block_none _ h)))
      (λ h. h)
      (le_or_lt n (lowest_block n breaks (lowest_rule end n breaks)))
