-- What the later rules count on: a plan that breaks none of rules 1 to 4. Assumes nothing.
use Rattle.std.specs.Prelude.{Err, Ok}
use Prim.Native.Nat.{ℕ, ◌≤◌, ◌<◌}
use mathlib.Core.Bool.{true, false, not, ◌||◌}
use mathlib.Core.List.{List}
use mathlib.Core.Logic.{⊎_elim}
use mathlib.Core.Path.{◌≡◌, sym}
use native.Mathlib.Nat.{le_refl}
use native.Mathlib.Omega.{arith}
use lib.Dec.{eqb, ltb}
use borrow.Author.Tests.{leb-true, ltb-false, eqb-true, not-false}
use Rattle.below.specs.Below.{first_below}
use Rattle.below.proofs.Search.{NoneBelow, any_none, any_not, first_same}
use Rattle.below.proofs.Tests.{bool_cases, true_not_false, and_false, or_either, or_neither, or_false}
use Rattle.block.specs.Sums.{sums_right}
use Rattle.day.specs.Days.{open_mark, is_day}
use Rattle.plan.specs.Fields.{kind_of, first_of, end_of, last_of}
use Rattle.plan.specs.Periods.{blocks_of, block_at, is_period}
use Rattle.refusal.proofs.Order.{Passed, passed_lowest, rule_none}
use Rattle.refusal.specs.Order.{lowest_block}
use Rattle.refusal.specs.declared.Refusal.{Refusal}
use Rattle.form.specs.Answers.{Form}
use Rattle.form.specs.Form.{bad_length, sums_wrong, misplaced, days_out, doses_out, period_out, block_out, form_breaks, form_rule, form_of}
use Rattle.form.specs.Code.Front.{broken_at}
use Rattle.form.proofs.Laws.{right_is}

pub record Formed (limit : ℕ) (p : List ℕ) : Type 0 where
  pub long : bad_length limit p ≡ false
  pub passed : Passed (blocks_of p) (form_breaks p) 5

not_both : {r : Refusal} → ◌≡◌ {A = Form} (Err r) (Ok tt) → ⊥
not_both e = let z : ◌≡◌ {A = ℕ} 0 1 = cc in omega arith

-- what `form_of` says where it says that all is right
pub formed : (limit : ℕ) (p : List ℕ) → form_of limit p ≡ Ok tt → Formed limit p
unfolding form_of
formed limit p e =
    ⊎_elim
    (λ (t : bad_length limit p ≡ true). absurd (not_both (rw t at e)))
    (λ (t : bad_length limit p ≡ false).
    let f = rw t at e in
    ⊎_elim
    (λ (u : ltb (form_rule p) 5 ≡ true). absurd (not_both (rw u at f)))
    (λ u.
    let l : 5 ≤ form_rule p = ltb-false _ _ u in
    record { long = t; passed = λ k q. passed_lowest (blocks_of p) (form_breaks p) 5 k (omega arith) })
    (bool_cases (ltb (form_rule p) 5)))
    (bool_cases (bad_length limit p))

-- the days of a block that rule 4 lets pass
days_in : (r : List ℕ) → days_out r ≡ false → (first_of r ≤ last_of r) × (last_of r ≤ 73048)
days_in r e =
    let x = or_neither _ (ltb (last_of r) (first_of r)) e in
    let y = or_neither (not (is_day (first_of r))) (not (is_day (end_of r) || eqb (end_of r) open_mark)) x.0 in
    let last : last_of r ≤ 73048 =
    ⊎_elim
    (λ (t : eqb (end_of r) open_mark ≡ true). rw t (omega arith))
    (λ (t : eqb (end_of r) open_mark ≡ false).
    rw t
    (⊎_elim
    (λ (u : is_day (end_of r) ≡ true). leb-true _ _ u)
    (λ u. absurd (true_not_false u t))
    (or_either (is_day (end_of r)) (eqb (end_of r) open_mark) (not-false _ y.1))))
    (bool_cases (eqb (end_of r) open_mark)) in
    (ltb-false _ _ x.1, last)

module _ {limit : ℕ} {p : List ℕ} (f : Formed limit p) where
  -- no block breaks rule 2, 3 or 4
  pub summed : (b : ℕ) → b < blocks_of p → sums_right (block_at p b) ≡ true
  unfolding form_breaks
  summed b l = not-false _ (any_not (form_breaks p 2) (f.passed 2 (omega arith)) b l)

  pub placed : (b : ℕ) → b < blocks_of p → misplaced p b ≡ false
  unfolding form_breaks
  placed b l = any_not (form_breaks p 3) (f.passed 3 (omega arith)) b l

  pub ranged : (b : ℕ) → b < blocks_of p → block_out (block_at p b) ≡ false
  unfolding form_breaks
  ranged b l = any_not (form_breaks p 4) (f.passed 4 (omega arith)) b l

  -- block 0 is a head, and so begins no period
  pub head : 0 < blocks_of p → kind_of (block_at p 0) ≡ 1
  unfolding misplaced
  head l = eqb-true _ _ (not-false _ (or_neither (not (eqb (kind_of (block_at p 0)) 1)) _ (placed 0 l)).0)

  pub head_no_period : 0 < blocks_of p → is_period p 0 ≡ false
  head_no_period l = rw (head l)

  -- a period's days are in order, and days of the calendar
  pub dated : (b : ℕ) → b < blocks_of p → is_period p b ≡ true → (first_of (block_at p b) ≤ last_of (block_at p b)) × (last_of (block_at p b) ≤ 73048)
  unfolding block_out period_out
  dated b l e =
      let k : kind_of (block_at p b) ≡ 2 = eqb-true _ _ e in
      let o : period_out (block_at p b) ≡ false = rw k at (ranged b l) in
      days_in (block_at p b) (or_neither (days_out (block_at p b)) _ (or_neither _ (doses_out (block_at p b)) o).0).0

-- and the other way: bytes of which no block breaks rule 2, 3 or 4 are right
module _ (p : List ℕ)
    (sums : (b : ℕ) → b < blocks_of p → sums_right (block_at p b) ≡ true)
    (places : (b : ℕ) → b < blocks_of p → misplaced p b ≡ false)
    (ranges : (b : ℕ) → b < blocks_of p → block_out (block_at p b) ≡ false) where
  unbroken : (k b : ℕ) → k < 5 → b < blocks_of p → form_breaks p k b ≡ false
  unfolding form_breaks
  unbroken k b h l =
      ⊎_elim
      (λ (t : eqb k 2 ≡ true). rw (t, sums b l))
      (λ (t : eqb k 2 ≡ false).
      ⊎_elim
      (λ (u : eqb k 3 ≡ true). rw (t, u, places b l))
      (λ (u : eqb k 3 ≡ false). rw (t, u, ranges b l, and_false))
      (bool_cases (eqb k 3)))
      (bool_cases (eqb k 2))

  all_passed : Passed (blocks_of p) (form_breaks p) 5
  all_passed k h = any_none (form_breaks p k) (λ b l. unbroken k b h l)

module _ (limit : ℕ) (p : List ℕ) (long : bad_length limit p ≡ false)
    (sums : (b : ℕ) → b < blocks_of p → sums_right (block_at p b) ≡ true)
    (places : (b : ℕ) → b < blocks_of p → misplaced p b ≡ false)
    (ranges : (b : ℕ) → b < blocks_of p → block_out (block_at p b) ≡ false) where
  pub right : form_of limit p ≡ Ok tt
  right = sym (right_is limit p long (all_passed p sums places ranges))

-- the three rules, asked of one block after another
pub none_broken : (p : List ℕ) → NoneBelow (broken_at p) (blocks_of p) → form_rule p ≡ 5
none_broken p none =
    rule_none (blocks_of p) (form_breaks p) (le_refl 5)
    (all_passed p
    (λ b l. not-false _ (two b l).1)
    (λ b l. (one b l).0)
    (λ b l. (one b l).1))
  where
    two : (b : ℕ) → b < blocks_of p → ((misplaced p b || block_out (block_at p b)) ≡ false) × (sums_wrong p b ≡ false)
    two b l = or_neither (misplaced p b || block_out (block_at p b)) (sums_wrong p b) (none b l)

    one : (b : ℕ) → b < blocks_of p → (misplaced p b ≡ false) × (block_out (block_at p b) ≡ false)
    one b l = or_neither (misplaced p b) (block_out (block_at p b)) (two b l).0

-- where no block breaks rule 2 or 3, the lowest broken block breaks rule 4
pub lowest_broken : (p : List ℕ) → Passed (blocks_of p) (form_breaks p) 4 →
    first_below (blocks_of p) (broken_at p) ≡ lowest_block (blocks_of p) (form_breaks p) 4
unfolding lowest_block form_breaks
lowest_broken p passed = first_same (broken_at p) (form_breaks p 4) (blocks_of p) same
  where
    same : (b : ℕ) → b < blocks_of p → broken_at p b ≡ form_breaks p 4 b
    same b l =
        let sums : sums_wrong p b ≡ false = any_not (form_breaks p 2) (passed 2 (omega arith)) b l in
        let place : misplaced p b ≡ false = any_not (form_breaks p 3) (passed 3 (omega arith)) b l in
        rw (sums, place) (or_false (block_out (block_at p b)))
