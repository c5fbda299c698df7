-- What rules 1 to 4 give the later rules. Assumes nothing.
use Rattle.std.specs.Prelude.{Err, Ok}
use Prim.Native.Nat.{ℕ, ◌*◌, ◌%◌, ◌≤◌, ◌<◌}
use mathlib.Core.Bool.{false, not, ◌||◌}
use mathlib.Core.List.{List}
use mathlib.Core.Path.{◌≡◌}
use native.Mathlib.Nat.{le_refl}
use native.Mathlib.Omega.{arith}
use lib.Dec.{eqb, ltb}
use lib.ListN.{length, drop, length-drop}
use lib.Seq.{length-take-le}
use borrow.Author.Tests.{eqb-true, eqb-false, ltb-false, not-false, ne_eqb, lt-ltb}
use Rattle.below.proofs.Search.{any_none}
use Rattle.below.proofs.Tests.{or_neither}
use Rattle.plan.specs.Periods.{blocks_of, block_at}
use Rattle.refusal.proofs.Order.{Passed, rule_is, rule_none}
use Rattle.refusal.specs.Order.{lowest_block}
use Rattle.refusal.specs.Refusals.{rule_at}
use Rattle.form.specs.Form.{bad_length, form_breaks, form_rule, form_of}
use Rattle.form.specs.Code.Whole.{Whole}

-- rule 1
pub whole : (limit : ℕ) (p : List ℕ) → limit < 65536 → bad_length limit p ≡ false → Whole p
whole limit p l e =
    let x = or_neither (eqb (length p) 0 || not (eqb (length p % 512) 0)) (ltb limit (length p)) e in
    let y = or_neither (eqb (length p) 0) (not (eqb (length p % 512) 0)) x.0 in
    let a : length p ≤ limit = ltb-false _ _ x.1 in
    let m : length p % 512 ≡ 0 = eqb-true _ _ (not-false _ y.1) in
    let n = eqb-false (length p) 0 y.0 in
    record { whole = omega arith; some = omega (arith, n); few = omega arith }

pub short : (limit : ℕ) (p : List ℕ) → bad_length limit p ≡ false → length p ≤ limit
short limit p e =
    ltb-false _ _ (or_neither (eqb (length p) 0 || not (eqb (length p % 512) 0)) (ltb limit (length p)) e).1

-- its blocks are whole
pub length_block : {p : List ℕ} → Whole p → (b : ℕ) → b < blocks_of p → length (block_at p b) ≡ 512
unfolding block_at
length_block {p} w b l = length-take-le 512 (drop (b * 512) p) (rw length-drop (omega arith))

-- rules 2 to 4 are the table's first
pub none_ahead : (p : List ℕ) → Passed (blocks_of p) (form_breaks p) 2
unfolding form_breaks
none_ahead p k l =
    any_none (form_breaks p k)
    (λ b q.
    rw (ne_eqb k 2 (λ e. omega arith), ne_eqb k 3 (λ e. omega arith), ne_eqb k 4 (λ e. omega arith)))

-- the answer, by what the search over the rules has shown
module _ (limit : ℕ) (p : List ℕ) (long : bad_length limit p ≡ false) where
  pub broken_is : {k : ℕ} → k < 5 → Passed (blocks_of p) (form_breaks p) k → lowest_block (blocks_of p) (form_breaks p) k < blocks_of p →
      Err (rule_at k (lowest_block (blocks_of p) (form_breaks p) k)) ≡ form_of limit p
  unfolding form_of
  broken_is {k} l passed h =
      let e : form_rule p ≡ k = rule_is (blocks_of p) (form_breaks p) l passed h in
      rw (long, e, lt-ltb k 5 l)

  pub right_by : form_rule p ≡ 5 → Ok tt ≡ form_of limit p
  unfolding form_of
  right_by e = rw (long, e)

  pub right_is : Passed (blocks_of p) (form_breaks p) 5 → Ok tt ≡ form_of limit p
  right_is passed = right_by (rule_none (blocks_of p) (form_breaks p) (le_refl 5) passed)
