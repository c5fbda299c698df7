-- Rule 4 as the code asks it: some zero bytes of a block's front as numbers, and those behind its records last. Assumes nothing.
use Prim.Native.Nat.{ℕ, ◌+◌, ◌*◌, ◌≤◌}
use mathlib.Core.Bool.{Bool, true, false, not, ◌&&◌, ◌||◌}
use mathlib.Core.List.{List}
use mathlib.Core.Logic.{⊎_elim}
use mathlib.Core.Path.{◌≡◌, refl, sym}
use native.Mathlib.Omega.{arith}
use lib.Dec.{eqb, ltb}
use lib.ListN.{length}
use borrow.Author.Tests.{ltb-false}
use Rattle.below.proofs.Tests.{bool_cases, or_true, or_neither, or_assoc}
use Rattle.block.specs.Bytes.{byte_at, number_at, word_at, long_at}
use Rattle.block.specs.Sums.{sums_right}
use Rattle.block.specs.Code.Zeros.{zero_in}
use Rattle.block.proofs.Zeros.{zero_split, number_zero, part_zero}
use Rattle.plan.specs.Fields.{kind_of, count_of}
use Rattle.form.specs.Form.{days_out, not_zero, doses_out, head_out, period_out, continuation_out, block_out}
use Rattle.form.specs.Code.Front.{records_out, head_front, period_front, continuation_front, front_out, records_of}
use Rattle.form.proofs.Zeroed.{past}

-- the bytes behind n records, up to the sums
abbrev pub behind_out : List ℕ → ℕ → Bool
behind_out r n = not_zero r (24 + n * 24) 504

module _ (r : List ℕ) (long : length r ≡ 512) where
  -- a head's bytes 20 to 503
  behind : (d v x y : Bool) → d || v || not (x && y) ≡ d || (v || not x) || not y
  behind true v x y = refl
  behind false true x y = refl
  behind false false true y = refl
  behind false false false y = refl

  vka_is : ltb 1 (word_at r 20) ≡ (ltb 1 (byte_at r 20) || not (eqb (number_at 3 r 21) 0))
  unfolding number_at
  vka_is = past 1 (byte_at r 20) (number_at 3 r 21) (word_at r 20) (λ e. omega arith) (λ e. omega (arith, e))

  head_front_lem : head_out r ≡ (head_front r || behind_out r 0)
  unfolding head_out
  head_front_lem =
      rw (vka_is, part_zero r 21 483 (omega arith), part_zero r 24 480 (omega arith), zero_split r 21 3 480, number_zero 3 r 21)
      (behind (days_out r) (ltb 1 (byte_at r 20)) (zero_in r 21 3) (zero_in r 24 480))

  doses_front : doses_out r ≡ (records_out r || behind_out r (count_of r))
  unfolding doses_out records_out
  doses_front = refl

  -- a period's bytes 12 to 23
  two_parts : (d x y e z : Bool) → d || not (x && y) || (e || z) ≡ d || not x || not y || e || z
  two_parts true x y e z = refl
  two_parts false true true e z = refl
  two_parts false true false e z = refl
  two_parts false false y e z = refl

  period_front_lem : period_out r ≡ (period_front r || behind_out r (count_of r))
  unfolding period_out
  period_front_lem =
      rw (doses_front, part_zero r 12 12 (omega arith), zero_split r 12 4 8, number_zero 4 r 12, number_zero 8 r 16)
      (two_parts (days_out r) (zero_in r 12 4) (zero_in r 16 8) (records_out r) (behind_out r (count_of r)))

  continuation_front_lem : continuation_out r ≡ (continuation_front r || behind_out r (count_of r))
  unfolding continuation_out
  continuation_front_lem = rw doses_front (sym (or_assoc (eqb (count_of r) 0 || not_zero r 2 24) (records_out r) (behind_out r (count_of r))))

  -- rule 4 of a block, by its kind
  block_front : block_out r ≡ (front_out r || behind_out r (records_of r))
  unfolding block_out front_out records_of
  block_front =
      ⊎_elim
      (λ (k : eqb (kind_of r) 1 ≡ true). rw k head_front_lem)
      (λ (k : eqb (kind_of r) 1 ≡ false).
      ⊎_elim
      (λ (l : eqb (kind_of r) 2 ≡ true). rw (k, l) period_front_lem)
      (λ (l : eqb (kind_of r) 2 ≡ false). rw (k, l) continuation_front_lem)
      (bool_cases (eqb (kind_of r) 2)))
      (bool_cases (eqb (kind_of r) 1))

  -- where the front is right, the records are few
  few : (a : Bool) → (a || records_out r) ≡ false → count_of r ≤ 20
  unfolding records_out
  few a e = ltb-false _ _ (or_neither (ltb 20 (count_of r)) _ (or_neither a (records_out r) e).1).0

  pub few_records : front_out r ≡ false → records_of r ≤ 20
  unfolding front_out records_of
  few_records e =
      ⊎_elim
      (λ (k : eqb (kind_of r) 1 ≡ true). rw k (omega arith))
      (λ (k : eqb (kind_of r) 1 ≡ false).
      rw k
      (⊎_elim
      (λ (l : eqb (kind_of r) 2 ≡ true). few (days_out r || not (eqb (word_at r 12) 0) || not (eqb (long_at r 16) 0)) (rw (k, l) at e))
      (λ (l : eqb (kind_of r) 2 ≡ false). few (eqb (count_of r) 0 || not_zero r 2 24) (rw (k, l) at e))
      (bool_cases (eqb (kind_of r) 2))))
      (bool_cases (eqb (kind_of r) 1))

  pub front_decides : front_out r ≡ true → (block_out r || not (sums_right r)) ≡ true
  front_decides e = rw (block_front, e)

  pub behind_decides : behind_out r (records_of r) ≡ true → (block_out r || not (sums_right r)) ≡ true
  behind_decides e = rw (block_front, e, or_true)

  -- .. and where both are right, the sums decide
  pub sums_decide : front_out r ≡ false → behind_out r (records_of r) ≡ false → not (sums_right r) ≡ (block_out r || not (sums_right r))
  sums_decide e f = rw (block_front, e, f)
