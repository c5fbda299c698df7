-- Zero bytes read as numbers, and a dose record with them. Assumes nothing.
use Prim.Native.Nat.{ℕ, ◌+◌, ◌≤◌, ◌<◌, max}
use mathlib.Core.Bool.{Bool, true, false, cond, not, ◌||◌}
use mathlib.Core.List.{List}
use mathlib.Core.Logic.{⊎_elim}
use mathlib.Core.Path.{◌≡◌, refl, sym, ◌∙◌}
use native.Mathlib.Omega.{arith}
use lib.Dec.{eqb, ltb}
use lib.ListN.{length, take, drop}
use borrow.Author.Tests.{eqb-true, eqb-false, ne_eqb, lt-ltb, le-ltb, ltb-true}
use Rattle.below.proofs.Tests.{bool_cases, bool_iff, or_true, or_false, or_either, or_assoc, le_or_lt, same_or_not}
use Rattle.block.specs.Bytes.{number_at, is_zero}
use Rattle.block.proofs.Zeros.{number_zero, part_zero}
use Rattle.plan.specs.Fields.{dose_of, spare_of}
use Rattle.plan.specs.declared.Dose.{Dose}
use Rattle.form.specs.Form.{record_out}
use Rattle.form.specs.Code.Front.{time_out}

-- a part of w bytes is zero where its number is
pub number_part_zero : (w : ℕ) (r : List ℕ) (a : ℕ) → a + w ≤ length r → is_zero (take w (drop a r)) ≡ eqb (number_at w r a) 0
number_part_zero w r a l = part_zero r a w l ∙ sym (number_zero w r a)

-- a number x with others behind it, y in all, passes m where x does, or where the others, h, are not zero
pub past : (m x h y : ℕ) → (h ≡ 0 → y ≡ x) → ((h ≡ 0 → ⊥) → m < y) → ltb m y ≡ (ltb m x || not (eqb h 0))
past m x h y none some =
    ⊎_elim
    (λ (e : eqb h 0 ≡ true). rw (none (eqb-true _ _ e), e) (sym (or_false (ltb m x))))
    (λ (e : eqb h 0 ≡ false). rw (lt-ltb m y (some (eqb-false _ _ e)), e) (sym (or_true (ltb m x))))
    (bool_cases (eqb h 0))

-- a test may be made ahead of two others
ahead : (p z d e : Bool) → p || z || d || e ≡ p || d || e || z
ahead true z d e = refl
ahead false true true e = refl
ahead false true false true = refl
ahead false true false false = refl
ahead false false true e = refl
ahead false false false true = refl
ahead false false false false = refl

-- the larger of two numbers passes m where one of them does
either : (m x y : ℕ) → ltb m (max x y) ≡ (ltb m x || ltb m y)
either m x y =
    bool_iff _ _
    (λ t.
    let l = ltb-true m (max x y) t in
    ⊎_elim
    (λ (h : x ≤ y). rw (lt-ltb m y (omega (arith, l)), or_true))
    (λ (h : y < x). rw (lt-ltb m x (omega (arith, l))))
    (le_or_lt x y))
    (λ t.
    ⊎_elim
    (λ (a : ltb m x ≡ true). lt-ltb m (max x y) (omega (arith, ltb-true m x a)))
    (λ (a : ltb m y ≡ true). lt-ltb m (max x y) (omega (arith, ltb-true m y a)))
    (or_either (ltb m x) (ltb m y) t))

-- a dose without a clock time, and any other
pub time_plain : (d : Dose) (spare : ℕ) → d.kind < 5 → (ltb 1 d.mark || ltb 0 d.minute || not (eqb spare 0)) ≡ time_out d spare
time_plain d spare l = rw (le-ltb 5 d.kind (omega arith), ne_eqb d.kind 5 (λ e. omega (arith, e)))

pub time_clock : (d : Dose) (spare : ℕ) → 5 ≤ d.kind → (ltb 5 d.kind || ltb 1 d.mark || ltb 1439 d.minute || not (eqb spare 0)) ≡ time_out d spare
time_clock d spare l =
    ⊎_elim
    (λ (e : d.kind ≡ 5). rw e refl)
    (λ (e : d.kind ≡ 5 → ⊥). rw (lt-ltb 5 d.kind (omega (arith, e))) refl)
    (same_or_not d.kind 5)

-- a record is out by its time, or by the larger of its amounts
pub record_is : (s : List ℕ) → length s ≡ 24 → time_out (dose_of s) (spare_of s) || ltb 9999999999 (max (dose_of s).low (dose_of s).high) ≡ record_out s
unfolding record_out
record_is s l =
    let d = dose_of s in
    let p = ltb 5 d.kind || ltb 1 d.mark || ltb (cond (eqb d.kind 5) 1439 0) d.minute in
    let z = not (eqb (spare_of s) 0) in
    rw (number_part_zero 2 s 6 (omega arith), either 9999999999 d.low d.high)
    (sym (or_assoc (p || z) (ltb 9999999999 d.low) (ltb 9999999999 d.high)) ∙ ahead p z (ltb 9999999999 d.low) (ltb 9999999999 d.high))
