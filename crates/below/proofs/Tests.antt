-- Laws on tests: what a Bool that is true or false says, and how two tests are equal. Assumes nothing.
use Prim.Native.Nat.{ℕ, ◌≤◌, ◌<◌}
use mathlib.Core.Bool.{Bool, true, false, cond, ◌&&◌, ◌||◌}
use mathlib.Core.Logic.{◌⊎◌, inl, inr, ⊎_elim}
use mathlib.Core.Path.{◌≡◌, refl, sym, ap, ◌∙◌}
use native.Mathlib.Omega.{arith}
use lib.Dec.{leb, eqb}
use borrow.Author.Tests.{leb-true, leb-false, eqb-true, eqb-false}

-- a test holds or it does not
pub bool_cases : (b : Bool) → (b ≡ true) ⊎ (b ≡ false)
bool_cases true = inl refl
bool_cases false = inr refl

pub true_not_false : {b : Bool} → b ≡ true → b ≡ false → ⊥
true_not_false e f = let z : ◌≡◌ {A = ℕ} 0 1 = ap (λ (b : Bool). cond b 0 1) (sym e ∙ f) in omega arith

pub not_true_false : (b : Bool) → (b ≡ true → ⊥) → b ≡ false
not_true_false true n = absurd (n refl)
not_true_false false n = refl

-- two tests are equal where each follows from the other
pub bool_iff : (a b : Bool) → (a ≡ true → b ≡ true) → (b ≡ true → a ≡ true) → a ≡ b
bool_iff true b f g = sym (f refl)
bool_iff false true f g = g refl
bool_iff false false f g = refl

-- "and"
pub and_both : (a b : Bool) → (a && b) ≡ true → (a ≡ true) × (b ≡ true)
and_both true b h = (refl, h)
and_both false b h = absurd (true_not_false h refl)

pub both_and : {a b : Bool} → a ≡ true → b ≡ true → (a && b) ≡ true
both_and e f = rw (e, f)

pub and_false : (a : Bool) → (a && false) ≡ false
and_false true = refl
and_false false = refl

-- "or"
pub or_either : (a b : Bool) → (a || b) ≡ true → (a ≡ true) ⊎ (b ≡ true)
or_either true b h = inl refl
or_either false b h = inr h

pub or_neither : (a b : Bool) → (a || b) ≡ false → (a ≡ false) × (b ≡ false)
or_neither true b h = absurd (true_not_false refl h)
or_neither false b h = (refl, h)

pub neither_or : {a b : Bool} → a ≡ false → b ≡ false → (a || b) ≡ false
neither_or e f = rw (e, f)

pub or_true : (a : Bool) → (a || true) ≡ true
or_true true = refl
or_true false = refl

pub or_false : (a : Bool) → (a || false) ≡ a
or_false true = refl
or_false false = refl

pub or_assoc : (a b c : Bool) → (a || b || c) ≡ (a || (b || c))
or_assoc true b c = refl
or_assoc false b c = refl

-- two numbers
pub le_or_lt : (m n : ℕ) → (m ≤ n) ⊎ (n < m)
le_or_lt m n = ⊎_elim (λ t. inl (leb-true m n t)) (λ t. inr (leb-false m n t)) (bool_cases (leb m n))

pub same_or_not : (m n : ℕ) → (m ≡ n) ⊎ (m ≡ n → ⊥)
same_or_not m n = ⊎_elim (λ t. inl (eqb-true m n t)) (λ t. inr (eqb-false m n t)) (bool_cases (eqb m n))

-- a loop's end: what it carries at i is what was asked at n
pub at_end : {A : Type 0} (f : ℕ → A) {n i : ℕ} {m : A} → n ≤ i → i ≤ n → m ≡ f i → m ≡ f n
at_end f {n} {i} a b e = let q : n ≡ i = omega arith in rw q e
