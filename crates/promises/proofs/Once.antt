-- Two results that a contract allows are equal. Assumes nothing.
use Prim.Native.Nat.{ℕ}
use mathlib.Core.Path.{◌≡◌, refl, sym, ap, ◌∙◌}
use Rattle.std.specs.Prelude.{Option, Some, None, is_some, unwrap_or}
use Rattle.below.proofs.Tests.{true_not_false}
use Rattle.day.proofs.Inverse.{shows_one}
use Rattle.register.proofs.Kept.{called_once}
use Rattle.promises.specs.Once.{Once}

-- what there is, and what it is, say which option it is
same_option : (x y : Option ℕ) → is_some x ≡ is_some y → unwrap_or x 0 ≡ unwrap_or y 0 → x ≡ y
same_option None None e f = refl
same_option None (Some n) e f = absurd (true_not_false e refl)
same_option (Some m) None e f = absurd (true_not_false refl e)
same_option (Some m) (Some n) e f = ap Some f

pub once : Once
once =
    record {
      date_of = shows_one;
      day = λ n x y a b i. record { number = (a ∙ sym b) i };
      date = λ y m d a b u v i. record { year = (u.0 ∙ sym v.0) i; month = (u.1 ∙ sym v.1) i; day = (u.2 ∙ sym v.2) i };
      longs = λ a b c x y u v i. record { first = (u.0 ∙ sym v.0) i; second = (u.1 ∙ sym v.1) i; third = (u.2 ∙ sym v.2) i };
      opened = λ d n x y u v i. record { dose = (u.0 ∙ sym v.0) i; spare = (u.1 ∙ sym v.1) i };
      judged = λ rule class x y u v i. record { rule = (u.0 ∙ sym v.0) i; class = (u.1 ∙ sym v.1) i };
      classes = λ p x y u v. u ∙ sym v;
      stop = λ any day x y u v. same_option x y (u.0 ∙ sym v.0) (u.1 ∙ sym v.1);
      calls = λ r c x y s t u v. called_once u v;
      releases = λ r c x y s t u v. called_once u v;
      states = λ r c x y s t u v. called_once u v;
    }
