-- `any` over the numbers of a range. Assumes nothing.
use Prim.Native.Nat.{ℕ, zero, suc, ◌+◌}
use mathlib.Core.Bool.{Bool, true, false}
use mathlib.Core.List.{List}
use mathlib.Core.Logic.{⊎_elim}
use mathlib.Core.Path.{◌≡◌, refl, sym, ◌∙◌}
use native.Mathlib.Omega.{arith}
use lib.Dec.{ltb}
use borrow.Author.Tests.{lt-ltb, le-ltb}
use denote.Param.Members.{Mut}
use Rattle.std.specs.Prelude.{Option, MatchOption}
use Rattle.std.specs.Fn.{Called}
use Rattle.std.specs.Iterator.{YieldsThen}
use Rattle.std.specs.List.{FoldsTo, list_any, range_with_len}
use Rattle.std.specs.declared.ops.Range.{Range}
use Rattle.std.proofs.iter.Yields.{nat_range_steps}
use Rattle.std.proofs.lemmas.Iterator.{YieldsList-from_range}
use Rattle.std.proofs.lemmas.Iterator.Search.{any_from_yields_List}
use Rattle.below.proofs.Tests.{bool_cases}
use Rattle.below.specs.Below.{first_from, first_below, any_below}

any_listed : (test : ℕ → Bool) (n i : ℕ) → list_any test (range_with_len i n) ≡ ltb (first_from n i test) (i + n)
unfolding first_from
any_listed test zero i = sym (le-ltb i (i + 0) (omega arith))
any_listed test (suc n) i =
    let m : i + suc n ≡ suc i + n = omega arith in
    let e : i + 1 ≡ suc i = omega arith in
    ⊎_elim
    (λ (t : test i ≡ true). rw (t, lt-ltb i (i + suc n) (omega arith)))
    (λ (t : test i ≡ false). rw (t, m, e) (any_listed test n (suc i)))
    (bool_cases (test i))

pub any_from_Range : {F : Type 0} {g : Mut F (ℕ × Unit {0}) Bool} (n : ℕ) (test : ℕ → Bool) (u : Range ℕ) (f : F) (r : Bool)
    → (xs : List ℕ) × (o : Option ℕ) × (j : F) × YieldsThen nat_range_steps (record { start = 0; end = n }) xs o u × FoldsTo (λ p x q. Called g p (x, tt) false q) f xs j × MatchOption o (r ≡ false) (λ x. (r ≡ true) × ((h : F) × Called g j (x, tt) true h))
    → ((x : ℕ) (b : Bool) (q : F) → Called g f (x, tt) b q → (q ≡ f) × (b ≡ test x))
    → r ≡ any_below n test
unfolding any_below first_below
any_from_Range n test u f r ran each =
    let z : 0 + n ≡ n = omega arith in
    any_from_yields_List test u f r ran (YieldsList-from_range 0 n n refl (omega arith)) each ∙ rw z at (any_listed test n 0)
