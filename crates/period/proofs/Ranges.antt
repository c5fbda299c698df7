-- Searches through the numbers of a range. Assumes nothing.
use Prim.Native.Nat.{ℕ, zero, suc, ◌+◌, ◌-◌, ◌≤◌, ◌<◌}
use mathlib.Core.Bool.{Bool, true, false}
use mathlib.Core.List.{List, [], ◌∷◌}
use mathlib.Core.Path.{◌≡◌, refl, sym, ap, subst, ◌∙◌}
use native.Mathlib.Omega.{arith}
use lib.ListN.{length, get_or}
use denote.Param.Members.{Mut}
use denote.Ref.{Bor}
use Rattle.std.specs.Prelude.{Option, Some, None, MatchOption}
use Rattle.std.specs.Bool.{⊤}
use Rattle.std.specs.Fn.{Called, CalledAt}
use Rattle.std.specs.Iterator.{YieldsThen}
use Rattle.std.specs.Iterator.Adapters.{rev_source, rev_steps}
use Rattle.std.specs.List.{FoldsTo, AllWithin, HoldsAt, range_with_len}
use Rattle.std.specs.declared.ops.Range.{Range}
use Rattle.std.specs.declared.iter.Rev.{Rev}
use Rattle.std.proofs.iter.Yields.{nat_range_steps}
use Rattle.std.proofs.iter.runs.Sources.{nat_range_steps_back}
use Rattle.std.proofs.lemmas.Iterator.{YieldsList, YieldsList-from_range, cases_from_all, first_from_find}
use Rattle.std.proofs.lemmas.Iterator.Consumers.{YieldsList-from_shown}
use Rattle.std.proofs.lemmas.List.FromFn.{length-range_with_len, get_or-range_with_len}

-- `all` over a range, where it is true
pub all_from_Range : {F : Type 0} {g : Mut F (ℕ × Unit {0}) Bool} (s u : Range ℕ) (f : F) (r : Bool) (Yes : ℕ → Type 0)
    → (xs : List ℕ) × (o : Option ℕ) × (j : F) × YieldsThen nat_range_steps s xs o u × FoldsTo (λ p x q. Called g p (x, tt) true q) f xs j × MatchOption o (r ≡ true) (λ x. (r ≡ false) × ((h : F) × Called g j (x, tt) false h))
    → ((x : ℕ) (q : F) → Called g f (x, tt) true q → (q ≡ f) × Yes x)
    → r ≡ true → (k : ℕ) → s.start ≤ k → k < s.end → Yes k
all_from_Range s u f r Yes d each e k a b =
    at (rw e at (cases_from_all u f r Yes (λ (x : ℕ). ⊤) d (YieldsList-from_range s.start s.end _ refl refl) each (λ x q c. tt)))
  where
    at : AllWithin Yes (range_with_len s.start (s.end - s.start)) 0 (length (range_with_len s.start (s.end - s.start))) → Yes k
    at h =
        subst Yes {x = get_or (range_with_len s.start (s.end - s.start)) (k - s.start) 0} {y = k}
        (omega (arith, get_or-range_with_len s.start (s.end - s.start) (k - s.start) 0 (omega arith)))
        (h (k - s.start) 0 (omega arith) (omega (arith, length-range_with_len s.start (s.end - s.start))))

-- the n numbers from a on, the last first
abbrev pub down : ℕ → ℕ → List ℕ
down a zero = []
down a (suc n) = (a + n) ∷ down a n

length-down : (a n : ℕ) → length (down a n) ≡ n
length-down a zero = refl
length-down a (suc n) = ap suc (length-down a n)

get_or-down : (a n i d : ℕ) → i < n → get_or (down a n) i d ≡ a + (n - 1 - i)
get_or-down a zero i d l = absurd (omega arith)
get_or-down a (suc n) zero d l = omega arith
get_or-down a (suc n) (suc i) d l = omega (arith, get_or-down a n i d (omega arith))

down_more : (a b c : ℕ) → 0 < b - a → b ≡ c + 1 → down a (b - a) ≡ c ∷ down a (c - a)
down_more a b c l e =
    let n : b - a ≡ suc (c - a) = omega arith in
    let last : a + (c - a) ≡ c = omega arith in
    rw n (rw last)

pub YieldsList-from_rev_range : {s : Rev (Range ℕ)} (a b : ℕ) → rev_source s ≡ record { start = a; end = b } → YieldsList (rev_steps nat_range_steps_back) (λ x. x) s (down a (b - a))
YieldsList-from_rev_range {s} a b e =
    subst (λ (k : Range ℕ). YieldsList (rev_steps nat_range_steps_back) (λ x. x) s (down k.start (k.end - k.start))) e
    (YieldsList-from_shown (rev_steps nat_range_steps_back) (λ x. x) (λ u. down (rev_source u).start ((rev_source u).end - (rev_source u).start))
    (λ u t p. length-down _ _ ∙ p.1.0)
    (λ u x t p. rw (p.0, p.1.1) (down_more (rev_source u).start (rev_source u).end (rev_source t).end p.1.0 p.1.2))
    s)

-- `find` over `(0..b).rev()`: the last number below b that passes
pub last_below : {F : Type 0} {g : Mut F (Bor ℕ × Unit {0}) Bool} (b : ℕ) (s u : Rev (Range ℕ)) (f : F) (r : Option ℕ) (Yes No : ℕ → Type 0)
    → (xs : List ℕ) × (j : F) × YieldsThen (rev_steps nat_range_steps_back) s xs r u × FoldsTo (λ p x q. CalledAt g p x false q) f xs j × MatchOption r ⊤ (λ x. (h : F) × CalledAt g j x true h)
    → rev_source s ≡ record { start = 0; end = b }
    → ((x : ℕ) (q : F) → CalledAt g f x true q → Yes x) → ((x : ℕ) (q : F) → CalledAt g f x false q → (q ≡ f) × No x)
    → MatchOption r ((k : ℕ) → k < b → No k) (λ i. (i < b) × Yes i × ((k : ℕ) → i < k → k < b → No k))
last_below b s u f r Yes No d e hit miss =
    let z : b - 0 ≡ b = omega arith in
    by r (first_from_find u f r Yes No d (rw z at (YieldsList-from_rev_range 0 b e)) hit miss)
  where
    all : List ℕ
    all = down 0 b

    long : length all ≡ b
    long = length-down 0 b

    above : (n : ℕ) → n ≤ b → AllWithin No all 0 n → (k : ℕ) → k < b → b ≤ k + n → No k
    above n l h k high near =
        subst No {x = get_or all (b - 1 - k) 0} {y = k}
        (omega (arith, get_or-down 0 b (b - 1 - k) 0 (omega arith)))
        (h (b - 1 - k) 0 (omega arith) (omega arith))

    by : (o : Option ℕ) → MatchOption o (AllWithin No all 0 (length all)) (λ x. Yes x × (i : ℕ) × (i < length all) × HoldsAt (λ y. y ≡ x) all i × AllWithin No all 0 i)
        → MatchOption o ((k : ℕ) → k < b → No k) (λ i. (i < b) × Yes i × ((k : ℕ) → i < k → k < b → No k))
    by None h = λ k high. above (length all) (omega (arith, long)) h k high (omega (arith, long))
    by (Some x) h =
        let i : h.1 < b = omega (arith, long, h.2) in
        let at : x ≡ 0 + (b - 1 - h.1) = sym (h.3 0) ∙ get_or-down 0 b h.1 0 i in
        (omega arith, h.0, λ k low high. above h.1 (omega arith) h.4 k high (omega arith))
