-- Laws of what a list of pauses says from a day on: that it holds up to the day that it names, and what comes behind that day. Assumes nothing.
use Prim.Native.Nat.{ℕ, zero, suc, ◌+◌, ◌-◌, ◌≤◌, ◌<◌, min}
use mathlib.Core.Bool.{Bool, true, false, cond}
use mathlib.Core.List.{List}
use mathlib.Core.Logic.{◌⊎◌, inl, inr, ⊎_elim}
use mathlib.Core.Path.{◌≡◌, refl, sym, ap, ◌∙◌}
use native.Mathlib.Nat.{le_trans, eq-or-lt_of_le, not-suc-le-zero}
use native.Mathlib.Numerals.{add-one}
use native.Mathlib.Omega.{arith}
use lib.Dec.{leb}
use lib.ListN.{length, get_or}
use borrow.Author.Tests.{le-leb, lt-leb, lt-ltb, le-ltb}
use Rattle.below.specs.Below.{any_below}
use Rattle.below.proofs.Search.{any_hit, any_not, any_same, any_zero, any_more}
use Rattle.below.proofs.Tests.{true_not_false, both_and, and_false, le_or_lt}
use Rattle.day.specs.Days.{open_mark, closed_day}
use Rattle.pause.specs.declared.Pause.{Pause}
use Rattle.pause.specs.declared.Sight.{Sight}
use Rattle.pause.specs.Pauses.{no_day, holds, is_paused}
use Rattle.pause.specs.Sight.{steady_to, steady_below, sight_to, sight_of, sight_on, seen_with}

-- what a list without a pause says, from any day on
abbrev pub no_pause : Sight
no_pause = record { paused = false; until = open_mark }

-- the lesser of two numbers is no more than either, and is one of them
min_left : (a b : ℕ) → min a b ≤ a
min_left a b = omega arith

min_right : (a b : ℕ) → min a b ≤ b
min_right a b = omega arith

min_from : (c a b : ℕ) → c ≤ a → c ≤ b → c ≤ min a b
min_from c a b h k = omega arith

min_is : (a b : ℕ) → (min a b ≡ a) ⊎ (min a b ≡ b)
min_is a b = ⊎_elim (λ (l : a ≤ b). inl (omega arith)) (λ (l : b < a). inr (omega arith)) (le_or_lt a b)

-- ---- one pause
module _ (x : Pause) where
  abbrev end : ℕ
  end = closed_day x.last

  within : {d : ℕ} → x.first ≤ d → d ≤ end → holds x d ≡ true
  within {d} l h = both_and (le-leb x.first d l) (le-leb d end h)

  not_begun : {d : ℕ} → d < x.first → holds x d ≡ false
  not_begun {d} l = rw (lt-leb x.first d l)

  past : {d : ℕ} → end < d → holds x d ≡ false
  past {d} l = rw (lt-leb d end l) (and_false (leb x.first d))

  empty : (d : ℕ) → end < x.first → holds x d ≡ false
  empty d l = ⊎_elim (λ (h : d ≤ end). not_begun (omega arith)) (λ (h : end < d). past h) (le_or_lt d end)

  module _ (d : ℕ) where
    -- a pause that began by day d
    pub steady_begun : x.first ≤ d → steady_to x d ≡ cond (leb d (closed_day x.last)) (closed_day x.last) open_mark
    steady_begun l = rw (le-leb x.first d l, le-ltb d x.first l)

    -- .. and one that did not
    pub steady_ahead : d < x.first → steady_to x d ≡ cond (leb x.first (closed_day x.last)) (x.first - 1) open_mark
    steady_ahead l = rw (lt-leb x.first d l, lt-ltb d x.first l)

    -- day d lies in the pause, or ahead of it, or no day from d on lies in it; s is up to when that stays so
    data Lies (s : ℕ) : Type 0 where
      in_it : x.first ≤ d → d ≤ end → s ≡ end → Lies s
      ahead : d < x.first → x.first ≤ end → s ≡ x.first - 1 → Lies s
      never : ((e : ℕ) → d ≤ e → holds x e ≡ false) → s ≡ open_mark → Lies s

    lies : Lies (steady_to x d)
    lies =
        ⊎_elim
        (λ (l : x.first ≤ d).
        ⊎_elim
        (λ (h : d ≤ end). in_it l h (steady_begun l ∙ ap (λ (t : Bool). cond t end open_mark) (le-leb d end h)))
        (λ (h : end < d). never (λ e k. past (omega arith)) (steady_begun l ∙ ap (λ (t : Bool). cond t end open_mark) (lt-leb d end h)))
        (le_or_lt d end))
        (λ (l : d < x.first).
        ⊎_elim
        (λ (h : x.first ≤ end). ahead l h (steady_ahead l ∙ ap (λ (t : Bool). cond t (x.first - 1) open_mark) (le-leb x.first end h)))
        (λ (h : end < x.first). never (λ e k. empty e h) (steady_ahead l ∙ ap (λ (t : Bool). cond t (x.first - 1) open_mark) (lt-leb x.first end h)))
        (le_or_lt x.first end))
        (le_or_lt x.first d)

    reached : {s : ℕ} → Lies s → d ≤ open_mark → d ≤ s
    reached (in_it l h e) m = rw e h
    reached (ahead l h e) m = omega arith
    reached (never n e) m = rw e m

    steady : {s : ℕ} → Lies s → {e : ℕ} → d ≤ e → e ≤ s → holds x e ≡ holds x d
    steady (in_it l h q) k m = within (omega arith) (omega arith) ∙ sym (within l h)
    steady (ahead l h q) k m = not_begun (omega arith) ∙ sym (not_begun l)
    steady (never n q) {e} k m = n e k ∙ sym (n d (omega arith))

    ends : {s : ℕ} → Lies s → holds x d ≡ false → s < open_mark → holds x (s + 1) ≡ true
    ends (in_it l h q) f m = absurd (true_not_false (within l h) f)
    ends (ahead l h q) f m = within (omega arith) (omega arith)
    ends (never n q) f m = absurd (omega arith)

  -- where no day from e on lies in the pause, that stays so
  stays_out : {e t : ℕ} → Lies e t → ((f : ℕ) → e ≤ f → holds x f ≡ false) → t ≡ open_mark
  stays_out {e} (in_it l h q) n = absurd (true_not_false (within l h) (n e (omega arith)))
  stays_out (ahead l h q) n = absurd (true_not_false (within (omega arith) h) (n x.first (omega arith)))
  stays_out (never m q) n = q

  -- the days up to s have the same s
  steady_on : {d s : ℕ} → Lies d s → {e : ℕ} → d ≤ e → e ≤ s → steady_to x e ≡ s
  steady_on (in_it l h q) {e} k m = steady_begun e (omega arith) ∙ ap (λ (t : Bool). cond t end open_mark) (le-leb e end (omega arith)) ∙ sym q
  steady_on (ahead l h q) {e} k m = steady_ahead e (omega arith) ∙ ap (λ (t : Bool). cond t (x.first - 1) open_mark) (le-leb x.first end h) ∙ sym q
  steady_on (never n q) {e} k m = stays_out (lies e) (λ f z. n f (le_trans k z)) ∙ sym q

-- ---- a list of them
module _ (xs : List Pause) (d : ℕ) where
  abbrev at : ℕ → Pause
  at i = get_or xs i no_day

  -- the first n
  below_reached : d ≤ open_mark → (n : ℕ) → d ≤ steady_below n xs d
  unfolding steady_below
  below_reached h zero = h
  below_reached h (suc n) = min_from d (steady_below n xs d) (steady_to (at n) d) (below_reached h n) (reached (at n) d (lies (at n) d) h)

  below_least : (n i : ℕ) → i < n → steady_below n xs d ≤ steady_to (at i) d
  unfolding steady_below
  below_least zero i l = absurd (not-suc-le-zero l)
  below_least (suc n) i l =
      ⊎_elim
      (λ (e : i ≡ n). rw e (min_right (steady_below n xs d) (steady_to (at n) d)))
      (λ (h : i < n). le_trans (min_left (steady_below n xs d) (steady_to (at n) d)) (below_least n i h))
      (eq-or-lt_of_le (let z : i ≤ n = omega arith in z))

  below_some : (n : ℕ) → (steady_below n xs d ≡ open_mark) ⊎ ((i : ℕ) × (i < n) × (steady_below n xs d ≡ steady_to (at i) d))
  unfolding steady_below
  below_some zero = inl refl
  below_some (suc n) =
      ⊎_elim
      (λ (l : min (steady_below n xs d) (steady_to (at n) d) ≡ steady_below n xs d).
      ⊎_elim
      (λ (e : steady_below n xs d ≡ open_mark). inl (l ∙ e))
      (λ (s : (i : ℕ) × (i < n) × (steady_below n xs d ≡ steady_to (at i) d)). inr (s.0, omega (arith, s.1), l ∙ s.2))
      (below_some n))
      (λ (r : min (steady_below n xs d) (steady_to (at n) d) ≡ steady_to (at n) d). inr (n, omega arith, r))
      (min_is (steady_below n xs d) (steady_to (at n) d))

  -- "in sight" reaches day d itself
  pub sight_reached : d ≤ open_mark → d ≤ sight_to xs d
  unfolding sight_to
  sight_reached h = below_reached h (length xs)

  -- each day that is in sight is paused, or not, as day d
  pub sight_steady : {e : ℕ} → d ≤ e → e ≤ sight_to xs d → is_paused xs e ≡ is_paused xs d
  unfolding sight_to is_paused
  sight_steady {e} l h =
      any_same (λ i. holds (at i) e) (λ i. holds (at i) d) (length xs)
      (λ i k. steady (at i) d (lies (at i) d) l (le_trans h (below_least (length xs) i k)))

  -- .. and has the same days in sight
  below_on : {e : ℕ} → d ≤ e → (n : ℕ) → e ≤ steady_below n xs d → steady_below n xs e ≡ steady_below n xs d
  unfolding steady_below
  below_on l zero h = refl
  below_on l (suc n) h =
      rw (
        below_on l n (le_trans h (min_left (steady_below n xs d) (steady_to (at n) d))),
        steady_on (at n) (lies (at n) d) l (le_trans h (min_right (steady_below n xs d) (steady_to (at n) d))),
      )

  to_on : {e : ℕ} → d ≤ e → e ≤ sight_to xs d → sight_to xs e ≡ sight_to xs d
  unfolding sight_to
  to_on l h = below_on l (length xs) h

  -- so what is known from day d on, and asked of a later day, is what the list says from that day on
  pub sight_on_lem : {e : ℕ} {known r : Sight} → d ≤ e → known ≡ sight_of xs d → r ≡ sight_on xs e known → r ≡ sight_of xs e
  sight_on_lem {e} l k s =
      s
      ∙ ap (sight_on xs e) k
      ∙ ⊎_elim
      (λ (h : e ≤ sight_to xs d). rw (le-leb e (sight_to xs d) h, to_on l h))
      (λ (h : sight_to xs d < e). rw (lt-leb e (sight_to xs d) h))
      (le_or_lt e (sight_to xs d))

  -- where day d is not paused, the day behind what is in sight is
  pub sight_ends : is_paused xs d ≡ false → sight_to xs d < open_mark → is_paused xs (sight_to xs d + 1) ≡ true
  unfolding sight_to is_paused
  sight_ends f l =
      ⊎_elim
      (λ (e : steady_below (length xs) xs d ≡ open_mark). absurd (omega arith))
      (λ (s : (i : ℕ) × (i < length xs) × (steady_below (length xs) xs d ≡ steady_to (at i) d)).
      any_hit (λ i. holds (at i) (steady_below (length xs) xs d + 1)) s.1
      (rw s.2 (ends (at s.0) d (lies (at s.0) d) (any_not (λ i. holds (at i) d) f s.0 s.1) (rw (← s.2) l))))
      (below_some (length xs))

  -- ---- what the list's first n say: what a loop has found by then
  unfoldable pub seen_of : ℕ → Sight
  seen_of n = record { paused = any_below n (λ i. holds (get_or xs i no_day) d); until = steady_below n xs d }

  pub seen_none : no_pause ≡ seen_of 0
  unfolding seen_of steady_below
  seen_none = λ j. record { paused = sym (any_zero (λ i. holds (at i) d)) j; until = open_mark }

  below_more : (n : ℕ) → min (steady_below n xs d) (steady_to (at n) d) ≡ steady_below (n + 1) xs d
  unfolding steady_below
  below_more n = rw add-one

  pub seen_more : (n : ℕ) (r : Pause) → r ≡ get_or xs n no_day → seen_with (seen_of n) r d ≡ seen_of (n + 1)
  unfolding seen_of
  seen_more n r e =
      ap (λ (y : Pause). seen_with (seen_of n) y d) e
      ∙ (λ j. record { paused = sym (any_more (λ i. holds (at i) d) n) j; until = below_more n j })

  pub seen_all : seen_of (length xs) ≡ sight_of xs d
  unfolding seen_of is_paused sight_to
  seen_all = refl
