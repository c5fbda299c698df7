-- Laws of lists of pauses: how long each is, what stands at a place, and what the C call lends. Assumes nothing.
use Prim.Native.Nat.{ℕ, zero, suc, ◌+◌, ◌*◌, ◌/◌, ◌%◌, ◌≤◌, ◌<◌}
use mathlib.Core.Bool.{Bool, true, false, not, ◌||◌}
use mathlib.Core.List.{List, [], ◌∷◌, ◌++◌}
use mathlib.Core.Logic.{⊎_elim}
use mathlib.Core.Path.{◌≡◌, refl, sym, ap, ◌∙◌}
use native.Mathlib.Nat.{eq-or-lt_of_le, not-suc-le-zero}
use native.Mathlib.Omega.{arith}
use lib.Dec.{eqb, ltb}
use lib.ListN.{length, get_or, take, replicate, length-append, get_or-append, get_or-eq_default}
use lib.Seq.{get_or-append-add, get_or-take, length-take-le, ext_get_or}
use borrow.Author.Tests.{ltb-false}
use Rattle.below.proofs.Tests.{bool_cases, true_not_false, not_true_false, or_either, or_neither, or_true}
use Rattle.below.proofs.Search.{any_hit}
use Rattle.block.specs.Bytes.{word_at}
use Rattle.pause.specs.declared.Pause.{Pause}
use Rattle.pause.specs.Pauses.{no_day, is_out, are_out, first_of, packed_in, pauses_in, lent_of}

-- a list g n that grows at its end by f n, as the first n of a list and the pauses of n records do
module _ (f : ℕ → Pause) (g : ℕ → List Pause) (none : g 0 ≡ []) (more : (n : ℕ) → g (suc n) ≡ g n ++ (f n ∷ [])) where
  grown_length : (n : ℕ) → length (g n) ≡ n
  grown_length zero = rw none
  grown_length (suc n) = rw (more n, length-append, grown_length n) (omega arith)

  grown_at : (n i : ℕ) → i < n → get_or (g n) i no_day ≡ f i
  grown_at zero i l = absurd (not-suc-le-zero l)
  grown_at (suc n) i l =
      let long = grown_length n in
      rw (more n)
      (⊎_elim
      (λ (e : i ≡ n).
      let at : i ≡ length (g n) + 0 = omega arith in
      ap (λ (k : ℕ). get_or (g n ++ (f n ∷ [])) k no_day) at ∙ get_or-append-add (g n) (f n ∷ []) 0 no_day ∙ ap f (sym e))
      (λ (h : i < n). get_or-append (g n) (f n ∷ []) no_day i (omega arith) ∙ grown_at n i h)
      (eq-or-lt_of_le (let z : i ≤ n = omega arith in z)))

-- the first n of a list's pauses
module _ (xs : List Pause) where
  pub length_first : (n : ℕ) → length (first_of n xs) ≡ n
  unfolding first_of
  length_first n = grown_length (λ k. get_or xs k no_day) (λ k. first_of k xs) refl (λ k. refl) n

  pub first_at : (n i : ℕ) → i < n → get_or (first_of n xs) i no_day ≡ get_or xs i no_day
  unfolding first_of
  first_at n i l = grown_at (λ k. get_or xs k no_day) (λ k. first_of k xs) refl (λ k. refl) n i l

-- the packed pauses
module _ (s : List ℕ) where
  abbrev record_at_lem : ℕ → Pause
  record_at_lem i = record { first = word_at s (i * 8); last = word_at s (i * 8 + 4) }

  pub length_pauses : length (pauses_in s) ≡ length s / 8
  unfolding packed_in
  length_pauses = grown_length record_at_lem (packed_in s) refl (λ k. refl) (length s / 8)

  pub pauses_at : (i : ℕ) → i < length s / 8 → get_or (pauses_in s) i no_day ≡ record { first = word_at s (i * 8); last = word_at s (i * 8 + 4) }
  unfolding packed_in
  pauses_at i l = grown_at record_at_lem (packed_in s) refl (λ k. refl) (length s / 8) i l

  pub pauses_past : (i : ℕ) → length s / 8 ≤ i → get_or (pauses_in s) i no_day ≡ no_day
  pauses_past i l = get_or-eq_default (pauses_in s) no_day (omega (arith, length_pauses))

-- a list that is no longer than its first n is the front of them
pub front_of_first : (n : ℕ) (xs : List Pause) → length xs ≤ n → take (length xs) (first_of n xs) ≡ xs
front_of_first n xs few =
    let long : length (take (length xs) (first_of n xs)) ≡ length xs = length-take-le (length xs) (first_of n xs) (omega (arith, length_first xs n)) in
    ext_get_or no_day (take (length xs) (first_of n xs)) xs long
    (λ i l.
    let h : i < length xs = omega (arith, long) in
    get_or-take (length xs) (first_of n xs) i no_day h ∙ first_at xs n i (omega arith))

-- the record that stands past a list's end is out, so a list of it is
no_day_out : are_out (no_day ∷ []) ≡ true
unfolding are_out
no_day_out = any_hit (λ i. is_out (get_or (no_day ∷ []) i no_day)) (let l : 0 < 1 = omega arith in l) refl

-- and an array that begins with it, filled up, has nothing else
pub no_day_first : first_of 32 (no_day ∷ []) ≡ replicate 32 no_day
unfolding first_of
no_day_first = refl

-- what the C call lends, of bytes that are `odd`, no whole number of pauses, or `many`, more than 32
module _ (s : List ℕ) where
  abbrev odd : Bool
  odd = not (eqb (length s % 8) 0)

  abbrev many : Bool
  many = ltb 32 (length s / 8)

  pub lent_bad : (odd || many) ≡ true → lent_of s ≡ (no_day ∷ [])
  unfolding lent_of
  lent_bad e = rw e

  pub lent_good : (odd || many) ≡ false → lent_of s ≡ pauses_in s
  unfolding lent_of
  lent_good e = rw e

  pub lent_few : length (lent_of s) ≤ 32
  lent_few =
      ⊎_elim
      (λ (e : (odd || many) ≡ true). rw (lent_bad e) (omega arith))
      (λ (e : (odd || many) ≡ false). rw (lent_good e) (omega (arith, length_pauses s, ltb-false 32 (length s / 8) (or_neither odd many e).1)))
      (bool_cases (odd || many))

  -- bytes that are bad are out
  bad_out : (odd || many) ≡ true → (odd || are_out (pauses_in s)) ≡ true
  unfolding are_out
  bad_out e =
      ⊎_elim
      (λ (o : odd ≡ true). rw o)
      (λ (m : many ≡ true). rw (length_pauses s, m) (or_true odd))
      (or_either odd many e)

  pub lent_in : (odd || are_out (pauses_in s)) ≡ false → lent_of s ≡ pauses_in s
  lent_in e = lent_good (not_true_false (odd || many) (λ t. true_not_false (bad_out t) e))

  pub lent_out : are_out (lent_of s) ≡ (odd || are_out (pauses_in s))
  lent_out =
      ⊎_elim
      (λ (e : (odd || many) ≡ true). rw (lent_bad e) (no_day_out ∙ sym (bad_out e)))
      (λ (e : (odd || many) ≡ false). rw (lent_good e, (or_neither odd many e).0))
      (bool_cases (odd || many))
