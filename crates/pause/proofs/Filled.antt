-- An array that is filled with a list's pauses from its front. Assumes nothing.
use Prim.Native.Nat.{ℕ, ◌+◌, ◌≤◌, ◌<◌, min}
use mathlib.Core.List.{List}
use mathlib.Core.Logic.{⊎_elim}
use mathlib.Core.Path.{◌≡◌, sym, ◌∙◌}
use native.Mathlib.Nat.{eq-or-lt_of_le, not-suc-le-zero}
use native.Mathlib.Omega.{arith}
use lib.ListN.{length, get_or, set, replicate, length-set, length-replicate, get_or-replicate, get_or-eq_default}
use lib.Seq.{get_or-set_same, get_or-set_other, ext_get_or}
use Rattle.below.proofs.Tests.{le_or_lt}
use Rattle.pause.specs.declared.Pause.{Pause}
use Rattle.pause.specs.Pauses.{no_day, first_of}
use Rattle.pause.proofs.Lists.{length_first, first_at}

-- the array has the list's first i, and nothing behind them
pub record Filled (xs : List Pause) (i : ℕ) (at : List Pause) : Type 0 where
  pub long : length at ≡ 32
  pub same : (k : ℕ) → k < i → get_or at k no_day ≡ get_or xs k no_day
  pub none : (k : ℕ) → i ≤ k → k < 32 → get_or at k no_day ≡ no_day

module _ (xs : List Pause) where
  pub filled_none : Filled xs 0 (replicate 32 no_day)
  filled_none = record { long = length-replicate 32 no_day; same = λ k l. absurd (not-suc-le-zero l); none = λ k l h. get_or-replicate 32 k no_day no_day h }

  pub filled_more : {i : ℕ} {at : List Pause} {p : Pause} → i < 32 → p ≡ get_or xs i no_day → Filled xs i at → Filled xs (i + 1) (set at i p)
  filled_more {i} {at} {p} l e f = record {
    long = length-set at i p ∙ f.long;
    same = λ k h.
        ⊎_elim
        (λ (here : k ≡ i). rw (here, get_or-set_same at i p no_day (omega (arith, f.long))) e)
        (λ (before : k < i). get_or-set_other at i k p no_day (λ z. omega arith) ∙ f.same k before)
        (eq-or-lt_of_le (let z : k ≤ i = omega arith in z));
    none = λ k h q. get_or-set_other at i k p no_day (λ z. omega arith) ∙ f.none k (omega arith) q;
  }

  -- all of the list that there is, or as much as there is room for
  pub filled_all : {i : ℕ} {at : List Pause} → i ≡ min (length xs) 32 → Filled xs i at → at ≡ first_of 32 xs
  filled_all {i} {at} e f =
      ext_get_or no_day at (first_of 32 xs) (f.long ∙ sym (length_first xs 32))
      (λ k l.
      let h : k < 32 = omega (arith, f.long) in
      let here : get_or at k no_day ≡ get_or xs k no_day =
      ⊎_elim
      (λ (a : i ≤ k). f.none k a h ∙ sym (get_or-eq_default xs no_day (omega arith)))
      (λ (a : k < i). f.same k a)
      (le_or_lt i k) in
      here ∙ sym (first_at xs 32 k h))
