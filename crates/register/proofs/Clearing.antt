-- Clear, slot by slot: it begins, turns and ends. And drop. Assumes nothing.
use Prim.Native.Nat.{ℕ, zero, suc, ◌+◌, ◌*◌, ◌≤◌, ◌<◌}
use mathlib.Core.Bool.{true, false}
use mathlib.Core.List.{List, [], ◌++◌}
use mathlib.Core.Path.{◌≡◌, refl, ap, ◌∙◌}
use native.Mathlib.Omega.{arith}
use lib.ListN.{length, take, drop as from, length-append}
use lib.Seq.{take_at, drop-append-add, drop-drop}
use borrow.Author.Tests.{lt-ltb}
use Rattle.below.specs.Lists.{join_below}
use Rattle.below.proofs.Lists.{join_zero, join_more}
use Rattle.block.proofs.Put.{put_in, length_put}
use Rattle.refusal.specs.Refusals.{alone}
use Rattle.register.specs.Slots.{slots_of, with_slot, held_at, is_held}
use Rattle.register.specs.Sound.{sound}
use Rattle.register.specs.Steps.{Call.clear, Call.drop as dropped, done, refused_by, free_slot, changed}
use Rattle.register.proofs.Update.{slot_within}
use Rattle.register.proofs.Writing.{length_slot_bytes}

length_free : length free_slot ≡ 16896
length_free = length_slot_bytes [] 0 0 (omega arith)

-- i free slots
abbrev pub freed : ℕ → List ℕ
freed i = join_below i (λ k. free_slot)

length_freed : (i : ℕ) → length (freed i) ≡ i * 16896
unfolding join_below
length_freed zero = refl
length_freed (suc i) = length-append (freed i) free_slot ∙ omega (arith, length_freed i, length_free)

module _ (r : List ℕ) where
  pub clear_begin : r ≡ freed 0 ++ from (0 * 16896) r
  clear_begin = rw join_zero

  pub clear_turn : (i : ℕ) → i < slots_of r → {s t : List ℕ} → s ≡ freed i ++ from (i * 16896) r → length s ≡ length r → t ≡ with_slot s i free_slot → (length t ≡ length r) × (t ≡ freed (i + 1) ++ from ((i + 1) * 16896) r)
  clear_turn i l {s} {t} e n f =
      let fits : i * 16896 + length free_slot ≤ length s = omega (arith, slot_within r i l, length_free) in
      let ahead : take (i * 16896) s ≡ freed i = rw e (take_at (freed i) (from (i * 16896) r) (i * 16896) (length_freed i)) in
      let next : i * 16896 + 16896 ≡ (i + 1) * 16896 = omega arith in
      let there : i * 16896 + 16896 ≡ length (freed i) + 16896 = omega (arith, length_freed i) in
      let behind : from (i * 16896 + 16896) s ≡ from ((i + 1) * 16896) r =
      rw (e, there) (drop-append-add (freed i) (from (i * 16896) r) 16896 ∙ drop-drop 16896 (i * 16896) r ∙ ap (λ (k : ℕ). from k r) next) in
      let more : with_slot s i free_slot ≡ freed (i + 1) ++ from ((i + 1) * 16896) r =
      put_in s (i * 16896) free_slot fits ∙ rw (length_free, ahead, behind, join_more i (λ k. free_slot)) in
      (rw f (length_put s (i * 16896) free_slot) ∙ n, f ∙ more)

  pub clear_end : {i n : ℕ} → n ≡ slots_of r → n ≤ i → i ≤ n → {s : List ℕ} → s ≡ freed i ++ from (i * 16896) r → s ≡ changed r clear
  unfolding changed
  clear_end {i} {n} e a b f = let k : i ≡ slots_of r = omega arith in rw k at f

  pub clear_none : {n : ℕ} → n ≡ slots_of r → n ≡ 0 → refused_by r clear ≡ alone 30
  unfolding refused_by
  clear_none a b = rw (← a, b)

  pub clear_passed : {n : ℕ} → n ≡ slots_of r → (n ≡ 0 → ⊥) → refused_by r clear ≡ done
  unfolding refused_by
  clear_passed {n} a b = let l : 0 < n = omega arith in rw (← a, lt-ltb _ _ l)

-- drop
module _ (r : List ℕ) (number : ℕ) where
  pub drop_unsound : sound r ≡ false → refused_by r (dropped number) ≡ alone 30
  unfolding refused_by
  drop_unsound e = rw e

  pub drop_unheld : sound r ≡ true → is_held r number ≡ false → refused_by r (dropped number) ≡ alone 33
  unfolding refused_by
  drop_unheld e f = rw (e, f)

  pub drop_passed : sound r ≡ true → is_held r number ≡ true → refused_by r (dropped number) ≡ done
  unfolding refused_by
  drop_passed e f = rw (e, f)

  pub drop_left : {h : ℕ} → held_at r number ≡ h → {s : List ℕ} → s ≡ with_slot r h free_slot → s ≡ changed r (dropped number)
  unfolding changed
  drop_left a b = b ∙ rw (← a)
