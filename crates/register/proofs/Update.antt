-- A slot put into a register is read from it again; every other slot, and the bytes behind the slots, are as they were.
-- Assumes nothing.
use Prim.Native.Nat.{ℕ, ◌+◌, ◌*◌, ◌≤◌, ◌<◌}
use mathlib.Core.List.{List}
use mathlib.Core.Logic.{inl, inr, ⊎_elim}
use mathlib.Core.Path.{◌≡◌}
use native.Mathlib.Omega.{arith}
use lib.ListN.{length, drop, length-append, length-drop}
use lib.Seq.{drop_at, length-take-le}
use Rattle.below.proofs.Lists.{length_join, part_join}
use Rattle.below.proofs.Tests.{le_or_lt}
use Rattle.below.specs.Lists.{join_below}
use Rattle.block.proofs.Put.{length_put, part_put_here, part_put_apart, rest_put}
use Rattle.register.specs.Slots.{slots_of, slot_at, with_slot}
use Rattle.register.specs.Steps.{Call.clear, free_slot, changed}

-- a slot lies within the register
pub slot_within : (r : List ℕ) (i : ℕ) → i < slots_of r → i * 16896 + 16896 ≤ length r
slot_within r i l = omega arith

pub length_slot : (r : List ℕ) (i : ℕ) → i < slots_of r → length (slot_at r i) ≡ 16896
unfolding slot_at
length_slot r i l =
    length-take-le 16896 (drop (i * 16896) r) (rw length-drop (omega (arith, slot_within r i l)))

module _ (r : List ℕ) (i : ℕ) (s : List ℕ) (long : length s ≡ 16896) where
  pub slots_with : slots_of (with_slot r i s) ≡ slots_of r
  slots_with = rw (length_put r (i * 16896) s)

  module _ (l : i < slots_of r) where
    pub slot_here : slot_at (with_slot r i s) i ≡ s
    unfolding slot_at
    slot_here = rw long at (part_put_here r (i * 16896) s (omega (arith, slot_within r i l)))

    pub slot_apart : (j : ℕ) → j < slots_of r → (j ≡ i → ⊥) → slot_at (with_slot r i s) j ≡ slot_at r j
    unfolding slot_at
    slot_apart j q n =
        part_put_apart r (i * 16896) s (j * 16896) 16896
        (⊎_elim (λ (h : i ≤ j). inr (more i j h n)) (λ (h : j < i). inl (omega arith)) (le_or_lt i j))
        (slot_within r j q)
      where
        more : (i j : ℕ) → i ≤ j → (j ≡ i → ⊥) → i * 16896 + length s ≤ j * 16896
        more i j h n = ⊎_elim (λ (g : j ≤ i). absurd (n (omega arith))) (λ (g : i < j). omega arith) (le_or_lt j i)

    -- "bytes behind are never touched"
    pub behind_with : drop (slots_of r * 16896) (with_slot r i s) ≡ drop (slots_of r * 16896) r
    behind_with = rest_put r (i * 16896) s (slots_of r * 16896) (omega arith)

-- a register whose slots are all free
module _ (r : List ℕ) (long : length free_slot ≡ 16896) where
  slots_long : length (join_below (slots_of r) (λ (i : ℕ). free_slot)) ≡ slots_of r * 16896
  slots_long = length_join 16896 (λ (i : ℕ). free_slot) (slots_of r) (λ i l. long)

  pub length_cleared : length (changed r clear) ≡ length r
  unfolding changed
  length_cleared = rw (length-append, slots_long, length-drop) (omega arith)

  pub slots_cleared : slots_of (changed r clear) ≡ slots_of r
  slots_cleared = rw length_cleared

  pub slot_cleared : (i : ℕ) → i < slots_of r → slot_at (changed r clear) i ≡ free_slot
  unfolding changed slot_at
  slot_cleared i l = part_join 16896 (λ (i : ℕ). free_slot) (slots_of r) (λ i l. long) i l (drop (slots_of r * 16896) r)

  pub behind_cleared : drop (slots_of r * 16896) (changed r clear) ≡ drop (slots_of r * 16896) r
  unfolding changed
  behind_cleared = drop_at (join_below (slots_of r) (λ (i : ℕ). free_slot)) (drop (slots_of r * 16896) r) (slots_of r * 16896) slots_long
