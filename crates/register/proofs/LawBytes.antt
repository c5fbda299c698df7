-- What the calls leave is bytes again, where the register and the plan were. Assumes nothing.
use Prim.Native.Nat.{ℕ, ◌-◌, ◌*◌, ◌/◌, ◌<◌}
use mathlib.Core.List.{List, [], ◌∷◌, ◌++◌}
use native.Mathlib.Omega.{arith}
use lib.ListN.{length}
use Rattle.block.proofs.Numbers.{AreBytes}
use Rattle.block.specs.Bytes.{bytes_of}
use Rattle.layout.proofs.Blocks.{length_filled}
use Rattle.layout.proofs.Bytes.{Bytes, every_byte, are_bytes, part_bytes_lem, of_number, zero_bytes, put_bytes, sealed_bytes}
use Rattle.layout.proofs.Every.{every_append, every_drop, every_join}
use Rattle.below.specs.Lists.{Every.none, Every.more}
use Rattle.layout.specs.Layout.{filled}
use Rattle.register.specs.Slots.{slots_of, slot_at, blocks_in, plan_in, control_bytes, slot_bytes, with_slot}
use Rattle.register.specs.Steps.{Call.clear, free_slot, changed}
use Rattle.register.proofs.Own.{Whole, empty_whole}

of_control : (k a b : ℕ) → k < 256 → Bytes (control_bytes k a b)
unfolding control_bytes filled bytes_of
of_control k a b l =
    sealed_bytes _ (length_filled (4 ∷ k ∷ 0 ∷ 0 ∷ bytes_of 4 a ++ bytes_of 4 b) (omega arith))
    (every_append
    (every_append
    (more {x = 4} (omega arith) (more {x = k} l (more {x = 0} (omega arith) (more {x = 0} (omega arith) (of_number 4 a)))))
    (of_number 4 b))
    (zero_bytes 500))

of_slot : (p : List ℕ) (a b : ℕ) → Whole p → Bytes p → Bytes (slot_bytes p a b)
unfolding slot_bytes
of_slot p a b w h =
    every_append (of_control (length p / 512) a b (omega (arith, w.most))) (every_append h (zero_bytes (16384 - length p)))

-- an encoded slot
pub bytes_slot : (p : List ℕ) (a b : ℕ) → Whole p → AreBytes p → AreBytes (slot_bytes p a b)
bytes_slot p a b w h = are_bytes (of_slot p a b w (every_byte p h))

-- a register with a slot put in its place
pub bytes_with : (r : List ℕ) (i : ℕ) (s : List ℕ) → AreBytes r → AreBytes s → AreBytes (with_slot r i s)
bytes_with r i s h g = are_bytes (put_bytes r (i * 16896) s (every_byte r h) (every_byte s g))

-- a slot of a register, and its plan
pub bytes_at : (r : List ℕ) (i : ℕ) → AreBytes r → AreBytes (slot_at r i)
unfolding slot_at
bytes_at r i h = part_bytes_lem r (i * 16896) 16896 h

pub bytes_plan : (s : List ℕ) → AreBytes s → AreBytes (plan_in s)
unfolding plan_in
bytes_plan s h = part_bytes_lem s 512 (blocks_in s * 512) h

-- a cleared register
pub bytes_cleared : (r : List ℕ) → AreBytes r → AreBytes (changed r clear)
unfolding changed
bytes_cleared r h =
    are_bytes
    (every_append
    (every_join (slots_of r) (λ (i : ℕ). free_slot) (λ i l. of_slot [] 0 0 empty_whole none))
    (every_drop (slots_of r * 16896) (every_byte r h)))
