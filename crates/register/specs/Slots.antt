-- "A lent buffer of slots of 16,896 bytes: a control block, then room for a plan, zero behind it."
use Rattle.std.specs.Prelude.{ℕ, ◌+◌, ◌-◌, ◌*◌, ◌/◌, min, Bool, not, ◌&&◌, List, ◌∷◌, ◌++◌, eqb, ltb, length, take, drop, replicate}
use Rattle.below.specs.Below.{first_below}
use Rattle.block.specs.Bytes.{byte_at, word_at, bytes_of, put}
use Rattle.block.specs.Sums.{sealed}
use Rattle.plan.specs.Fields.{plan_number_of}
use Rattle.layout.specs.Layout.{filled}

abbrev pub slot_size : ℕ
slot_size = 16896

-- the room for a plan
abbrev pub room_size : ℕ
room_size = 16384

-- "Slots = length div 16,896, at most 64; bytes behind are never touched."
abbrev pub slots_of : List ℕ → ℕ
slots_of r = min (length r / slot_size) 64

unfoldable pub slot_at : List ℕ → ℕ → List ℕ
slot_at r i = take slot_size (drop (i * slot_size) r)

-- "Control: byte 0 = 4; byte 1 = the plan's blocks, 0 = free; 4-7 first signer, 8-11 second, 0 = none."
abbrev pub control_of : List ℕ → List ℕ
control_of s = take 512 s

abbrev pub blocks_in : List ℕ → ℕ
blocks_in s = byte_at s 1

abbrev pub first_signer : List ℕ → ℕ
first_signer s = word_at s 4

abbrev pub second_signer : List ℕ → ℕ
second_signer s = word_at s 8

abbrev pub is_free : List ℕ → Bool
is_free s = eqb (blocks_in s) 0

-- the plan that a slot holds, and what is behind it
unfoldable pub plan_in : List ℕ → List ℕ
plan_in s = take (blocks_in s * 512) (drop 512 s)

unfoldable pub rest_of : List ℕ → List ℕ
rest_of s = drop (512 + blocks_in s * 512) s

-- a slot's bytes, from its plan (none where it is free) and its signers
unfoldable pub control_bytes : ℕ → ℕ → ℕ → List ℕ
control_bytes blocks first second = sealed (filled (4 ∷ blocks ∷ 0 ∷ 0 ∷ bytes_of 4 first ++ bytes_of 4 second))

unfoldable pub slot_bytes : List ℕ → ℕ → ℕ → List ℕ
slot_bytes plan first second =
    control_bytes (length plan / 512) first second ++ (plan ++ replicate (room_size - length plan) 0)

-- a register with these bytes in the place of slot i
abbrev pub with_slot : List ℕ → ℕ → List ℕ → List ℕ
with_slot r i s = put r (i * slot_size) s

-- a slot holds a plan with this number
abbrev pub holds : List ℕ → ℕ → Bool
holds s number = not (is_free s) && eqb (plan_number_of (plan_in s)) number

-- slot i does
abbrev pub holds_at : List ℕ → ℕ → ℕ → Bool
holds_at r number i = holds (slot_at r i) number

-- the slot that holds this number; the number of slots where none does
unfoldable pub held_at : List ℕ → ℕ → ℕ
held_at r number = first_below (slots_of r) (holds_at r number)

abbrev pub is_held : List ℕ → ℕ → Bool
is_held r number = ltb (held_at r number) (slots_of r)

-- "lowest free slot"; the number of slots where none is free
unfoldable pub free_at : List ℕ → ℕ
free_at r = first_below (slots_of r) (λ i. is_free (slot_at r i))

abbrev pub has_free : List ℕ → Bool
has_free r = ltb (free_at r) (slots_of r)

-- the slot and the plan under a number that is held
abbrev pub slot_under : List ℕ → ℕ → List ℕ
slot_under r number = slot_at r (held_at r number)

abbrev pub plan_under : List ℕ → ℕ → List ℕ
plan_under r number = plan_in (slot_under r number)
