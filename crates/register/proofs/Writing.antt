-- The stores into a slot make the bytes that are laid out. Assumes nothing.
use Prim.Native.Nat.{ℕ, ◌+◌, ◌-◌, ◌*◌, ◌/◌, ◌≤◌, ◌<◌}
use mathlib.Core.List.{List, [], ◌∷◌, ◌++◌, append_assoc}
use mathlib.Core.Path.{◌≡◌, refl, ap, ◌∙◌}
use native.Mathlib.Omega.{arith}
use lib.ListN.{length, take, drop, replicate, length-append, length-replicate, length-drop}
use lib.Seq.{length-take-le}
use borrow.Rule.Slice.PartMut.{put_mid}
use Rattle.block.specs.Bytes.{bytes_of, put}
use Rattle.block.specs.Sums.{sealed}
use Rattle.block.proofs.Front.{Front, front_more, front_all}
use Rattle.block.proofs.Put.{length_put, part_put}
use Rattle.block.proofs.Sealing.{length_sealed}
use Rattle.layout.specs.Layout.{filled}
use Rattle.register.specs.Slots.{slots_of, control_bytes, slot_bytes, with_slot}
use Rattle.register.proofs.Update.{slot_within}

-- a control block, field by field into a cleared block
fields_filled : (blocks first second : ℕ) → put (put (put (replicate 512 0) 0 (4 ∷ blocks ∷ [])) 4 (bytes_of 4 first)) 8 (bytes_of 4 second) ≡ filled (4 ∷ blocks ∷ 0 ∷ 0 ∷ bytes_of 4 first ++ bytes_of 4 second)
unfolding put bytes_of filled
fields_filled blocks first second = refl

pub control_filled : (blocks first second : ℕ) → sealed (put (put (put (replicate 512 0) 0 (4 ∷ blocks ∷ [])) 4 (bytes_of 4 first)) 8 (bytes_of 4 second)) ≡ control_bytes blocks first second
unfolding control_bytes
control_filled blocks first second = ap sealed (fields_filled blocks first second)

pub length_control : (blocks first second : ℕ) → length (control_bytes blocks first second) ≡ 512
unfolding control_bytes filled bytes_of
length_control blocks first second = length_sealed (filled (4 ∷ blocks ∷ 0 ∷ 0 ∷ bytes_of 4 first ++ bytes_of 4 second)) refl

-- a slot, run by run over any slot: with its control block c and the plan it is t, and the part behind that came back as z
pub slot_filled : (s p : List ℕ) (first second : ℕ) → length s ≡ 16896 → length p ≤ 16384 → {blocks : ℕ} → blocks ≡ length p / 512 → {c t z : List ℕ} → c ≡ control_bytes blocks first second → t ≡ put (put s 0 c) 512 p →
    z ≡ replicate (length (take (length t - (512 + length p)) (drop (512 + length p) t))) 0 →
    put_mid (512 + length p) (length t - (512 + length p)) t z ≡ slot_bytes p first second
unfolding slot_bytes
slot_filled s p first second n l {blocks} b {c} {t} {z} e f g =
    let k : length c ≡ 512 = rw e (length_control blocks first second) in
    let long : length t ≡ 16896 = rw f (length_put _ _ _ ∙ length_put _ _ _ ∙ n) in
    let more : length (take (length t - (512 + length p)) (drop (512 + length p) t)) ≡ 16384 - length p =
    length-take-le (length t - (512 + length p)) (drop (512 + length p) t) (rw length-drop (omega arith)) ∙ omega arith in
    let zero : z ≡ replicate (16384 - length p) 0 = g ∙ rw more in
    let m : length z ≡ 16384 - length p = rw zero (length-replicate (16384 - length p) 0) in
    let two : put_mid (512 + length p) (length t - (512 + length p)) t z ≡ put t (512 + length p) z =
    part_put t z (512 + length p) (length t) (omega arith) (omega arith) (omega arith) in
    let none : Front 16896 [] s = record { front = refl; whole = n } in
    let control = front_more none 0 c refl (omega arith) in
    let plan = front_more control 512 p k (omega arith) in
    let rest = front_more plan (512 + length p) z (rw length-append (omega arith)) (omega arith) in
    let all : put (put (put s 0 c) 512 p) (512 + length p) z ≡ c ++ p ++ z = front_all rest (rw (length-append, length-append) (omega arith)) in
    two ∙ rw (f, all, zero, e, b) (append_assoc (control_bytes (length p / 512) first second) p (replicate (16384 - length p) 0))

pub length_slot_bytes : (p : List ℕ) (first second : ℕ) → length p ≤ 16384 → length (slot_bytes p first second) ≡ 16896
unfolding slot_bytes
length_slot_bytes p first second l =
    let z : List ℕ = replicate (16384 - length p) 0 in
    rw (length-append, length-append, length_control (length p / 512) first second, length-replicate) (omega arith)

-- a register's slot came back
pub slot_back : (r p : List ℕ) (i first second : ℕ) → i < slots_of r → length p ≤ 16384 → {s : List ℕ} → s ≡ slot_bytes p first second →
    put_mid (i * 16896) (i * 16896 + 16896 - i * 16896) r s ≡ with_slot r i (slot_bytes p first second)
slot_back r p i first second l h {s} e =
    rw e (part_put r (slot_bytes p first second) (i * 16896) (i * 16896 + 16896) (omega arith) (slot_within r i l) (length_slot_bytes p first second h ∙ omega arith))
