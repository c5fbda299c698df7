-- The bytes of a dose record, read and written. Assumes nothing.
use Prim.Native.Nat.{ℕ, suc, ◌+◌, ◌*◌, ◌/◌, ◌%◌, ◌≤◌, ◌<◌}
use mathlib.Core.List.{List, [], ◌∷◌, ◌++◌, append_assoc}
use mathlib.Core.Path.{◌≡◌, refl, sym, ◌∙◌}
use native.Mathlib.Omega.{arith}
use lib.Dec.{eqb}
use lib.ListN.{length, drop, length-append, length-drop}
use lib.Seq.{length-take-le, get_or-take, get_or-drop}
use Rattle.block.proofs.Numbers.{AreBytes, number_fits, length_bytes}
use Rattle.block.proofs.Put.{put_out}
use Rattle.block.proofs.Puts.{put_join}
use Rattle.block.specs.Bytes.{byte_at, number_at, half_at, word_at, long_at, bytes_of, put}
use Rattle.plan.specs.Fields.{record_at, dose_of, dose_bytes, is_marked}
use Rattle.plan.specs.declared.Dose.{Dose}

-- the mark of a record, and that of record i of a block, is one of its bytes
pub mark_of : (d : List ℕ) → is_marked (dose_of d) ≡ eqb (byte_at d 3) 1
unfolding dose_of
mark_of d = refl

pub mark_at : (r : List ℕ) (i : ℕ) → is_marked (dose_of (record_at r i)) ≡ eqb (byte_at r (24 + i * 24 + 3)) 1
mark_at r i =
    let a : byte_at (record_at r i) 3 ≡ byte_at r (24 + i * 24 + 3) = get_or-take 24 (drop (24 + i * 24) r) 3 0 (omega arith) ∙ get_or-drop (24 + i * 24) r 3 0 in
    mark_of (record_at r i) ∙ rw a refl

-- a record that the block has whole
pub length_record : (r : List ℕ) (i : ℕ) → 24 + i * 24 + 24 ≤ length r → length (record_at r i) ≡ 24
length_record r i h = length-take-le 24 (drop (24 + i * 24) r) (rw length-drop (omega arith))

-- each dose has 24 bytes
pub length_dose : (d : Dose) → length (dose_bytes d) ≡ 24
unfolding dose_bytes bytes_of
length_dose d = refl

-- what is shorter than a record stays
pub dose_lost : (s : List ℕ) (d : Dose) → length s < 24 → s ≡ put s 0 (dose_bytes d)
dose_lost s d h = sym (put_out s 0 (dose_bytes d) (omega (arith, length_dose d)))

-- a dose, field by field
pub dose_written : (s : List ℕ) (d : Dose) → 24 ≤ length s →
    put (put (put (put (put (put s 0 (bytes_of 2 d.day)) 2 (d.kind ∷ d.mark ∷ [])) 4 (bytes_of 2 d.minute)) 6 (bytes_of 2 0)) 8 (bytes_of 8 d.low)) 16 (bytes_of 8 d.high) ≡ put s 0 (dose_bytes d)
unfolding bytes_of dose_bytes
dose_written s d n =
    let day = bytes_of 2 d.day in
    let kind : List ℕ = d.kind ∷ d.mark ∷ [] in
    let minute = bytes_of 2 d.minute in
    let zeros = bytes_of 2 0 in
    let low = bytes_of 8 d.low in
    let high = bytes_of 8 d.high in
    rw (put_join s 0 day 2 kind refl (omega arith), put_join s 0 (day ++ kind) 4 minute refl (omega arith), put_join s 0 (day ++ kind ++ minute) 6 zeros refl (omega arith), put_join s 0 (day ++ kind ++ minute ++ zeros) 8 low refl (omega arith), put_join s 0 (day ++ kind ++ minute ++ zeros ++ low) 16 high refl (omega arith)) refl

-- the first byte of a number that is read
first_byte : (w : ℕ) (r : List ℕ) (i : ℕ) → AreBytes r → bytes_of (suc w) (number_at (suc w) r i) ≡ byte_at r i ∷ bytes_of w (number_at w r (i + 1))
unfolding number_at bytes_of
first_byte w r i bytes =
    let n = number_at w r (i + 1) in
    let a : (byte_at r i + 256 * n) % 256 ≡ byte_at r i = omega (arith, bytes i) in
    let b : (byte_at r i + 256 * n) / 256 ≡ n = omega (arith, bytes i) in
    rw (a, b)

no_bytes : (x : ℕ) → bytes_of 0 x ≡ []
unfolding bytes_of
no_bytes x = refl

-- a word of them, and a half with zeros behind it
word_bytes : (r : List ℕ) → AreBytes r → bytes_of 4 (word_at r 0) ≡ bytes_of 2 (half_at r 0) ++ (byte_at r 2 ∷ byte_at r 3 ∷ [])
word_bytes r bytes =
    rw (first_byte 3 r 0 bytes, first_byte 2 r 1 bytes, first_byte 1 r 2 bytes, first_byte 0 r 3 bytes, first_byte 1 r 0 bytes, first_byte 0 r 1 bytes, no_bytes (number_at 0 r 4), no_bytes (number_at 0 r 2))

half_bytes : (r : List ℕ) → AreBytes r → bytes_of 4 (half_at r 4) ≡ bytes_of 2 (half_at r 4) ++ (0 ∷ 0 ∷ [])
unfolding bytes_of
half_bytes r bytes =
    let x = half_at r 4 in
    let l : x < 65536 = number_fits 2 r 4 bytes in
    let a : x / 256 / 256 ≡ 0 = omega arith in
    rw a

-- a dose, copied by its numbers
pub dose_copied : (s r : List ℕ) → 24 ≤ length s → AreBytes r →
    put (put (put (put s 0 (bytes_of 4 (word_at r 0))) 4 (bytes_of 4 (half_at r 4))) 8 (bytes_of 8 (long_at r 8))) 16 (bytes_of 8 (long_at r 16)) ≡ put s 0 (dose_bytes (dose_of r))
unfolding dose_bytes dose_of
dose_copied s r n bytes =
    let a = bytes_of 4 (word_at r 0) in
    let b = bytes_of 4 (half_at r 4) in
    let c = bytes_of 8 (long_at r 8) in
    let d = bytes_of 8 (long_at r 16) in
    let la : length a ≡ 4 = length_bytes 4 (word_at r 0) in
    let lb : length b ≡ 4 = length_bytes 4 (half_at r 4) in
    let lc : length c ≡ 8 = length_bytes 8 (long_at r 8) in
    let ld : length d ≡ 8 = length_bytes 8 (long_at r 16) in
    let ab : length (a ++ b) ≡ 8 = length-append a b ∙ omega arith in
    let abc : length (a ++ b ++ c) ≡ 16 = length-append (a ++ b) c ∙ omega arith in
    rw (put_join s 0 a 4 b (omega arith) (omega arith), put_join s 0 (a ++ b) 8 c (omega arith) (omega arith), put_join s 0 (a ++ b ++ c) 16 d (omega arith) (omega arith), word_bytes r bytes, half_bytes r bytes, all (bytes_of 2 (half_at r 0)) (bytes_of 2 (half_at r 4)) (byte_at r 2) (byte_at r 3) c d) refl
  where
    all : (x y : List ℕ) (k m : ℕ) (c d : List ℕ) → x ++ (k ∷ m ∷ []) ++ (y ++ (0 ∷ 0 ∷ [])) ++ c ++ d ≡ x ++ (k ∷ m ∷ y ++ (0 ∷ 0 ∷ c ++ d))
    all x y k m c d = simp append_assoc
