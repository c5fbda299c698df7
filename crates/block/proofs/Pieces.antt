-- Bytes taken apart, piece by piece from the front: what stands there is what is written there. Assumes nothing.
use Rattle.std.proofs.Common.{◌≡◌, ℕ, suc, ◌+◌, ◌<◌, ◌≤◌, List, ◌∷◌, ◌++◌, length, take, drop, sym, take-append-drop, drop-cons, drop-drop}
use Rattle.block.specs.Bytes.{byte_at, number_at, bytes_of}
use Rattle.block.proofs.Numbers.{AreBytes, bytes_number}

module _ (s : List ℕ) where
  pub piece_cut : (o n : ℕ) → drop o s ≡ take n (drop o s) ++ drop (o + n) s
  piece_cut o n = rw (← (drop-drop n o s)) (sym (take-append-drop n (drop o s)))

  -- a number
  pub piece_number : AreBytes s → (o n : ℕ) {t : List ℕ} → o + n ≤ length s → drop (o + n) s ≡ t → drop o s ≡ bytes_of n (number_at n s o) ++ t
  piece_number bytes o n h e = rw (bytes_number n s o bytes h, ← e) (piece_cut o n)

  -- a byte
  pub piece_byte : (o : ℕ) {x : ℕ} {t : List ℕ} → o < length s → byte_at s o ≡ x → drop (suc o) s ≡ t → drop o s ≡ x ∷ t
  piece_byte o h f e = rw (← e, ← f) (drop-cons s o 0 h)
