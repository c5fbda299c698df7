-- Laws of bytes that are put at a place: what is read back, and what stays. Assumes nothing.
use Rattle.std.proofs.Common.{◌≡◌, ℕ, ◌+◌, ◌-◌, ◌^◌, ◌<◌, ◌≤◌, ◌⊎◌, List, ◌++◌, length, take, drop, sym, refl, ap, ◌∙◌, ⊎_elim, append_assoc, arith, length-append, length-drop, take-append-drop, length-take-le, get_or-drop, get_or-take, drop-drop, take_at, get_or-append-add, ext_get_or, drop_at, le-leb}
use lib.ListN.{get_or-append}
use borrow.Author.Tests.{lt-leb}
use borrow.Rule.Slice.PartMut.{put_mid, Post-is}
use Rattle.below.proofs.Tests.{le_or_lt}
use Rattle.block.specs.Bytes.{byte_at, number_at, bytes_of, put}
use Rattle.block.proofs.Numbers.{number_same, number_bytes, length_bytes}

module _ (s : List ℕ) (i : ℕ) (bs : List ℕ) where
  -- where they fit, and where not
  pub put_in : i + length bs ≤ length s → put s i bs ≡ take i s ++ bs ++ drop (i + length bs) s
  unfolding put
  put_in h = rw (le-leb _ _ h)

  pub put_out : length s < i + length bs → put s i bs ≡ s
  unfolding put
  put_out h = rw (lt-leb _ _ h)

  pub length_put : length (put s i bs) ≡ length s
  length_put =
      ⊎_elim
      (λ h. rw (put_in h) (simp (length-append, length-drop) (omega (arith, length-take-le i s (omega arith)))))
      (λ h. rw (put_out h))
      (le_or_lt (i + length bs) (length s))

  -- a byte ahead of them or behind them is as it was
  pub put_ahead : (j : ℕ) → j < i → byte_at (put s i bs) j ≡ byte_at s j
  put_ahead j l =
      ⊎_elim
      (λ h.
      let n : length (take i s) ≡ i = length-take-le i s (omega arith) in
      let a : j < length (take i s) = omega arith in
      let b : j < length (take i s ++ bs) = rw length-append (omega arith) in
      rw (put_in h, get_or-append (take i s ++ bs) (drop (i + length bs) s) 0 j b, get_or-append (take i s) bs 0 j a, get_or-take i s j 0 l))
      (λ h. rw (put_out h))
      (le_or_lt (i + length bs) (length s))

  pub put_behind : (j : ℕ) → i + length bs ≤ j → byte_at (put s i bs) j ≡ byte_at s j
  put_behind j l =
      ⊎_elim
      (λ h.
      let n : length (take i s ++ bs) ≡ i + length bs = rw length-append (omega (arith, length-take-le i s (omega arith))) in
      let k = j - (i + length bs) in
      let e : j ≡ length (take i s ++ bs) + k = omega arith in
      let f : i + length bs + k ≡ j = omega arith in
      rw (put_in h) (ap (λ (m : ℕ). byte_at (take i s ++ bs ++ drop (i + length bs) s) m) e ∙ get_or-append-add (take i s ++ bs) (drop (i + length bs) s) k 0 ∙ get_or-drop (i + length bs) s k 0 ∙ ap (λ (m : ℕ). byte_at s m) f))
      (λ h. rw (put_out h))
      (le_or_lt (i + length bs) (length s))

  -- and they themselves stand there
  pub put_here : i + length bs ≤ length s → (k : ℕ) → k < length bs → byte_at (put s i bs) (i + k) ≡ byte_at bs k
  put_here h k l =
      let n : length (take i s) ≡ i = length-take-le i s (omega arith) in
      let a : i + k < length (take i s ++ bs) = rw length-append (omega arith) in
      rw (put_in h, get_or-append (take i s ++ bs) (drop (i + length bs) s) 0 (i + k) a)
      (ap (λ (m : ℕ). byte_at (take i s ++ bs) (m + k)) (sym n) ∙ get_or-append-add (take i s) bs k 0)

  -- a number that does not reach into them is as it was
  pub number_put_apart : (w j : ℕ) → (j + w ≤ i) ⊎ (i + length bs ≤ j) → number_at w (put s i bs) j ≡ number_at w s j
  number_put_apart w j apart =
      number_same w (put s i bs) s j j
      (λ k l. ⊎_elim (λ h. put_ahead (j + k) (omega arith)) (λ h. put_behind (j + k) (omega arith)) apart)

-- the bytes that were put are a part of what they were put into; a part apart from them is as it was
module _ (s : List ℕ) (i : ℕ) (bs : List ℕ) where
  pub part_put_here : i + length bs ≤ length s → take (length bs) (drop i (put s i bs)) ≡ bs
  part_put_here h =
      rw (put_in s i bs h, append_assoc (take i s) bs (drop (i + length bs) s), drop_at (take i s) (bs ++ drop (i + length bs) s) i (length-take-le i s (omega arith)))
      (take_at bs (drop (i + length bs) s) (length bs) refl)

  pub part_put_apart : (a n : ℕ) → (a + n ≤ i) ⊎ (i + length bs ≤ a) → a + n ≤ length s → take n (drop a (put s i bs)) ≡ take n (drop a s)
  part_put_apart a n apart h =
      let x : length (take n (drop a (put s i bs))) ≡ n = length-take-le n _ (rw (length-drop, length_put s i bs) (omega arith)) in
      let y : length (take n (drop a s)) ≡ n = length-take-le n _ (rw length-drop (omega arith)) in
      ext_get_or 0 (take n (drop a (put s i bs))) (take n (drop a s)) (x ∙ sym y)
      (λ k l.
      let q : k < n = rw x at l in
      rw (get_or-take n (drop a (put s i bs)) k 0 q, get_or-take n (drop a s) k 0 q, get_or-drop a (put s i bs) k 0, get_or-drop a s k 0)
      (⊎_elim (λ g. put_ahead s i bs (a + k) (omega arith)) (λ g. put_behind s i bs (a + k) (omega arith)) apart))

  -- and so is all that is behind them
  pub rest_put : (a : ℕ) → i + length bs ≤ a → drop a (put s i bs) ≡ drop a s
  rest_put a h =
      ext_get_or 0 (drop a (put s i bs)) (drop a s) (rw (length-drop, length-drop, length_put s i bs))
      (λ k l. rw (get_or-drop a (put s i bs) k 0, get_or-drop a s k 0) (put_behind s i bs (a + k) (omega arith)))

-- lists that agree ahead of what is put into both agree up to its end
pub put_same : (s t : List ℕ) (i : ℕ) (bs : List ℕ) → i + length bs ≤ length s → length s ≡ length t → ((j : ℕ) → j < i → byte_at s j ≡ byte_at t j) →
    (j : ℕ) → j < i + length bs → byte_at (put s i bs) j ≡ byte_at (put t i bs) j
put_same s t i bs h n e j l =
    ⊎_elim
    (λ (a : i ≤ j).
    let k = j - i in
    let z : j ≡ i + k = omega arith in
    rw z (put_here s i bs h k (omega arith) ∙ sym (put_here t i bs (omega arith) k (omega arith))))
    (λ (a : j < i). put_ahead s i bs j a ∙ e j a ∙ sym (put_ahead t i bs j a))
    (le_or_lt i j)

-- a number that was put is read again
pub number_put : (w : ℕ) (s : List ℕ) (i x : ℕ) → i + w ≤ length s → x < 256 ^ w → number_at w (put s i (bytes_of w x)) i ≡ x
number_put w s i x h f =
    let n = length_bytes w x in
    number_same w (put s i (bytes_of w x)) (bytes_of w x) i 0
    (λ k l.
    let z : 0 + k ≡ k = omega arith in
    rw z (put_here s i (bytes_of w x) (omega arith) k (omega arith))) ∙
    number_bytes w x f

-- what stands there already, put there, changes nothing
pub put_own : (s : List ℕ) (i n : ℕ) → i + n ≤ length s → put s i (take n (drop i s)) ≡ s
put_own s i n h =
    let m : length (take n (drop i s)) ≡ n = length-take-le n (drop i s) (rw length-drop (omega arith)) in
    rw (put_in s i (take n (drop i s)) (omega arith), m, ← drop-drop, append_assoc, take-append-drop, take-append-drop)

-- a part of a slice that was lent and has come back as bs
pub part_put : (s bs : List ℕ) (a e : ℕ) → a ≤ e → e ≤ length s → length bs ≡ e - a → put_mid a (e - a) s bs ≡ put s a bs
part_put s bs a e h k n =
    let f : a + length bs ≡ e = omega arith in
    rw (put_in s a bs (omega arith), Post-is a e s h, f, append_assoc)
