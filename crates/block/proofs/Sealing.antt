-- Laws of a block's sums and of sealing. Assumes nothing.
use Rattle.std.proofs.Common.{◌≡◌, ℕ, zero, suc, ◌+◌, ◌*◌, ◌^◌, ◌<◌, true, List, length, sym, refl, ◌∙◌, inl, suc-add, zero-add, arith, ext_get_or, eq-eqb, eqb-true}
use Rattle.below.proofs.Tests.{and_both}
use Rattle.block.specs.Bytes.{byte_at, word_at, bytes_of, put}
use Rattle.block.specs.Sums.{grown, summed, sums_of, sums_right, sealed}
use Rattle.block.specs.declared.Sums.{Sums}
use Rattle.block.proofs.Numbers.{AreBytes, number_same, length_bytes, bytes_number}
use Rattle.block.proofs.Put.{length_put, put_ahead, put_same, number_put, number_put_apart, put_own}

-- m words and then n more
pub summed_more : (s : Sums) (b : List ℕ) (i m n : ℕ) → summed s b i (m + n) ≡ summed (summed s b i m) b (i + 4 * m) n
unfolding summed
summed_more s b i zero n = let e : i + 4 * 0 ≡ i = omega arith in rw (zero-add, e)
summed_more s b i (suc m) n =
    let e : i + 4 * suc m ≡ i + 4 + 4 * m = omega arith in
    rw (suc-add, e) (summed_more (grown s (word_at b i)) b (i + 4) m n)

-- blocks with the same words have the same sums
pub summed_same : (s : Sums) (b c : List ℕ) (i n : ℕ) → ((j : ℕ) → j < i + 4 * n → byte_at b j ≡ byte_at c j) → summed s b i n ≡ summed s c i n
unfolding summed
summed_same s b c i zero h = refl
summed_same s b c i (suc n) h =
    let w : word_at b i ≡ word_at c i = number_same 4 b c i i (λ k l. h (i + k) (omega arith)) in
    rw w (summed_same (grown s (word_at c i)) b c (i + 4) n (λ j l. h j (omega arith)))

pub sums_same : (b c : List ℕ) → ((j : ℕ) → j < 504 → byte_at b j ≡ byte_at c j) → sums_of b ≡ sums_of c
unfolding sums_of
sums_same b c h = summed_same _ b c 0 126 (λ j l. h j (omega arith))

-- both sums drop what passes 32 bits
pub summed_fits : (s : Sums) (b : List ℕ) (i n : ℕ) → s.first < 2 ^ 32 → s.second < 2 ^ 32 → ((summed s b i n).first < 2 ^ 32) × ((summed s b i n).second < 2 ^ 32)
unfolding summed grown
summed_fits s b i zero f g = (f, g)
summed_fits s b i (suc n) f g = summed_fits (grown s (word_at b i)) b (i + 4) n (omega arith) (omega arith)

pub sums_fit : (b : List ℕ) → ((sums_of b).first < 2 ^ 32) × ((sums_of b).second < 2 ^ 32)
unfolding sums_of
sums_fit b = summed_fits _ b 0 126 (omega arith) (omega arith)

module _ (b : List ℕ) where
  pub sealed_is : length b ≡ 512 → sealed b ≡ put (put b 504 (bytes_of 4 (sums_of b).first)) 508 (bytes_of 4 (sums_of b).second)
  unfolding sealed
  sealed_is h = rw (eq-eqb _ _ h)

  -- sealing keeps the length, and every byte but 504 to 511
  pub length_sealed : length b ≡ 512 → length (sealed b) ≡ 512
  length_sealed h = rw (sealed_is h) (length_put _ _ _ ∙ length_put _ _ _ ∙ h)

  pub sealed_ahead : length b ≡ 512 → (j : ℕ) → j < 504 → byte_at (sealed b) j ≡ byte_at b j
  sealed_ahead h j l = rw (sealed_is h) (put_ahead _ _ _ j (omega arith) ∙ put_ahead _ _ _ j l)

  -- a sealed block's sums are right
  pub sealed_right : length b ≡ 512 → sums_right (sealed b) ≡ true
  unfolding sums_right
  sealed_right h =
      let s = sums_of b in
      let same : sums_of (sealed b) ≡ s = sums_same (sealed b) b (sealed_ahead h) in
      let n : length (put b 504 (bytes_of 4 s.first)) ≡ 512 = length_put _ _ _ ∙ h in
      let first : word_at (sealed b) 504 ≡ s.first =
      rw (sealed_is h)
      (number_put_apart (put b 504 (bytes_of 4 s.first)) 508 (bytes_of 4 s.second) 4 504 (inl (omega arith)) ∙
      number_put 4 b 504 s.first (omega arith) (sums_fit b).0) in
      let second : word_at (sealed b) 508 ≡ s.second =
      rw (sealed_is h) (number_put 4 (put b 504 (bytes_of 4 s.first)) 508 s.second (omega arith) (sums_fit b).1) in
      rw (same, eq-eqb _ _ (length_sealed h), eq-eqb _ _ first, eq-eqb _ _ second)

  -- a block whose sums are right is a sealed one: sealing it changes nothing
  pub right_sealed : AreBytes b → sums_right b ≡ true → sealed b ≡ b
  unfolding sums_right
  right_sealed bytes e =
      let s = sums_of b in
      let outer = and_both _ _ e in
      let inner = and_both _ _ outer.0 in
      let n : length b ≡ 512 = eqb-true _ _ inner.0 in
      let first : word_at b 504 ≡ s.first = eqb-true _ _ inner.1 in
      let second : word_at b 508 ≡ s.second = eqb-true _ _ outer.1 in
      let one : put b 504 (bytes_of 4 s.first) ≡ b =
      rw (← first, bytes_number 4 b 504 bytes (omega arith)) (put_own b 504 4 (omega arith)) in
      let two : put b 508 (bytes_of 4 s.second) ≡ b =
      rw (← second, bytes_number 4 b 508 bytes (omega arith)) (put_own b 508 4 (omega arith)) in
      rw (sealed_is n, one, two)

-- blocks that agree ahead of their sums are sealed alike
pub sealed_same : (b c : List ℕ) → length b ≡ 512 → length c ≡ 512 → ((j : ℕ) → j < 504 → byte_at b j ≡ byte_at c j) → sealed b ≡ sealed c
sealed_same b c m n h =
    let s = sums_of c in
    let first = bytes_of 4 s.first in
    let second = bytes_of 4 s.second in
    let x : length first ≡ 4 = length_bytes 4 s.first in
    let y : length second ≡ 4 = length_bytes 4 s.second in
    let k : length (put b 504 first) ≡ 512 = length_put _ _ _ ∙ m in
    let l : length (put c 504 first) ≡ 512 = length_put _ _ _ ∙ n in
    let one : (j : ℕ) → j < 508 → byte_at (put b 504 first) j ≡ byte_at (put c 504 first) j =
    λ j q. put_same b c 504 first (omega arith) (m ∙ sym n) h j (omega arith) in
    let two : (j : ℕ) → j < 512 → byte_at (put (put b 504 first) 508 second) j ≡ byte_at (put (put c 504 first) 508 second) j =
    λ j q. put_same (put b 504 first) (put c 504 first) 508 second (omega arith) (k ∙ sym l) one j (omega arith) in
    let long : length (put (put b 504 first) 508 second) ≡ 512 = length_put _ _ _ ∙ k in
    rw (sealed_is b m, sealed_is c n, sums_same b c h)
    (ext_get_or 0 (put (put b 504 first) 508 second) (put (put c 504 first) 508 second) (long ∙ sym (length_put _ _ _ ∙ l))
    (λ j q. two j (omega arith)))

-- so a block of bytes whose sums are right is what any block that agrees with it ahead of its sums is sealed to
pub sealed_again : (b r : List ℕ) → length b ≡ 512 → length r ≡ 512 → AreBytes r → sums_right r ≡ true → ((j : ℕ) → j < 504 → byte_at b j ≡ byte_at r j) → sealed b ≡ r
sealed_again b r m n bytes e h = sealed_same b r m n h ∙ right_sealed r bytes e
