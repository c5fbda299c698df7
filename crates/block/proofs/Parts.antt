-- Numbers in bytes that were taken from a list, and std's own words for them. Assumes nothing.
use Rattle.std.proofs.Common.{◌≡◌, ℕ, ◌+◌, ◌≤◌, List, refl, ◌∙◌, arith}
use Rattle.std.specs.Int.{w16, w32, w64, from_le_bytes}
use Rattle.block.specs.Bytes.{number_at}
use Rattle.block.specs.Code.Parts.{StandsAt}
use Rattle.block.proofs.Numbers.{number_same}

-- a number in what was taken is that in its own place
pub number_taken : (s : List ℕ) (i : ℕ) (bs : List ℕ) {n : ℕ} → StandsAt n s i bs → (w j : ℕ) → j + w ≤ n → number_at w bs j ≡ number_at w s (i + j)
number_taken s i bs {n} h w j l =
    number_same w bs s j (i + j)
    (λ k q. let e : i + j + k ≡ i + (j + k) = omega arith in rw e (h.1 (j + k) (omega arith)))

pub number_first : (s : List ℕ) (i : ℕ) (bs : List ℕ) {n : ℕ} → StandsAt n s i bs → (w : ℕ) → w ≤ n → number_at w bs 0 ≡ number_at w s i
number_first s i bs {n} h w l = number_taken s i bs h w 0 (omega arith) ∙ (let e : i + 0 ≡ i = omega arith in rw e refl)

module _ (bs : List ℕ) where
  pub read_half : from_le_bytes w16 bs ≡ number_at 2 bs 0
  unfolding number_at
  read_half = omega arith

  pub read_word : from_le_bytes w32 bs ≡ number_at 4 bs 0
  unfolding number_at
  read_word = omega arith

  pub read_long : from_le_bytes w64 bs ≡ number_at 8 bs 0
  unfolding number_at
  read_long = omega arith
