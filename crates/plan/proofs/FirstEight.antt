-- The first eight bytes of a dose record, read as one number. Assumes nothing.
use Prim.Native.Nat.{ℕ, ◌+◌, ◌*◌, ◌/◌, ◌%◌}
use mathlib.Core.List.{List}
use mathlib.Core.Path.{◌≡◌}
use native.Mathlib.Omega.{arith}
use Rattle.block.specs.Bytes.{byte_at, number_at, half_at, word_at, long_at}
use Rattle.block.proofs.Numbers.{AreBytes, number_split, number_fits}

-- a number of one byte
one : (s : List ℕ) (i : ℕ) → number_at 1 s i ≡ byte_at s i
unfolding number_at
one s i = omega arith

module _ (s : List ℕ) (b : AreBytes s) where
  pub day_is : long_at s 0 % 256 + long_at s 0 / 256 % 256 * 256 ≡ half_at s 0
  day_is = omega (arith, number_split 2 6 s 0, number_fits 2 s 0 b)

  pub kind_is : long_at s 0 / 65536 % 256 ≡ byte_at s 2
  kind_is = omega (arith, number_split 2 6 s 0, number_fits 2 s 0 b, number_split 1 5 s 2, one s 2, b 2)

  pub mark_is : long_at s 0 / 16777216 % 256 ≡ byte_at s 3
  mark_is = omega (arith, number_split 3 5 s 0, number_fits 3 s 0 b, number_split 1 4 s 3, one s 3, b 3)

  behind_is : long_at s 0 / 4294967296 ≡ word_at s 4
  behind_is = omega (arith, number_split 4 4 s 0, number_fits 4 s 0 b)

  word_is : word_at s 4 ≡ half_at s 4 + 65536 * half_at s 6
  word_is = omega (arith, number_split 2 2 s 4)

  pub minute_is : long_at s 0 / 4294967296 % 256 + long_at s 0 / 1099511627776 % 256 * 256 ≡ half_at s 4
  minute_is = omega (arith, behind_is, word_is, number_fits 2 s 4 b)

  pub spare_is : long_at s 0 / 281474976710656 % 256 + long_at s 0 / 72057594037927936 % 256 * 256 ≡ half_at s 6
  spare_is = omega (arith, behind_is, word_is, number_fits 2 s 4 b, number_fits 2 s 6 b)
