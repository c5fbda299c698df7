-- The whole of a part of a list. Assumes nothing.
use Prim.Native.Nat.{ℕ, ◌+◌, ◌-◌}
use mathlib.Core.List.{List}
use mathlib.Core.Path.{◌≡◌}
use native.Mathlib.Omega.{arith}
use lib.ListN.{take, drop}

pub part_whole : (s : List ℕ) (a n : ℕ) → {e : ℕ} → e ≡ a + n → take (e - a) (drop a s) ≡ take n (drop a s)
part_whole s a n {e} h = let k : e - a ≡ n = omega arith in rw k
