-- What the tests for room and for what is begun say. Assumes nothing.
use Prim.Native.Nat.{ℕ, ◌+◌, ◌*◌, ◌≤◌, ◌<◌}
use mathlib.Core.Bool.{true}
use mathlib.Core.List.{List}
use mathlib.Core.Path.{◌≡◌}
use lib.ListN.{length}
use borrow.Author.Tests.{ltb-true, leb-true, lt-ltb, le-leb}
use Rattle.below.proofs.Tests.{and_both}
use Rattle.writer.specs.Steps.{has_room, has_begun}

module _ (out : List ℕ) (b : ℕ) where
  pub room_is : has_room out b ≡ true → (b < 255) × ((b + 1) * 512 ≤ length out)
  unfolding has_room
  room_is e = let t = and_both _ _ e in (ltb-true _ _ t.0, leb-true _ _ t.1)

  pub is_room : b < 255 → (b + 1) * 512 ≤ length out → has_room out b ≡ true
  unfolding has_room
  is_room h k = rw (lt-ltb _ _ h, le-leb _ _ k)

  pub begun_is : (n : ℕ) → has_begun out b n ≡ true → (n ≤ b) × (b * 512 ≤ length out)
  unfolding has_begun
  begun_is n e = let t = and_both _ _ e in (leb-true _ _ t.0, leb-true _ _ t.1)

  pub is_begun : (n : ℕ) → n ≤ b → b * 512 ≤ length out → has_begun out b n ≡ true
  unfolding has_begun
  is_begun n h k = rw (le-leb _ _ h, le-leb _ _ k)
