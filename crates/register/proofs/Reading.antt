-- What the readers of a slot give. Assumes nothing.
use Prim.Native.Nat.{ℕ, ◌+◌, ◌-◌, ◌*◌, ◌≤◌, ◌<◌, min}
use mathlib.Core.Logic.{⊎_elim}
use mathlib.Core.Bool.{true, ◌&&◌}
use mathlib.Core.List.{List}
use mathlib.Core.Path.{◌≡◌, refl, sym, ◌∙◌}
use native.Mathlib.Omega.{arith}
use lib.Dec.{eqb, leb}
use lib.ListN.{length, take, drop, length-drop, length-take}
use lib.Seq.{take_all}
use borrow.Author.Tests.{leb-true}
use Rattle.below.proofs.Tests.{and_both, le_or_lt}
use Rattle.block.specs.Bytes.{byte_at, is_zero}
use Rattle.block.specs.Sums.{sums_right}
use Rattle.register.specs.Slots.{blocks_in, plan_in, rest_of}
use Rattle.register.specs.Sound.{control_right}

-- the plan in a slot, whole and cut short
module _ (s : List ℕ) where
  pub plan_fits : length s ≡ 16896 → length (plan_in s) ≤ 16384
  unfolding plan_in
  plan_fits h = omega (arith, length-take (blocks_in s * 512) (drop 512 s), length-drop 512 s)

  plan_whole : length s ≡ 16896 → {e : ℕ} → e ≡ min (512 + blocks_in s * 512) 16896 → 512 + blocks_in s * 512 ≤ 16896 → take (e - 512) (drop 512 s) ≡ plan_in s
  unfolding plan_in
  plan_whole h {e} f l = let k : e - 512 ≡ blocks_in s * 512 = omega arith in rw k

  plan_cut : length s ≡ 16896 → {e : ℕ} → e ≡ min (512 + blocks_in s * 512) 16896 → 16896 < 512 + blocks_in s * 512 → take (e - 512) (drop 512 s) ≡ plan_in s
  unfolding plan_in
  plan_cut h {e} f l =
      take_all (e - 512) (drop 512 s) (rw length-drop (omega arith)) ∙
      sym (take_all (blocks_in s * 512) (drop 512 s) (rw length-drop (omega arith)))

  -- as the code cuts it out
  pub plan_is : length s ≡ 16896 → {e : ℕ} → e ≡ min (512 + blocks_in s * 512) 16896 → (take (e - 512) (drop 512 s) ≡ plan_in s) × (length (take (e - 512) (drop 512 s)) ≤ 16384)
  plan_is h {e} f =
      let same : take (e - 512) (drop 512 s) ≡ plan_in s = ⊎_elim (plan_whole h f) (plan_cut h f) (le_or_lt (512 + blocks_in s * 512) 16896) in
      rw same (refl, plan_fits h)

  -- and what is behind it
  pub rest_is : {e : ℕ} → e ≡ 512 + blocks_in s * 512 → take (length s - e) (drop e s) ≡ rest_of s
  unfolding rest_of
  rest_is {e} h = take_all (length s - e) (drop e s) (rw length-drop (omega arith)) ∙ rw h

  -- a control block that is right counts no more blocks than there is room for
  pub control_blocks : control_right s ≡ true → blocks_in s ≤ 32
  unfolding control_right
  control_blocks e =
      let form = eqb (byte_at s 0) 4 && leb (blocks_in s) 32 in
      let two = is_zero (take 2 (drop 2 s)) in
      let more = is_zero (take 492 (drop 12 s)) in
      let a = and_both (form && two && more) (sums_right (take 512 s)) e in
      let b = and_both (form && two) more a.0 in
      let d = and_both form two b.0 in
      leb-true _ _ (and_both (eqb (byte_at s 0) 4) (leb (blocks_in s) 32) d.0).1
