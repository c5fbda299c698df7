-- Each call's way through its code leaves what its step says. Assumes nothing.
use Prim.Native.Nat.{ℕ, suc, ◌+◌, ◌-◌, ◌*◌, ◌≤◌, ◌<◌}
use mathlib.Core.Bool.{true, false}
use mathlib.Core.List.{List, [], ◌∷◌}
use mathlib.Core.Path.{◌≡◌, refl, sym, ◌∙◌}
use native.Mathlib.Omega.{arith}
use lib.ListN.{length, take, drop, length-drop}
use lib.Seq.{length-take-le}
use borrow.Author.Tests.{le-leb, lt-leb, lt-ltb, le-ltb}
use borrow.Rule.Slice.PartMut.{put_mid}
use Rattle.block.specs.Bytes.{put}
use Rattle.block.specs.Sums.{sealed}
use Rattle.block.proofs.Put.{put_out, length_put, part_put}
use Rattle.block.proofs.Puts.{put_all}
use Rattle.block.proofs.Sealing.{length_sealed}
use Rattle.plan.specs.Periods.{block_at}
use Rattle.plan.specs.declared.Dose.{Dose}
use Rattle.plan.specs.Fields.{dose_bytes, record_start}
use Rattle.layout.specs.Layout.{filled, head_bytes, period_start, continuation_start}
use Rattle.plan.specs.declared.Head.{Head}
use Rattle.plan.specs.declared.Header.{Header}
use Rattle.writer.specs.declared.Place.{Place}
use Rattle.writer.specs.Steps.{has_room, has_begun, begun, begun_place, period_added, period_place, dose_put, dose_added, dose_place, sealed_from, finished, finished_length}
use Rattle.writer.proofs.Room.{room_is}
use Rattle.layout.proofs.Blocks.{length_filled, length_head, length_period_start, length_continuation_start}
use Rattle.plan.proofs.DoseRecord.{length_dose}

-- the buffer's part from block b on came back as the block p
pub block_back : (out p : List ℕ) (b : ℕ) → (b + 1) * 512 ≤ length out → length p ≡ 512 → put_mid (b * 512) (b * 512 + 512 - b * 512) out p ≡ put out (b * 512) p
block_back out p b h n = part_put out p (b * 512) (b * 512 + 512) (omega arith) (omega arith) (omega arith)

module _ (out : List ℕ) (h : Head) where
  pub begin_none : length out < 512 → (out ≡ begun out h) × (record { blocks = 0; doses = 0 } ≡ begun_place out)
  unfolding begun begun_place
  begin_none l = (sym (put_out out 0 (head_bytes h 0) (omega (arith, length_head h 0))), rw (lt-leb _ _ l))

  pub begin_done : 512 ≤ length out → (p : List ℕ) → p ≡ head_bytes h 0 → (put_mid 0 512 out p ≡ begun out h) × (record { blocks = 1; doses = 0 } ≡ begun_place out)
  unfolding begun begun_place
  begin_done l p e = (
    rw e (part_put out (head_bytes h 0) 0 512 (omega arith) l (length_head h 0)),
    rw (le-leb _ _ l),
  )

module _ (out : List ℕ) (at : Place) (q : Header) where
  pub period_none : has_room out at.blocks ≡ false → (out ≡ period_added out at q) × (at ≡ period_place out at)
  unfolding period_added period_place
  period_none e = rw e (refl, refl)

  pub period_done : has_room out at.blocks ≡ true → (p : List ℕ) → p ≡ filled (period_start q 0) → (put_mid (at.blocks * 512) (at.blocks * 512 + 512 - at.blocks * 512) out p ≡ period_added out at q) × (record { blocks = at.blocks + 1; doses = 0 } ≡ period_place out at)
  unfolding period_added period_place
  period_done e p f =
      let n : length (filled (period_start q 0)) ≡ 512 = length_filled (period_start q 0) (omega (arith, length_period_start q 0)) in
      let g : put_mid (at.blocks * 512) (at.blocks * 512 + 512 - at.blocks * 512) out p ≡ put out (at.blocks * 512) (filled (period_start q 0)) =
      rw f (block_back out (filled (period_start q 0)) at.blocks (room_is out at.blocks e).1 n) in
      rw e (g, refl)

-- a dose's record came back, and is counted
pub dose_put_is : (out : List ℕ) (b n : ℕ) (d : Dose) → (b + 1) * 512 ≤ length out → n < 20 → {a : ℕ} → a ≡ record_start n → (p : List ℕ) →
    p ≡ put (take (b * 512 + a + 24 - (b * 512 + a)) (drop (b * 512 + a) out)) 0 (dose_bytes d) →
    put (put_mid (b * 512 + a) (b * 512 + a + 24 - (b * 512 + a)) out p) (b * 512 + 1) ((n + 1) ∷ []) ≡ dose_put out b n d
unfolding dose_put
dose_put_is out b n d h l {a} z p e =
    let i = b * 512 + a in
    let q = take (i + 24 - i) (drop i out) in
    let m : length q ≡ 24 = length-take-le (i + 24 - i) (drop i out) (rw length-drop (omega arith)) ∙ omega arith in
    let g : put_mid i (i + 24 - i) out (dose_bytes d) ≡ put out i (dose_bytes d) =
    part_put out (dose_bytes d) i (i + 24) (omega arith) (omega arith) (omega (arith, length_dose d)) in
    let w : put q 0 (dose_bytes d) ≡ dose_bytes d = put_all q (dose_bytes d) (length_dose d ∙ sym m) in
    rw (e, w, g, z) refl

module _ (out : List ℕ) (at : Place) (d : Dose) where
  pub dose_none : has_begun out at.blocks 2 ≡ false → (out ≡ dose_added out at d) × (at ≡ dose_place out at)
  unfolding dose_added dose_place
  dose_none e = rw e (refl, refl)

  pub dose_last : has_begun out at.blocks 2 ≡ true → at.doses < 20 → (s : List ℕ) → s ≡ dose_put out (at.blocks - 1) at.doses d → (s ≡ dose_added out at d) × (record { blocks = at.blocks; doses = at.doses + 1 } ≡ dose_place out at)
  unfolding dose_added dose_place
  dose_last e l s f = rw (e, lt-ltb _ _ l) (f, refl)

  pub dose_full : has_begun out at.blocks 2 ≡ true → 20 ≤ at.doses → has_room out at.blocks ≡ false → (out ≡ dose_added out at d) × (at ≡ dose_place out at)
  unfolding dose_added dose_place
  dose_full e l r = rw (e, le-ltb _ _ l, r) (refl, refl)

  pub dose_more : has_begun out at.blocks 2 ≡ true → 20 ≤ at.doses → has_room out at.blocks ≡ true → (p s : List ℕ) → p ≡ filled (continuation_start 0) → s ≡ dose_put (put_mid (at.blocks * 512) (at.blocks * 512 + 512 - at.blocks * 512) out p) at.blocks 0 d → (s ≡ dose_added out at d) × (record { blocks = at.blocks + 1; doses = 1 } ≡ dose_place out at)
  unfolding dose_added dose_place
  dose_more e l r p s f g =
      let n : length p ≡ 512 = rw f (length_filled (continuation_start 0) (omega (arith, length_continuation_start 0))) in
      let k : put_mid (at.blocks * 512) (at.blocks * 512 + 512 - at.blocks * 512) out p ≡ put out (at.blocks * 512) p =
      block_back out p at.blocks (room_is out at.blocks r).1 n in
      let m : s ≡ dose_put (put out (at.blocks * 512) (filled (continuation_start 0))) at.blocks 0 d = rw (g, k, f) in
      rw (e, le-ltb _ _ l, r) (m, refl)

-- the loop over the blocks: it begins, turns and ends
module _ (n b : ℕ) where
  pub seal_turn : b < n → (out p : List ℕ) → n * 512 ≤ length out → p ≡ sealed (take (b * 512 + 512 - b * 512) (drop (b * 512) out)) → (length (put_mid (b * 512) (b * 512 + 512 - b * 512) out p) ≡ length out) × (sealed_from (n - b) b out ≡ sealed_from (n - (b + 1)) (b + 1) (put_mid (b * 512) (b * 512 + 512 - b * 512) out p))
  unfolding sealed_from block_at
  seal_turn l out p h e =
      let k : b * 512 + 512 - b * 512 ≡ 512 = omega arith in
      let f : p ≡ sealed (take 512 (drop (b * 512) out)) = rw k at e in
      let m : length (take 512 (drop (b * 512) out)) ≡ 512 = length-take-le 512 (drop (b * 512) out) (rw length-drop (omega arith)) in
      let w : length p ≡ 512 = rw f (length_sealed (take 512 (drop (b * 512) out)) m) in
      let g : put_mid (b * 512) (b * 512 + 512 - b * 512) out p ≡ put out (b * 512) p = block_back out p b (omega arith) w in
      let t : n - b ≡ suc (n - (b + 1)) = omega arith in
      (rw g (length_put out (b * 512) p), rw (g, t, f))

  pub seal_end : n ≤ b → (out : List ℕ) → sealed_from (n - b) b out ≡ out
  unfolding sealed_from
  seal_end l out = let z : n - b ≡ 0 = omega arith in rw z

module _ (out : List ℕ) (at : Place) where
  pub finish_none : has_begun out at.blocks 1 ≡ false → (out ≡ finished out at) × (0 ≡ finished_length out at)
  unfolding finished finished_length
  finish_none e = rw e (refl, refl)

  pub finish_done : has_begun out at.blocks 1 ≡ true → (s : List ℕ) → s ≡ sealed_from at.blocks 0 (put out 1 ((at.blocks - 1) ∷ [])) → (s ≡ finished out at) × (at.blocks * 512 ≡ finished_length out at)
  unfolding finished finished_length
  finish_done e s f = rw e (f, refl)
