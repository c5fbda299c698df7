-- Records copied from block to block as they stand, and counted once they are there, are doses that were added one by one.
-- Assumes nothing.
use Prim.Native.Nat.{ℕ, ◌+◌, ◌-◌, ◌*◌, ◌≤◌, ◌<◌}
use mathlib.Core.Bool.{true}
use mathlib.Core.List.{List, [], ◌∷◌, ◌++◌}
use mathlib.Core.Path.{◌≡◌, refl, ap, ◌∙◌}
use native.Mathlib.Omega.{arith}
use lib.ListN.{length}
use borrow.Author.Tests.{lt-ltb}
use Rattle.below.proofs.Lists.{over_append, over_nil, over_one}
use Rattle.below.specs.Lists.{join_over}
use Rattle.block.proofs.Put.{length_put}
use Rattle.block.specs.Bytes.{put}
use Rattle.layout.proofs.Blocks.{length_doses}
use Rattle.plan.specs.declared.Dose.{Dose}
use Rattle.plan.specs.Fields.{dose_bytes, record_start}
use Rattle.writer.proofs.Room.{is_begun}
use Rattle.writer.specs.Steps.{has_begun, dose_put, dose_added, dose_place}
use Rattle.writer.specs.declared.Place.{Place}
use Rattle.split.specs.Code.Adding.{AddsDoses, records_put}
use Rattle.split.proofs.Adding.{doses_none, doses_one, doses_both}
use Rattle.block.proofs.Puts.{put_swap, put_over, put_join, put_none}

-- records behind records
module _ (out : List ℕ) (block m : ℕ) where
  pub records_none : block + 512 ≤ length out → m ≤ 20 → records_put out block m [] ≡ out
  records_none h l = rw (over_nil dose_bytes) (put_none out (block + record_start m) (omega arith))

  pub records_one : (d : Dose) → records_put out block m (d ∷ []) ≡ put out (block + record_start m) (dose_bytes d)
  records_one d = rw (over_one dose_bytes d)

  pub records_more : (xs ys : List Dose) → block + 512 ≤ length out → m + length xs + length ys ≤ 20 →
      records_put (records_put out block m xs) block (m + length xs) ys ≡ records_put out block m (xs ++ ys)
  records_more xs ys h l =
      let x = length_doses xs in
      let y = length_doses ys in
      rw (over_append dose_bytes xs ys)
      (put_join out (block + record_start m) (join_over dose_bytes xs) (block + record_start (m + length xs)) (join_over dose_bytes ys) (omega arith) (omega arith))

  -- a dose, put and counted, and then others
  counted_more : (d : Dose) (ds : List Dose) → block + 512 ≤ length out → m + 1 + length ds ≤ 20 →
      put (records_put (put (records_put out block m (d ∷ [])) (block + 1) ((m + 1) ∷ [])) block (m + 1) ds) (block + 1) ((m + 1 + length ds) ∷ []) ≡
      put (records_put out block m (d ∷ ds)) (block + 1) ((m + 1 + length ds) ∷ [])
  counted_more d ds h l =
      let u = records_put out block m (d ∷ []) in
      let n : length u ≡ length out = length_put out (block + record_start m) (join_over dose_bytes (d ∷ [])) in
      let y = length_doses ds in
      let v = records_put u block (m + 1) ds in
      let k : length v ≡ length u = length_put u (block + record_start (m + 1)) (join_over dose_bytes ds) in
      let w : v ≡ records_put out block m (d ∷ ds) = records_more (d ∷ []) ds h (omega arith) in
      ap (λ (t : List ℕ). put t (block + 1) ((m + 1 + length ds) ∷ []))
      (put_swap u (block + 1) ((m + 1) ∷ []) (block + record_start (m + 1)) (join_over dose_bytes ds) (omega arith) (omega arith)) ∙
      put_over v (block + 1) ((m + 1) ∷ []) ((m + 1 + length ds) ∷ []) refl (omega arith) ∙
      ap (λ (t : List ℕ). put t (block + 1) ((m + 1 + length ds) ∷ [])) w

-- doses that all have room in the last block come into the last period
module _ (blocks : ℕ) (some : 2 ≤ blocks) where
  abbrev last : ℕ
  last = (blocks - 1) * 512

  abbrev holding : ℕ → Place
  holding m = record { blocks = blocks; doses = m }

  one_in : (m : ℕ) (out : List ℕ) (d : Dose) → blocks * 512 ≤ length out → m < 20 →
      AddsDoses (d ∷ []) (holding m) out (holding (m + 1)) (put (records_put out last m (d ∷ [])) (last + 1) ((m + 1) ∷ []))
  unfolding dose_added dose_place dose_put
  one_in m out d h l =
      let ready : has_begun out blocks 2 ≡ true = is_begun out blocks 2 some h in
      let place : dose_place out (holding m) ≡ holding (m + 1) = rw (ready, lt-ltb m 20 l) in
      let added : dose_added out (holding m) d ≡ put (records_put out last m (d ∷ [])) (last + 1) ((m + 1) ∷ []) =
      rw (ready, lt-ltb m 20 l, over_one dose_bytes d) in
      rw (place, added) at (doses_one {at = holding m} {out = out} d)

  many_in : (ds : List Dose) (m : ℕ) (out : List ℕ) (d : Dose) → blocks * 512 ≤ length out → m + 1 + length ds ≤ 20 →
      AddsDoses (d ∷ ds) (holding m) out (holding (m + 1 + length ds)) (put (records_put out last m (d ∷ ds)) (last + 1) ((m + 1 + length ds) ∷ []))
  many_in [] m out d h l =
      let z : m + 1 + 0 ≡ m + 1 = omega arith in
      rw z (one_in m out d h (omega arith))
  many_in (e ∷ es) m out d h l =
      let next = put (records_put out last m (d ∷ [])) (last + 1) ((m + 1) ∷ []) in
      let long : length next ≡ length out = length_put (records_put out last m (d ∷ [])) (last + 1) ((m + 1) ∷ []) ∙ length_put out (last + record_start m) (join_over dose_bytes (d ∷ [])) in
      let q : m + 1 + 1 + length es ≡ m + 1 + length (e ∷ es) = omega arith in
      let both = doses_both (one_in m out d h (omega arith)) (many_in es (m + 1) next e (omega arith) (omega arith)) in
      rw (q, counted_more out last m d (e ∷ es) (omega arith) l) at both

  pub kept_added : (ds : List Dose) (m : ℕ) (out out2 : List ℕ) (n : ℕ) → blocks * 512 ≤ length out → m + length ds ≤ 20 → n ≡ m + length ds → (n ≡ m → ⊥) →
      out2 ≡ records_put out last m ds → AddsDoses ds (holding m) out (holding n) (put out2 (last + 1) (n ∷ []))
  kept_added [] m out out2 n h l e more f = absurd (more (omega arith))
  kept_added (d ∷ ds) m out out2 n h l e more f =
      let q : n ≡ m + 1 + length ds = omega arith in
      rw (q, f) (many_in ds m out d h (omega arith))

  pub none_added : (ds : List Dose) (m : ℕ) (out out2 : List ℕ) (n : ℕ) → blocks * 512 ≤ length out → m ≤ 20 → n ≡ m + length ds → n ≡ m →
      out2 ≡ records_put out last m ds → AddsDoses ds (holding m) out (holding m) out2
  none_added [] m out out2 n h l e same f = rw (f, records_none out last m (omega arith) l) doses_none
  none_added (d ∷ ds) m out out2 n h l e same f = absurd (omega arith)
