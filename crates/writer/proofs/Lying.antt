-- Blocks that lie in a buffer, one behind the other: one more, bytes put into the last or the first, and their sums. Assumes
-- nothing.
use Prim.Native.Nat.{ℕ, zero, suc, ◌+◌, ◌-◌, ◌*◌, ◌≤◌}
use mathlib.Core.List.{List, [], ◌∷◌, ◌++◌, append_assoc}
use mathlib.Core.Path.{◌≡◌, refl, sym, ◌∙◌}
use native.Mathlib.Omega.{arith}
use lib.ListN.{length, take, drop, length-append, length-drop}
use lib.Seq.{take_at, drop_at, take-append-le, drop-append-le, take-append-add, drop-append-add, drop-drop}
use Rattle.below.specs.Lists.{list_below, join_over}
use Rattle.below.proofs.Lists.{over_append, over_one}
use Rattle.block.specs.Bytes.{put}
use Rattle.block.specs.Sums.{sealed}
use Rattle.block.proofs.Put.{put_in}
use Rattle.block.proofs.Sealing.{length_sealed}
use Rattle.plan.specs.Periods.{block_at}
use Rattle.writer.specs.Code.Holds.{lying}
use Rattle.writer.specs.Steps.{sealed_from}

-- every one is a whole block
pub data Whole : List (List ℕ) → Type 0 where
  none : Whole []
  more : {b : List ℕ} {bs : List (List ℕ)} → length b ≡ 512 → Whole bs → Whole (b ∷ bs)

pub whole_append : {cs bs : List (List ℕ)} → Whole cs → Whole bs → Whole (cs ++ bs)
whole_append none v = v
whole_append (more e u) v = more e (whole_append u v)

pub whole_list : (f : ℕ → List ℕ) → ((i : ℕ) → length (f i) ≡ 512) → (n : ℕ) → Whole (list_below n f)
unfolding list_below
whole_list f e zero = none
whole_list f e (suc n) = whole_append (whole_list f e n) (more (e n) none)

pub length_over : (f : List ℕ → List ℕ) → ((b : List ℕ) → length b ≡ 512 → length (f b) ≡ 512) → {bs : List (List ℕ)} → Whole bs → length (join_over f bs) ≡ length bs * 512
unfolding join_over
length_over f e none = refl
length_over f e (more {b} {bs} n u) = rw length-append (omega (arith, e b n, length_over f e u))

pub length_joined : {bs : List (List ℕ)} → Whole bs → length (join_over (λ b. b) bs) ≡ length bs * 512
length_joined u = length_over (λ b. b) (λ b e. e) u

-- bytes put behind j, and bytes put into b, which lies behind j
put_seam : (j r p : List ℕ) (a : ℕ) → length j ≡ a → length p ≤ length r → put (j ++ r) a p ≡ j ++ (p ++ drop (length p) r)
put_seam j r p a e h =
    let n : length (j ++ r) ≡ length j + length r = length-append j r in
    rw (← e, put_in (j ++ r) (length j) p (omega arith), take_at j r (length j) refl, drop-append-add j r (length p)) (append_assoc j p (drop (length p) r))

put_inside : (j b r v : List ℕ) (a i : ℕ) → length j ≡ a → i + length v ≤ length b → put (j ++ (b ++ r)) (a + i) v ≡ j ++ (put b i v ++ r)
put_inside j b r v a i e h =
    let n : length (j ++ (b ++ r)) ≡ length j + (length b + length r) = simp length-append in
    let k : length j + i + length v ≡ length j + (i + length v) = omega arith in
    let m : i ≤ length b = omega arith in
    rw (← e, put_in (j ++ (b ++ r)) (length j + i) v (omega arith), k, take-append-add j (b ++ r) i, drop-append-add j (b ++ r) (i + length v), take-append-le i b r m, drop-append-le (i + length v) b r h, put_in b i v h)
    (simp append_assoc)

module _ (old : List ℕ) where
  pub length_lying : {bs : List (List ℕ)} → Whole bs → length bs * 512 ≤ length old → length (lying bs old) ≡ length old
  unfolding lying
  length_lying u h = simp (length-append, length-drop) (omega (arith, length_joined u))

  -- a block more
  pub lying_more : {bs : List (List ℕ)} → Whole bs → (p : List ℕ) → length p ≡ 512 → (length bs + 1) * 512 ≤ length old → put (lying bs old) (length bs * 512) p ≡ lying (bs ++ (p ∷ [])) old
  unfolding lying
  lying_more {bs} u p e h =
      let j = join_over (λ (b : List ℕ). b) bs in
      let r = drop (length bs * 512) old in
      let m : length r ≡ length old - length bs * 512 = length-drop (length bs * 512) old in
      let k : length (bs ++ (p ∷ [])) * 512 ≡ length bs * 512 + 512 = rw length-append (omega arith) in
      put_seam j r p (length bs * 512) (length_joined u) (omega arith) ∙
      rw (e, drop-drop 512 (length bs * 512) old, k, over_append (λ (b : List ℕ). b) bs (p ∷ []), over_one (λ (b : List ℕ). b) p)
      (sym (append_assoc j p (drop (length bs * 512 + 512) old)))

  -- bytes into the last block
  pub lying_last : {bs : List (List ℕ)} → Whole bs → (b v : List ℕ) (i : ℕ) → i + length v ≤ length b → put (lying (bs ++ (b ∷ [])) old) (length bs * 512 + i) v ≡ lying (bs ++ (put b i v ∷ [])) old
  unfolding lying
  lying_last {bs} u b v i h =
      let j = join_over (λ (b : List ℕ). b) bs in
      let m : length (bs ++ (put b i v ∷ [])) ≡ length (bs ++ (b ∷ [])) = simp length-append in
      rw (m, over_append (λ (b : List ℕ). b) bs (b ∷ []), over_one (λ (b : List ℕ). b) b, over_append (λ (b : List ℕ). b) bs (put b i v ∷ []), over_one (λ (b : List ℕ). b) (put b i v), append_assoc j b (drop (length (bs ++ (b ∷ [])) * 512) old), append_assoc j (put b i v) (drop (length (bs ++ (b ∷ [])) * 512) old))
      (put_inside j b (drop (length (bs ++ (b ∷ [])) * 512) old) v (length bs * 512) i (length_joined u) h)

  -- bytes into the first
  pub lying_first : (b : List ℕ) (bs : List (List ℕ)) (v : List ℕ) (i : ℕ) → i + length v ≤ length b → put (lying (b ∷ bs) old) i v ≡ lying (put b i v ∷ bs) old
  unfolding lying join_over
  lying_first b bs v i h =
      let r = join_over (λ (b : List ℕ). b) bs ++ drop (length (b ∷ bs) * 512) old in
      let z : 0 + i ≡ i = omega arith in
      rw (append_assoc b (join_over (λ (b : List ℕ). b) bs) (drop (length (b ∷ bs) * 512) old), append_assoc (put b i v) (join_over (λ (b : List ℕ). b) bs) (drop (length (b ∷ bs) * 512) old))
      (rw z at (put_inside [] b r v 0 i refl h))

seal_one : (n k : ℕ) (s : List ℕ) → sealed_from (suc n) k s ≡ sealed_from n (k + 1) (put s (k * 512) (sealed (take 512 (drop (k * 512) s))))
unfolding sealed_from block_at
seal_one n k s = refl

-- their sums, one block after the other; those of j, ahead of them, stand already
seal_run : {bs : List (List ℕ)} → Whole bs → (j r : List ℕ) (k : ℕ) → length j ≡ k * 512 → sealed_from (length bs) k (j ++ (join_over (λ b. b) bs ++ r)) ≡ j ++ (join_over sealed bs ++ r)
unfolding sealed_from join_over
seal_run none j r k e = refl
seal_run (more {b} {bs} n u) j r k e =
    let t = join_over (λ (b : List ℕ). b) bs ++ r in
    let w : length (sealed b) ≡ 512 = length_sealed b n in
    let m : length (b ++ t) ≡ length b + length t = length-append b t in
    let z : length j + 0 ≡ k * 512 = omega arith in
    let here : take 512 (drop (k * 512) (j ++ (b ++ t))) ≡ b = rw (← z, drop-append-add j (b ++ t) 0) (take_at b t 512 n) in
    let there : put (j ++ (b ++ t)) (k * 512) (sealed b) ≡ (j ++ sealed b) ++ t =
    put_seam j (b ++ t) (sealed b) (k * 512) e (omega arith) ∙
    rw (w, drop_at b t 512 n) (sym (append_assoc j (sealed b) t)) in
    let l : length (j ++ sealed b) ≡ (k + 1) * 512 = rw length-append (omega arith) in
    rw (append_assoc b (join_over (λ (b : List ℕ). b) bs) r, seal_one (length bs) k (j ++ (b ++ t)), here, there)
    (seal_run u (j ++ sealed b) r (k + 1) l ∙ simp append_assoc)

pub lying_sealed : {bs : List (List ℕ)} → Whole bs → (old : List ℕ) → sealed_from (length bs) 0 (lying bs old) ≡ join_over sealed bs ++ drop (length bs * 512) old
unfolding lying
lying_sealed {bs} u old = seal_run u [] (drop (length bs * 512) old) 0 refl
