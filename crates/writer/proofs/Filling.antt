-- The writer's stores into a block or a record make the bytes that are laid out, and these are as long as they should be.
-- Assumes nothing.
use Prim.Native.Nat.{ℕ, ◌+◌, ◌-◌, ◌≤◌}
use mathlib.Core.List.{List, [], ◌∷◌, ◌++◌}
use mathlib.Core.Path.{◌≡◌, refl}
use native.Mathlib.Omega.{arith}
use lib.ListN.{length, drop, replicate, length-append, length-replicate, replicate-append-replicate}
use lib.Seq.{take_at, drop_at, drop-append-add}
use Rattle.block.specs.Bytes.{bytes_of, put}
use Rattle.block.proofs.Put.{put_in}
use Rattle.layout.specs.Layout.{filled, head_bytes, period_start, continuation_start}
use Rattle.plan.specs.declared.Head.{Head}
use Rattle.plan.specs.declared.Header.{Header}

-- a head, field by field into a cleared block
pub head_filled : (h : Head) → put (put (put (put (put (put (put (replicate 512 0) 0 (1 ∷ 0 ∷ [])) 2 (bytes_of 2 h.unit)) 4 (bytes_of 4 h.start)) 8 (bytes_of 4 h.end)) 12 (bytes_of 4 h.number)) 16 (bytes_of 4 h.revision)) 20 (h.vka ∷ []) ≡ head_bytes h 0
unfolding put bytes_of head_bytes filled
head_filled h = refl

-- a period's start, and a continuation's
pub period_filled : (q : Header) → put (put (put (put (replicate 512 0) 0 (2 ∷ 0 ∷ [])) 2 (bytes_of 2 q.interval)) 4 (bytes_of 4 q.first)) 8 (bytes_of 4 q.end) ≡ filled (period_start q 0)
unfolding put bytes_of period_start filled
period_filled q = refl

pub continuation_filled : put (replicate 512 0) 0 (3 ∷ 0 ∷ []) ≡ filled (continuation_start 0)
unfolding put continuation_start filled
continuation_filled = refl

-- bytes put behind those that a block holds so far
pub front_filled : (bs vs : List ℕ) → length bs + length vs ≤ 512 → put (filled bs) (length bs) vs ≡ filled (bs ++ vs)
unfolding filled
front_filled bs vs h =
    let z : List ℕ = replicate (512 - length bs) 0 in
    let n : length (bs ++ z) ≡ 512 = rw (length-append, length-replicate) (omega arith) in
    let k : 512 - length bs ≡ length vs + (512 - (length bs + length vs)) = omega arith in
    let r : drop (length vs) z ≡ replicate (512 - (length bs + length vs)) 0 =
    rw (k, ← replicate-append-replicate) (drop_at (replicate (length vs) 0) (replicate (512 - (length bs + length vs)) 0) (length vs) (length-replicate (length vs) 0)) in
    rw (put_in (bs ++ z) (length bs) vs (omega arith), take_at bs z (length bs) refl, drop-append-add bs z (length vs), r, length-append)
