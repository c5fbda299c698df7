-- What is laid out is bytes. Assumes nothing.
use Prim.Native.Nat.{ℕ, zero, suc, ◌+◌, ◌-◌, ◌*◌, ◌≤◌, ◌<◌}
use mathlib.Core.List.{List, ◌∷◌}
use mathlib.Core.Logic.{⊎_elim}
use mathlib.Core.Path.{◌≡◌}
use native.Mathlib.Omega.{arith}
use lib.ListN.{length, take, drop, replicate, get_or-eq_default}
use Rattle.below.proofs.Tests.{le_or_lt}
use Rattle.below.specs.Lists.{list_below, Every, Every.none, Every.more}
use Rattle.block.proofs.Numbers.{AreBytes, bytes_bytes}
use Rattle.block.proofs.Put.{put_in, put_out}
use Rattle.block.proofs.Sealing.{sealed_is}
use Rattle.block.specs.Bytes.{bytes_of, put}
use Rattle.block.specs.Sums.{sums_of, sealed}
use Rattle.plan.specs.declared.Dose.{Dose}
use Rattle.plan.specs.declared.Head.{Head}
use Rattle.layout.specs.Code.Fits.{HeadFits, DoseFits, WrittenFits, AllFit}
use Rattle.plan.specs.Fields.{dose_bytes}
use Rattle.layout.specs.Layout.{Written, filled, head_bytes, period_start, continuation_start, doses_here, period_block, blocks_for, body_of, laid_out}
use Rattle.layout.proofs.Blocks.{byte_zeros, few_here, start_at, period_is, start_first, start_next, blocks_whole}
use Rattle.layout.proofs.Every.{every_at, at_every, every_both, every_append, every_take, every_drop, every_list, every_over}

-- each element is a byte
abbrev pub Bytes : List ℕ → Type 0
Bytes s = Every (λ x. x < 256) s

pub every_byte : (s : List ℕ) → AreBytes s → Bytes s
every_byte s h = at_every s 0 (λ i l. h i)

pub are_bytes : {s : List ℕ} → Bytes s → AreBytes s
are_bytes {s} h i =
    ⊎_elim
    (λ (l : length s ≤ i). rw (get_or-eq_default s 0 l) (omega arith))
    (λ (l : i < length s). every_at h 0 i l)
    (le_or_lt (length s) i)

pub part_bytes_lem : (s : List ℕ) (a n : ℕ) → AreBytes s → AreBytes (take n (drop a s))
part_bytes_lem s a n h = are_bytes (every_take n (every_drop a (every_byte s h)))

pub of_number : (w x : ℕ) → Bytes (bytes_of w x)
of_number w x = every_byte (bytes_of w x) (bytes_bytes w x)

pub zero_bytes : (n : ℕ) → Bytes (replicate n 0)
zero_bytes n = every_byte (replicate n 0) (λ i. rw (byte_zeros n i) (omega arith))

pub put_bytes : (s : List ℕ) (i : ℕ) (bs : List ℕ) → Bytes s → Bytes bs → Bytes (put s i bs)
put_bytes s i bs h g =
    ⊎_elim
    (λ (l : i + length bs ≤ length s).
    rw (put_in s i bs l) (every_append (every_append (every_take i h) g) (every_drop (i + length bs) h)))
    (λ (l : length s < i + length bs). rw (put_out s i bs l) h)
    (le_or_lt (i + length bs) (length s))

pub sealed_bytes : (b : List ℕ) → length b ≡ 512 → Bytes b → Bytes (sealed b)
sealed_bytes b n h =
    rw (sealed_is b n)
    (put_bytes _ 508 _ (put_bytes b 504 _ h (of_number 4 (sums_of b).first)) (of_number 4 (sums_of b).second))

filled_bytes : (bs : List ℕ) → Bytes bs → Bytes (filled bs)
unfolding filled
filled_bytes bs h = every_append h (zero_bytes (512 - length bs))

head_bytes_lem : (h : Head) (n : ℕ) → h.vka < 256 → n < 256 → Bytes (head_bytes h n)
unfolding head_bytes
head_bytes_lem h n f l =
    filled_bytes _
    (every_append (more (omega arith) (more l (of_number 2 h.unit)))
    (every_append (of_number 4 h.start)
    (every_append (of_number 4 h.end)
    (every_append (of_number 4 h.number) (every_append (of_number 4 h.revision) (more f none))))))

dose_bytes_lem : (d : Dose) → DoseFits d → Bytes (dose_bytes d)
unfolding dose_bytes
dose_bytes_lem d f =
    every_append (of_number 2 d.day)
    (every_append (more f.kind (more f.mark (of_number 2 d.minute)))
    (every_append (more (omega arith) (more (omega arith) (of_number 8 d.low))) (of_number 8 d.high)))

start_bytes : (w : Written) (i : ℕ) → Bytes (start_at w i)
unfolding period_start continuation_start
start_bytes w zero =
    rw (start_first w)
    (every_append (more (omega arith) (more (omega (arith, few_here 0 w.doses)) (of_number 2 w.header.interval)))
    (every_append (of_number 4 w.header.first) (every_append (of_number 4 w.header.end) (zero_bytes 12))))
start_bytes w (suc i) =
    rw (start_next w i)
    (more {x = 3} (omega arith) (more {x = length (doses_here (suc i) w.doses)} (omega (arith, few_here (suc i) w.doses)) (zero_bytes 22)))

period_bytes : (w : Written) → WrittenFits w → (i : ℕ) → Bytes (period_block w i)
period_bytes w f i =
    rw (period_is w i)
    (filled_bytes _
    (every_append (start_bytes w i)
    (every_over dose_bytes dose_bytes_lem (every_take 20 (every_drop (i * 20) f.doses)))))

module _ (h : Head) (ws : List Written) where
  -- the blocks, ahead of their sums
  body_bytes : HeadFits h → AllFit ws → length (body_of ws) < 256 → Every Bytes (head_bytes h (length (body_of ws)) ∷ body_of ws)
  unfolding body_of
  body_bytes f fs l =
      more (head_bytes_lem h _ f.vka l)
      (every_over (λ w. list_below (blocks_for (length w.doses)) (period_block w))
      (λ w g. every_list (blocks_for (length w.doses)) (period_block w) (λ i l. period_bytes w g i)) fs)

  pub laid_bytes : HeadFits h → AllFit ws → length (body_of ws) < 256 → AreBytes (laid_out h ws)
  unfolding laid_out
  laid_bytes f fs l =
      are_bytes
      (every_over sealed (λ b q. sealed_bytes b q.0 q.1) (every_both (blocks_whole h ws) (body_bytes f fs l)))
