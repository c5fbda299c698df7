-- What each call makes of the buffer's bytes, and of the place. Every call takes every place: what it does at one that no call
-- has given is said in brackets, or where it is decided.
use Rattle.std.specs.Prelude.{ℕ, zero, suc, ◌+◌, ◌-◌, ◌*◌, Bool, cond, ◌&&◌, List, [], ◌∷◌, leb, ltb, length}
use Rattle.block.specs.Bytes.{put}
use Rattle.block.specs.Sums.{sealed}
use Rattle.plan.specs.Periods.{block_at}
use Rattle.plan.specs.declared.Dose.{Dose}
use Rattle.plan.specs.Fields.{dose_bytes, record_start}
use Rattle.layout.specs.Layout.{filled, head_bytes, period_start, continuation_start}
use Rattle.plan.specs.declared.Head.{Head}
use Rattle.plan.specs.declared.Header.{Header}
use Rattle.writer.specs.declared.Place.{Place}

-- behind that many blocks, one more can be counted, and the buffer has its bytes
unfoldable pub has_room : List ℕ → ℕ → Bool
has_room out blocks = ltb blocks 255 && leb ((blocks + 1) * 512) (length out)

-- n blocks at the least are begun, and the buffer has the bytes of all that are
unfoldable pub has_begun : List ℕ → ℕ → ℕ → Bool
has_begun out blocks n = leb n blocks && leb (blocks * 512) (length out)

-- block b is written anew: these bytes, and zeros behind them
abbrev pub started : List ℕ → ℕ → List ℕ → List ℕ
started out b bs = put out (b * 512) (filled bs)

-- the head goes into block 0; a buffer without a block's bytes stays, and no block is begun
unfoldable pub begun : List ℕ → Head → List ℕ
begun out h = put out 0 (head_bytes h 0)

unfoldable pub begun_place : List ℕ → Place
begun_place out = cond (leb 512 (length out)) (record { blocks = 1; doses = 0 }) (record { blocks = 0; doses = 0 })

-- a period goes into the next block, with no doses yet; where that has no room, all stays. (Where no block is begun, the next
-- is block 0.)
unfoldable pub period_added : List ℕ → Place → Header → List ℕ
period_added out at q = cond (has_room out at.blocks) (started out at.blocks (period_start q 0)) out

unfoldable pub period_place : List ℕ → Place → Place
period_place out at = cond (has_room out at.blocks) (record { blocks = at.blocks + 1; doses = 0 }) at

-- a dose goes into block b behind n others, and is counted
unfoldable pub dose_put : List ℕ → ℕ → ℕ → Dose → List ℕ
dose_put out b n d = put (put out (b * 512 + record_start n) (dose_bytes d)) (b * 512 + 1) ((n + 1) ∷ [])

-- a dose goes into the last block, or, where that holds 20, into a continuation behind it; where that has no room, all stays.
-- So does all where no period is begun, or the buffer is shorter than the blocks. (More than 20 doses are as 20.)
unfoldable pub dose_added : List ℕ → Place → Dose → List ℕ
dose_added out at d =
    cond (has_begun out at.blocks 2)
    (cond (ltb at.doses 20)
    (dose_put out (at.blocks - 1) at.doses d)
    (cond (has_room out at.blocks) (dose_put (started out at.blocks (continuation_start 0)) at.blocks 0 d) out))
    out

unfoldable pub dose_place : List ℕ → Place → Place
dose_place out at =
    cond (has_begun out at.blocks 2)
    (cond (ltb at.doses 20)
    (record { blocks = at.blocks; doses = at.doses + 1 })
    (cond (has_room out at.blocks) (record { blocks = at.blocks + 1; doses = 1 }) at))
    at

-- n blocks from block b on get their sums
unfoldable pub sealed_from : ℕ → ℕ → List ℕ → List ℕ
sealed_from zero b out = out
sealed_from (suc n) b out = sealed_from n (b + 1) (put out (b * 512) (sealed (block_at out b)))

-- the head counts the blocks behind it, and then every block gets its sums; the plan's length is theirs. Where no block is
-- begun, or the buffer is shorter than the blocks, all stays and the length is 0.
unfoldable pub finished : List ℕ → Place → List ℕ
finished out at = cond (has_begun out at.blocks 1) (sealed_from at.blocks 0 (put out 1 ((at.blocks - 1) ∷ []))) out

unfoldable pub finished_length : List ℕ → Place → ℕ
finished_length out at = cond (has_begun out at.blocks 1) (at.blocks * 512) 0
