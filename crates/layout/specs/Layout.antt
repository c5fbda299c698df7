-- "The block", written: the bytes of a plan with this head and these periods.
use Rattle.std.specs.Prelude.{ℕ, ◌+◌, ◌-◌, ◌*◌, ◌/◌, max, cond, List, [], ◌∷◌, ◌++◌, eqb, length, take, drop, replicate}
use Rattle.below.specs.Lists.{list_below, join_over}
use Rattle.block.specs.Bytes.{bytes_of}
use Rattle.block.specs.Sums.{sealed}
use Rattle.plan.specs.Fields.{dose_bytes}
use Rattle.plan.specs.declared.Dose.{Dose}
use Rattle.plan.specs.declared.Head.{Head}
use Rattle.plan.specs.declared.Header.{Header}

-- a period: its header, and its doses in their order
pub record Written : Type 0 where
  pub header : Header
  pub doses : List Dose

-- "Bytes not named below are zero."
unfoldable pub filled : List ℕ → List ℕ
filled bs = bs ++ replicate (512 - length bs) 0

-- "Head: byte 0 = 1; byte 1 = further blocks; 2-3 unit number ..; 4-7 treatment start; 8-11 treatment end or open; 12-15 plan
-- number; 16-19 revision; 20 = 1 for a VKA plan, else 0."
unfoldable pub head_bytes : Head → ℕ → List ℕ
head_bytes h further =
    filled
    (1 ∷ further ∷ bytes_of 2 h.unit ++ (bytes_of 4 h.start ++ (bytes_of 4 h.end ++ (bytes_of 4 h.number ++ (bytes_of 4 h.revision ++ (h.vka ∷ []))))))

-- "Period: byte 0 = 2; byte 1 = doses here ..; 2-3 iteration interval ..; 4-7 first day; 8-11 last day or open; from 24, doses"
unfoldable pub period_start : Header → ℕ → List ℕ
period_start q n = 2 ∷ n ∷ bytes_of 2 q.interval ++ (bytes_of 4 q.first ++ (bytes_of 4 q.end ++ replicate 12 0))

-- "Continuation: byte 0 = 3; byte 1 = doses here ..; doses from 24."
unfoldable pub continuation_start : ℕ → List ℕ
continuation_start n = 3 ∷ n ∷ replicate 22 0

-- "blocks are filled to 20": the doses of a period's block i
abbrev pub doses_here : ℕ → List Dose → List Dose
doses_here i ds = take 20 (drop (i * 20) ds)

-- block i of a period, its first being block 0, ahead of its sums
unfoldable pub period_block : Written → ℕ → List ℕ
period_block w i =
    let here = doses_here i w.doses in
    filled
    (cond (eqb i 0) (period_start w.header (length here)) (continuation_start (length here)) ++ join_over dose_bytes here)

-- a period has a block, and as many more as its doses need
abbrev pub blocks_for : ℕ → ℕ
blocks_for n = max 1 ((n + 19) / 20)

-- the blocks of the periods, in their order, ahead of their sums
unfoldable pub body_of : List Written → List (List ℕ)
body_of ws = join_over (λ w. list_below (blocks_for (length w.doses)) (period_block w)) ws

-- the plan: its head and its periods, every block with its sums
unfoldable pub laid_out : Head → List Written → List ℕ
laid_out h ws = join_over sealed (head_bytes h (length (body_of ws)) ∷ body_of ws)
