-- What a buffer holds between the calls.
use Rattle.std.specs.Prelude.{ℕ, ◌+◌, ◌-◌, ◌*◌, ◌≤◌, List, [], ◌∷◌, ◌++◌, ◌≡◌, length, drop}
use Rattle.below.specs.Lists.{join_over}
use Rattle.layout.specs.Layout.{Written, head_bytes, blocks_for, body_of}
use Rattle.plan.specs.declared.Head.{Head}
use Rattle.writer.specs.declared.Place.{Place}

-- these blocks, and behind them what the buffer held at first: "Bytes behind a part stay as they were."
unfoldable pub lying : List (List ℕ) → List ℕ → List ℕ
lying bs old = join_over (λ b. b) bs ++ drop (length bs * 512) old

-- the doses in the last block of a period with n doses
abbrev pub in_last : ℕ → ℕ
in_last n = n - (blocks_for n - 1) * 20

-- the doses in the last block of all, 0 to 20; n where there is no period
unfoldable pub last_doses : ℕ → List Written → ℕ
last_doses n [] = n
last_doses n (w ∷ ws) = last_doses (in_last (length w.doses)) ws

-- the buffer, which held `old` at first, holds head h and periods ws, and is not finished: no block has its sums, and the head
-- does not count them
pub record Holds (h : Head) (ws : List Written) (old : List ℕ) (at : Place) (out : List ℕ) : Type 0 where
  pub bytes : out ≡ lying (head_bytes h 0 ∷ body_of ws) old
  pub blocks : at.blocks ≡ 1 + length (body_of ws)
  pub doses : at.doses ≡ last_doses 0 ws
  pub fits : at.blocks * 512 ≤ length old
