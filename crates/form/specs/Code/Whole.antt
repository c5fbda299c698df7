-- What rule 1 gives: whole blocks, at least one, and few enough that a block number fits a byte.
use Rattle.std.specs.Prelude.{ℕ, ◌*◌, ◌≤◌, ◌<◌, ◌≡◌, List, length}
use Rattle.plan.specs.Periods.{blocks_of}

pub record Whole (p : List ℕ) : Type 0 where
  pub whole : length p ≡ blocks_of p * 512
  pub some : 0 < blocks_of p
  pub few : blocks_of p ≤ 127
