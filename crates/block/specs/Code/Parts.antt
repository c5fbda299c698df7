-- Bytes that were taken from a list.
use Rattle.std.specs.Prelude.{◌≡◌, ℕ, ◌+◌, ◌<◌, List, length}
use Rattle.block.specs.Bytes.{byte_at}

-- bs are the n bytes of s from i on; those past its end are 0
abbrev pub StandsAt : ℕ → List ℕ → ℕ → List ℕ → Type 0
StandsAt n s i bs = (length bs ≡ n) × ((k : ℕ) → k < n → byte_at bs k ≡ byte_at s (i + k))
