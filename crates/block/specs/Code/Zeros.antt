-- Zero bytes in the middle of a list, as the code goes through them.
use Rattle.std.specs.Prelude.{ℕ, ◌+◌, Bool, List, nat_eq}
use Rattle.below.specs.Below.{all_below}
use Rattle.block.specs.Bytes.{byte_at}

-- the n bytes from a on are zero
unfoldable pub zero_in : List ℕ → ℕ → ℕ → Bool
zero_in s a n = all_below n (λ k. nat_eq (byte_at s (a + k)) 0)
