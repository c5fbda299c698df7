-- The two running sums, several words a turn. proofs/Turns.antt shows that turns come to the sums of the words one by one.
use Rattle.std.specs.Prelude.{◌≡◌, ℕ, ◌+◌, ◌*◌, ◌%◌, ◌^◌, List, map}
use Rattle.std.specs.List.{range_with_len}
use Rattle.block.specs.Sums.{summed}
use Rattle.block.specs.declared.Sums.{Sums}

-- before the first word
abbrev pub no_sums : Sums
no_sums = record { first = 0; second = 0 }

-- the sums that were s, after n words that have the sums t by themselves: each word adds the first sum to the second once more
abbrev pub turned : ℕ → Sums → Sums → Sums
turned n s t =
    record {
      first = (s.first + t.first) % 2 ^ 32;
      second = (s.second + n * s.first + t.second) % 2 ^ 32;
    }

-- the 21 turns, of six words each, have these sums by themselves
unfoldable pub TurnsTo : List ℕ → List Sums → Type 0
TurnsTo b turns = turns ≡ map (λ k. summed no_sums b (k * 24) 6) (range_with_len 0 21)
