-- The answer of split.
use Rattle.std.specs.Prelude.{Result}
use Rattle.refusal.specs.declared.Refusal.{Refusal}
use Rattle.split.specs.declared.Lengths.{Lengths}

-- "The answer is both parts' lengths in bytes", or why split is refused
abbrev pub Parted : Type 0
Parted = Result Lengths Refusal
