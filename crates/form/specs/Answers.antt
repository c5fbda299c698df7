-- The answer on rules 1 to 4.
use Rattle.std.specs.Prelude.{Result}
use Rattle.refusal.specs.declared.Refusal.{Refusal}

-- the rules hold, or the first that is broken, with its place
abbrev pub Form : Type 0
Form = Result (Unit {0}) Refusal
