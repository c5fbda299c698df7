-- What each call gives a caller, of its answer.
use Rattle.std.specs.Prelude.{ℕ, Ok, Err, Result}
use Rattle.refusal.specs.declared.Refusal.{Refusal}
use Rattle.register.specs.declared.State.{State}
use Rattle.register.specs.Steps.{Answered, done, nothing_but}

-- clear, submit, sign and drop: that they were not refused
abbrev pub nothing : Answered → Unit {0}
nothing a = tt

-- release: "The plan into an output buffer and its length"
abbrev pub released : Answered → ℕ
released a = a.length

-- "State: revision and count of signers."
abbrev pub stated : Answered → State
stated a = record { revision = a.revision; signers = a.signers }

-- "A refused call gives the number, its place and otherwise zeros.": the answer that stands for what release and state give
abbrev pub release_told : Result ℕ Refusal → Answered
release_told (Ok n) = record { refusal = done; length = n; revision = 0; signers = 0 }
release_told (Err x) = nothing_but x

abbrev pub state_told : Result State Refusal → Answered
state_told (Ok s) = record { refusal = done; length = 0; revision = s.revision; signers = s.signers }
state_told (Err x) = nothing_but x
