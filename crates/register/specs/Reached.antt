-- A register that nothing but its calls has touched since a clear, and what its callers saw.
use Rattle.std.specs.Prelude.{ℕ, ◌<◌, true, List, [], ◌∷◌, ◌≡◌}
use Rattle.block.specs.Bytes.{byte_at}
use Rattle.register.specs.Steps.{Call, Call.clear, Call.submit, Call.sign, Call.release, Call.drop, Call.state, answered, after}
use Rattle.register.specs.History.{Event, is_ok}

-- a list of bytes: what every lent slice is
abbrev pub IsBytes : List ℕ → Type 0
IsBytes s = (i : ℕ) → byte_at s i < 256

-- what the types of the calls let pass: plans are bytes, a signer is a number of 32 bits
abbrev pub CanCall : Call → Type 0
CanCall clear = Unit {0}
CanCall (submit p) = IsBytes p
CanCall (sign signer p) = signer < 4294967296
CanCall (release n room) = Unit {0}
CanCall (drop n) = Unit {0}
CanCall (state n) = Unit {0}

-- what the caller of c on the register r sees
abbrev pub seen : List ℕ → Call → Event
seen r c = record { call = c; answer = answered r c }

-- "Start from a cleared register that only our calls touch, and make calls in every order.": the register r was reached, and h is
-- what was seen since a clear that answered 0, the latest call first. "every call gets the same whole register". A C call that
-- answers 26 is no event: only release and state can, it comes ahead of all else, and neither writes to the register.
pub data Reached : List Event → List ℕ → Type 0 where
  cleared : (r : List ℕ) → IsBytes r → is_ok (seen r clear) ≡ true → Reached (seen r clear ∷ []) (after r clear)
  called : {h : List Event} {r : List ℕ} (c : Call) → CanCall c → Reached h r → Reached (seen r c ∷ h) (after r c)
