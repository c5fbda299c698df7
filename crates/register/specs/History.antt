-- A history of calls on one register, the latest first: what a caller sees of them, and nothing else. "In demand 3, accepted and
-- signed mean a submit or sign that answered 0, and every call gets the same whole register."
use Rattle.std.specs.Prelude.{ℕ, Bool, cond, ◌&&◌, ◌≡◌, eqb}
use mathlib.Core.List.{List, [], ◌∷◌, Memᴰ}
use mathlib.Core.Option.{Option, none, some}
use Rattle.plan.specs.Fields.{plan_number_of}
use Rattle.register.specs.Steps.{Call, Call.clear, Call.submit, Call.sign, Call.release, Call.drop, Call.state, Answered, is_done}

-- a call, and the number and place that it answered
pub record Event : Type 0 where
  pub call : Call
  pub answer : Answered

abbrev pub is_ok : Event → Bool
is_ok e = is_done e.answer.refusal

-- the plan accepted under n, with one call more
abbrev pub accepted_with : ℕ → Call → Bool → Option (List ℕ) → Option (List ℕ)
accepted_with n clear ok before = cond ok none before
accepted_with n (submit p) ok before = cond (ok && eqb (plan_number_of p) n) (some p) before
accepted_with n (sign signer p) ok before = before
accepted_with n (release m room) ok before = before
accepted_with n (drop m) ok before = cond (ok && eqb m n) none before
accepted_with n (state m) ok before = before

-- "the latest one accepted under that number since it was last dropped or cleared"
unfoldable pub latest : ℕ → List Event → Option (List ℕ)
latest n [] = none
latest n (e ∷ h) = accepted_with n e.call (is_ok e) (latest n h)

pub record Signature : Type 0 where
  pub signer : ℕ
  pub plan : List ℕ

-- the signatures under n, with one call more
abbrev pub signed_with : ℕ → Call → Bool → List Signature → List Signature
signed_with n clear ok before = cond ok [] before
signed_with n (submit p) ok before = cond (ok && eqb (plan_number_of p) n) [] before
signed_with n (sign signer p) ok before =
    cond (ok && eqb (plan_number_of p) n) (record { signer = signer; plan = p } ∷ before) before
signed_with n (release m room) ok before = before
signed_with n (drop m) ok before = cond (ok && eqb m n) [] before
signed_with n (state m) ok before = before

-- who has "since .. signed" what under n, the latest first
unfoldable pub signatures : ℕ → List Event → List Signature
signatures n [] = []
signatures n (e ∷ h) = signed_with n e.call (is_ok e) (signatures n h)

-- "A released plan is then, byte for byte, the latest one accepted under that number since it was last dropped or cleared, and two
-- different signers have since each signed exactly those bytes."
pub record Justified (n : ℕ) (h : List Event) (p : List ℕ) : Type 0 where
  pub accepted : latest n h ≡ some p
  pub one : ℕ
  pub two : ℕ
  pub different : one ≡ two → ⊥
  pub one_signed : Memᴰ (record { signer = one; plan = p }) (signatures n h)
  pub two_signed : Memᴰ (record { signer = two; plan = p }) (signatures n h)
