-- A register of any make, with the calls of document 01: when it was reached, and its promise. The register of slots is one of them.
use Prim.Native.Nat.{ℕ, ◌≤◌}
use mathlib.Core.Bool.{true}
use mathlib.Core.List.{List, [], ◌∷◌}
use mathlib.Core.Path.{◌≡◌}
use lib.ListN.{length, take}
use Rattle.register.specs.Steps.{Call, Call.clear, Call.release, Answered, after, answered, room_after}
use Rattle.register.specs.History.{Event, is_ok, Justified}
use Rattle.register.specs.Reached.{IsBytes, CanCall, Reached, Reached.cleared, Reached.called}

-- the calls of a register R: what each leaves of it, what it answers, and what a release leaves of its output buffer
pub record Calls (R : Type 0) : Type 0 where
  pub leaves : R → Call → R
  pub answers : R → Call → Answered
  pub fills : R → ℕ → List ℕ → List ℕ

abbrev pub event_of : {R : Type 0} → Calls R → R → Call → Event
event_of k r c = record { call = c; answer = k.answers r c }

abbrev pub any_given : {R : Type 0} → Calls R → R → ℕ → List ℕ → List ℕ
any_given k r n room = take (k.answers r (release n room)).length (k.fills r n room)

-- `Lent` says what can be lent as a register, `Can` which calls can be made
module _ {R : Type 0} (k : Calls R) (Lent : R → Type 0) (Can : Call → Type 0) where
  pub data AnyReached : List Event → R → Type 0 where
    any_cleared : {r : R} → Lent r → is_ok (event_of k r clear) ≡ true → AnyReached (event_of k r clear ∷ []) (k.leaves r clear)
    any_called : {h : List Event} {r : R} (c : Call) → Can c → AnyReached h r → AnyReached (event_of k r c ∷ h) (k.leaves r c)

  pub record AnyPromise (Sound : R → Type 0) : Type 0 where
    pub stays_sound : (h : List Event) (r : R) → AnyReached h r → Sound r
    pub gives_justified : (h : List Event) (r : R) → AnyReached h r → (n : ℕ) (room : List ℕ) →
        is_ok (event_of k r (release n room)) ≡ true → Justified n h (any_given k r n room)
    pub justified_given : (h : List Event) (r : R) → AnyReached h r → (n : ℕ) (room p : List ℕ) →
        Justified n h p → 16384 ≤ length room →
        (is_ok (event_of k r (release n room)) ≡ true) × (any_given k r n room ≡ p)

-- the register of slots
abbrev pub slot_calls : Calls (List ℕ)
slot_calls = record { leaves = after; answers = answered; fills = room_after }

pub reached_any : {h : List Event} {r : List ℕ} → Reached h r → AnyReached slot_calls IsBytes CanCall h r
reached_any (cleared r a e) = any_cleared {r = r} a e
reached_any (called c a w) = any_called c a (reached_any w)
