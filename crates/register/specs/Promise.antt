-- The promise of the register, on what its callers see.
use Rattle.std.specs.Prelude.{ℕ, ◌≤◌, true, List, ◌≡◌, length, take}
use Rattle.register.specs.Sound.{sound}
use Rattle.register.specs.Steps.{Call.release, answered, room_after}
use Rattle.register.specs.History.{Event, is_ok, Justified}
use Rattle.register.specs.Reached.{seen, Reached}

-- "The plan into an output buffer and its length": what a release gives
abbrev pub given_by : List ℕ → ℕ → List ℕ → List ℕ
given_by r n room = take (answered r (release n room)).length (room_after r n room)

pub record SlotPromise : Type 0 where
  -- a reached register is sound: no call is refused because it were not
  pub stays_sound : (h : List Event) (r : List ℕ) → Reached h r → sound r ≡ true
  -- "A released plan is then, byte for byte, the latest one accepted under that number since it was last dropped or cleared, and two
  -- different signers have since each signed exactly those bytes."
  pub gives_justified : (h : List Event) (r : List ℕ) → Reached h r → (n : ℕ) (room : List ℕ) →
      is_ok (seen r (release n room)) ≡ true → Justified n h (given_by r n room)
  -- and the other way round: such a plan is given, where there is room for it
  pub justified_given : (h : List Event) (r : List ℕ) → Reached h r → (n : ℕ) (room p : List ℕ) →
      Justified n h p → 16384 ≤ length room →
      (is_ok (seen r (release n room)) ≡ true) × (given_by r n room ≡ p)
