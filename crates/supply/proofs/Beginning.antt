-- Where the walk by a choice begins: what the choice's own refusals say of the answer, whatever the pauses are. Assumes nothing.
use Rattle.std.specs.Prelude.{Err, Ok}
use Prim.Native.Nat.{ℕ, ◌+◌, ◌≤◌}
use mathlib.Core.Bool.{true, false}
use mathlib.Core.List.{List}
use mathlib.Core.Path.{◌≡◌, refl}
use native.Mathlib.Omega.{arith}
use borrow.Author.Tests.{eq-eqb, ne_eqb}
use Rattle.day.specs.Days.{last_number}
use Rattle.need.specs.Need.{stop_day, has_stop}
use Rattle.need.specs.Telling.{Tells}
use Rattle.refusal.specs.Refusals.{alone}
use Rattle.refusal.specs.declared.Refusal.{Refusal}
use Rattle.verdict.proofs.Exactly.{accepted_only}
use Rattle.supply.specs.Supply.{own_by}
use Rattle.supply.specs.Code.Asking.{is_asked, unless_given, answered_by, Judged, Begins}
use Rattle.supply.specs.declared.ask.Asked.{Asked}
use Rattle.supply.specs.declared.today.Today.{Today}
use Rattle.pause.specs.declared.Pause.{Pause}
use Rattle.supply.proofs.Accepted.{orderly}
use Rattle.supply.proofs.Asking.{given, not_given}
use Rattle.supply.proofs.Refusing.{stopping, stop_day_in}

module _ (p : List ℕ) (a : Asked) (choice : ℕ) where
  -- the choice is not asked for
  pub begun_unasked : is_asked a choice ≡ false → (ps : List Pause) → answered_by p a choice ps ≡ Err (alone 23)
  unfolding answered_by
  begun_unasked t ps = rw t

  abbrev own : ℕ
  own = own_by a.start choice (has_stop choice p) (stop_day choice p)

  module _ (t : is_asked a choice ≡ true) where
    -- it is, and 23 or 24 is given
    pub begun_own : {r : Refusal} → unless_given own (stop_day choice p) ≡ Err r → (ps : List Pause) → answered_by p a choice ps ≡ Err r
    unfolding answered_by
    begun_own e ps = let g = given own (stop_day choice p) e in rw (t, ne_eqb _ _ g.0, g.1)

    -- neither is: the stop day is one of the calendar
    pub begun_in : {stop : ℕ} → unless_given own (stop_day choice p) ≡ Ok stop → Judged p a → stop ≤ last_number
    begun_in e j = omega (arith, (not_given own (stop_day choice p) e).1, stop_day_in choice p (accepted_only p j.accepted.1))

    -- and the walk begins on the start day
    pub begun_going : {stop chosen : ℕ} {today : Today} → unless_given own (stop_day choice p) ≡ Ok stop → Judged p a → Tells choice p chosen →
        Begins p a choice (record { start = a.start; stop = stop; end = stop + 1; day = a.start; count = 0; chosen = chosen; rest = a.pack; today = today })
    unfolding answered_by
    begun_going e j k =
        let ok = accepted_only p j.accepted.1 in
        let g = not_given own (stop_day choice p) e in
        let u = stopping a.start choice (has_stop choice p) (stop_day choice p) g.0 in
        record {
          ready =
              record {
                day_is = refl;
                count_is = refl;
                at =
                    record {
                      looks =
                          record {
                            orderly = orderly p ok choice;
                            end_is = refl;
                            counted = omega arith;
                            within = omega (arith, g.1, u.stop_in);
                            dated = omega (arith, g.1, stop_day_in choice p ok);
                          };
                      tells = k;
                      known = λ h. absurd (omega arith);
                    };
              };
          lasts_is = λ ps. rw (t, eq-eqb _ _ g.0, g.1);
        }
