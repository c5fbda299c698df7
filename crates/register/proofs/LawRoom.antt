-- What a release leaves of its output buffer: "bytes behind untouched". Assumes nothing.
use Prim.Native.Nat.{ℕ, ◌≤◌}
use mathlib.Core.Bool.{true, false}
use mathlib.Core.List.{List}
use mathlib.Core.Logic.{⊎_elim}
use mathlib.Core.Path.{◌≡◌}
use native.Mathlib.Omega.{arith}
use lib.ListN.{length, drop as from, length-append, length-drop}
use lib.Seq.{drop-append_seam}
use Rattle.below.proofs.Tests.{bool_cases}
use Rattle.register.specs.Slots.{held_at, slot_under, plan_under}
use Rattle.register.specs.Steps.{Call.release, is_done, refused_by, given, answered, room_after}
use Rattle.register.proofs.LawDone.{Released, released}
use Rattle.register.proofs.LawFind.{sound_facts, held_facts}
use Rattle.register.proofs.Own.{right_facts, length_plan}
use Rattle.register.proofs.Update.{length_slot}

module _ (r : List ℕ) (n : ℕ) (room : List ℕ) where
  -- a plan that is released has room
  pub released_fits : Released r n room → length (plan_under r n) ≤ length room
  released_fits d =
      let h = held_facts r n d.held in
      let s = slot_under r n in
      let f = right_facts s ((sound_facts r d.sound_was).right (held_at r n) h.0) in
      omega (arith, length_plan s f (length_slot r (held_at r n) h.0), f.few, d.long)

  pub room_behind : from (answered r (release n room)).length (room_after r n room) ≡ from (answered r (release n room)).length room
  unfolding answered given room_after
  room_behind =
      ⊎_elim
      (λ (e : is_done (refused_by r (release n room)) ≡ true).
      rw e (drop-append_seam (plan_under r n) (from (length (plan_under r n)) room)))
      (λ (e : is_done (refused_by r (release n room)) ≡ false). rw e)
      (bool_cases (is_done (refused_by r (release n room))))

  pub room_long : length (room_after r n room) ≡ length room
  unfolding room_after
  room_long =
      ⊎_elim
      (λ (e : is_done (refused_by r (release n room)) ≡ true).
      rw (e, length-append, length-drop) (omega (arith, released_fits (released r n room e))))
      (λ (e : is_done (refused_by r (release n room)) ≡ false). rw e)
      (bool_cases (is_done (refused_by r (release n room))))
