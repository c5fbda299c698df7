-- Each way through a call gives what its step says. Assumes nothing.
use Rattle.std.specs.Prelude.{Ok, Err, Result, is_ok, Option, Some, None, is_some, ok_or}
use Prim.Native.Nat.{ℕ, ◌≤◌, ◌<◌}
use mathlib.Core.Bool.{Bool, true, false, not, cond, true≢false}
use mathlib.Core.List.{List, [], ◌++◌}
use mathlib.Core.Path.{◌≡◌, refl, sym, ap, ◌∙◌}
use native.Mathlib.Nat.{zero-add}
use native.Mathlib.Omega.{arith}
use lib.Dec.{eqb}
use lib.ListN.{length, drop, get_or}
use borrow.Author.Tests.{lt-ltb, le-ltb, ltb-true}
use Rattle.block.specs.Bytes.{put}
use Rattle.block.proofs.Put.{put_in}
use Rattle.plan.specs.Fields.{revision_of}
use Rattle.refusal.specs.declared.Refusal.{Refusal}
use Rattle.refusal.specs.Refusals.{alone, code_of, code_in}
use Rattle.below.proofs.Tests.{bool_cases}
use mathlib.Core.Logic.{⊎_elim}
use Rattle.register.specs.Slots.{slots_of, second_signer, plan_in, held_at, is_held, slot_under, plan_under}
use Rattle.register.specs.Sound.{sound}
use Rattle.register.specs.Paper.{released, stated}
use Rattle.register.specs.Steps.{Call, Call.clear, Call.submit, Call.sign, Call.release, Call.drop as dropped, Call.state, Answered, done, is_done, refused_by, changed, after, given, answered, outcome, signers_in, room_after, Called}
use Rattle.register.proofs.SlotList.{AreSlots}

-- what a call that is not refused gives says so
given_done : (r : List ℕ) (c : Call) → (given r c).refusal ≡ done
unfolding given
given_done r clear = refl
given_done r (submit p) = refl
given_done r (sign signer p) = refl
given_done r (release n room) = refl
given_done r (dropped n) = refl
given_done r (state n) = refl

-- a call that is refused, and one that is not
module _ {r : List ℕ} {c : Call} where
  pub call_refused : {x : Refusal} → refused_by r c ≡ x → is_done x ≡ false → {X : Type 0} {give : Answered → X} {got : Result X Refusal} → got ≡ Err x → Called r c give got r
  unfolding answered after
  call_refused {x} e n f =
      let no : is_done (refused_by r c) ≡ false = rw e n in
      record { answer = f ∙ rw (no, e, n); bytes = rw no }

  pub call_done : refused_by r c ≡ done → {X : Type 0} {give : Answered → X} {got : Result X Refusal} → got ≡ Ok (give (given r c)) → {left : List ℕ} → left ≡ changed r c → Called r c give got left
  unfolding answered after
  call_done e f g =
      let yes : is_done (refused_by r c) ≡ true = rw e in
      record { answer = f ∙ rw (yes, given_done r c); bytes = g ∙ rw yes }

-- a check with `?`: what it says where the call goes on, and where it does not
pub went_on : {X : Type 0} (b : Bool) (e : Refusal) {x y : X} → cond b (Ok x) (Err e) ≡ Ok y → (b ≡ true) × (x ≡ y)
went_on true e {x} p = (refl, ap (λ (t : Result _ Refusal). elim t [ Ok z ↦ z | Err z ↦ x ]) p)
went_on false e p = absurd (true≢false (sym (ap is_ok p)))

pub gave_up : {X : Type 0} (b : Bool) (x : X) {e f : Refusal} → cond b (Ok x) (Err e) ≡ Err f → (b ≡ false) × (e ≡ f)
gave_up true x p = absurd (true≢false (ap is_ok p))
gave_up false x {e} p = (refl, ap (λ (t : Result _ Refusal). elim t [ Ok z ↦ e | Err z ↦ z ]) p)

-- the same of a search: what it found
pub found_some : {X : Type 0} (b : Bool) {x y : X} → Some y ≡ cond b (Some x) None → (b ≡ true) × (x ≡ y)
found_some true {x} p = (refl, sym (ap (λ (t : Option _). elim t [ Some z ↦ z | None ↦ x ]) p))
found_some false p = absurd (true≢false (ap is_some p))

pub found_none : {X : Type 0} (b : Bool) (x : X) → None ≡ cond b (Some x) None → b ≡ false
found_none true x p = absurd (true≢false (sym (ap is_some p)))
found_none false x p = refl

pub found_or : {X : Type 0} (b : Bool) (x : X) (e : Refusal) → ok_or (cond b (Some x) None) e ≡ cond b (Ok x) (Err e)
found_or true x e = refl
found_or false x e = refl

-- the slot of a number that is held
pub held_within : (r : List ℕ) (number : ℕ) → is_held r number ≡ true → {h : ℕ} → held_at r number ≡ h → h < slots_of r
held_within r number e a = rw (← a) (ltb-true _ _ e)

pub slot_of_held : (r : List ℕ) (number : ℕ) {slots : List (List ℕ)} → AreSlots r slots → is_held r number ≡ true → {h : ℕ} → held_at r number ≡ h → get_or slots h [] ≡ slot_under r number
slot_of_held r number w e a = rw (← a) (w.each (held_at r number) (ltb-true _ _ e))

-- whether two have signed its plan
pub not_not : (b : Bool) → b ≡ not (not b)
not_not true = refl
not_not false = refl

pub two_stand : {s t : List ℕ} → s ≡ t → {two : Bool} → two ≡ not (eqb (second_signer s) 0) → eqb (second_signer t) 0 ≡ not two
two_stand {s} {t} u e = rw (← u) (not_not (eqb (second_signer s) 0) ∙ ap not (sym e))

-- state
module _ (r : List ℕ) (number : ℕ) where
  pub state_unsound : sound r ≡ false → refused_by r (state number) ≡ alone 30
  unfolding refused_by
  state_unsound e = rw e

  pub state_unheld : sound r ≡ true → is_held r number ≡ false → refused_by r (state number) ≡ alone 33
  unfolding refused_by
  state_unheld e f = rw (e, f)

  pub state_passed : sound r ≡ true → is_held r number ≡ true → refused_by r (state number) ≡ done
  unfolding refused_by
  state_passed e f = rw (e, f)

  pub state_given : {s : List ℕ} {revision signers : ℕ} → s ≡ slot_under r number → revision ≡ revision_of (plan_in s) → signers ≡ signers_in s → record { revision = revision; signers = signers } ≡ stated (given r (state number))
  unfolding given
  state_given u e f = rw (e, f, u)

  pub state_kept : r ≡ changed r (state number)
  unfolding changed
  state_kept = refl

-- release
module _ (r : List ℕ) (number : ℕ) (room : List ℕ) where
  pub release_unsound : sound r ≡ false → refused_by r (release number room) ≡ alone 30
  unfolding refused_by
  release_unsound e = rw e

  pub release_small : sound r ≡ true → length room < 16384 → refused_by r (release number room) ≡ alone 39
  unfolding refused_by
  release_small e l = rw (e, lt-ltb _ _ l)

  pub release_unheld : sound r ≡ true → 16384 ≤ length room → is_held r number ≡ false → refused_by r (release number room) ≡ alone 33
  unfolding refused_by
  release_unheld e l f = rw (e, le-ltb _ _ l, f)

  pub release_unsigned : sound r ≡ true → 16384 ≤ length room → is_held r number ≡ true → eqb (second_signer (slot_under r number)) 0 ≡ true → refused_by r (release number room) ≡ alone 38
  unfolding refused_by
  release_unsigned e l f g = rw (e, le-ltb _ _ l, f, g)

  pub release_passed : sound r ≡ true → 16384 ≤ length room → is_held r number ≡ true → eqb (second_signer (slot_under r number)) 0 ≡ false → refused_by r (release number room) ≡ done
  unfolding refused_by
  release_passed e l f g = rw (e, le-ltb _ _ l, f, g)

  -- refused, the room stays as it is
  pub release_refused : {x : Refusal} → refused_by r (release number room) ≡ x → is_done x ≡ false → {got : Result ℕ Refusal} → got ≡ Err x → Called r (release number room) released got r × (room ≡ room_after r number room)
  unfolding room_after
  release_refused {x} e n f =
      let no : is_done (refused_by r (release number room)) ≡ false = rw e n in
      (call_refused e n f, rw no)

  -- else the plan goes there
  pub release_done : refused_by r (release number room) ≡ done → 16384 ≤ length room → {s p : List ℕ} → s ≡ slot_under r number → p ≡ plan_in s → length p ≤ 16384 →
      {n : ℕ} → n ≡ length p → {out : List ℕ} → out ≡ put room 0 p →
      Called r (release number room) released (Ok n) r × (out ≡ room_after r number room)
  unfolding given changed room_after
  release_done e l {s} {p} u d k {n} g {out} o =
      let yes : is_done (refused_by r (release number room)) ≡ true = rw e in
      let under : p ≡ plan_under r number = rw (d, u) in
      let answer : n ≡ released (given r (release number room)) = rw (g, under) in
      let there : put room 0 p ≡ p ++ drop (length p) room = put_in room 0 p (omega arith) ∙ rw zero-add in
      (call_done e (ap Ok answer) refl, o ∙ there ∙ rw (yes, ← under))

-- what C gets of a call is what it answers
pub code_answered : {X : Type 0} (give : Answered → X) (r : List ℕ) (c : Call) {got : Result X Refusal} → got ≡ outcome give (answered r c) → code_in got ≡ code_of (answered r c).refusal
unfolding answered
code_answered give r c e =
    ⊎_elim
    (λ (t : is_done (refused_by r c) ≡ true). rw (e, t, given_done r c))
    (λ (t : is_done (refused_by r c) ≡ false). rw (e, t, t))
    (bool_cases (is_done (refused_by r c)))
