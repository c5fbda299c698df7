-- What release and state give a caller stands for the whole answer, its zeros too. Assumes nothing.
use Rattle.std.specs.Prelude.{Ok, Err, Result}
use Rattle.std.specs.Result.{result_unwrap_or}
use Prim.Native.Nat.{ℕ}
use mathlib.Core.Bool.{true, false}
use mathlib.Core.List.{List}
use mathlib.Core.Logic.{⊎_elim}
use mathlib.Core.Path.{◌≡◌, refl}
use Rattle.below.proofs.Tests.{bool_cases}
use Rattle.refusal.specs.declared.Refusal.{Refusal}
use Rattle.register.specs.declared.State.{State}
use Rattle.register.specs.Paper.{released, stated, release_told, state_told}
use Rattle.register.specs.Steps.{Call.release, Call.state, is_done, refused_by, given, answered, Called}

module _ (r : List ℕ) (n : ℕ) {left : List ℕ} where
  pub release_tells : {room : List ℕ} {got : Result ℕ Refusal} → Called r (release n room) released got left → release_told got ≡ answered r (release n room)
  unfolding answered given
  release_tells {room} k =
      ⊎_elim
      (λ (t : is_done (refused_by r (release n room)) ≡ true). rw (k.answer, t) refl)
      (λ (t : is_done (refused_by r (release n room)) ≡ false). rw (k.answer, t, t) refl)
      (bool_cases (is_done (refused_by r (release n room))))

  pub state_tells : {got : Result State Refusal} → Called r (state n) stated got left → state_told got ≡ answered r (state n)
  unfolding answered given
  state_tells k =
      ⊎_elim
      (λ (t : is_done (refused_by r (state n)) ≡ true). rw (k.answer, t) refl)
      (λ (t : is_done (refused_by r (state n)) ≡ false). rw (k.answer, t, t) refl)
      (bool_cases (is_done (refused_by r (state n))))

-- as the code reads them off
pub length_told : (x : Result ℕ Refusal) → result_unwrap_or x 0 ≡ released (release_told x)
length_told (Ok n) = refl
length_told (Err r) = refl

pub whole_told : (x : Result State Refusal) → result_unwrap_or x (record { revision = 0; signers = 0 }) ≡ stated (state_told x)
whole_told (Ok s) = refl
whole_told (Err r) = refl
