-- The laws that a register keeps by the history of its calls, for any register: what each number stands for after a call, and
-- when a release gives it. A register that keeps them keeps the promise. Assumes nothing.
use Prim.Native.Nat.{ℕ, ◌≤◌}
use mathlib.Core.Bool.{Bool, true, false}
use mathlib.Core.List.{List, [], ◌∷◌, Memᴰ}
use mathlib.Core.Logic.{⊎_elim}
use mathlib.Core.Option.{Option, none, some}
use mathlib.Core.Path.{◌≡◌, sym, ap, ◌∙◌}
use lib.Dec.{eqb}
use lib.ListN.{length}
use borrow.Author.Tests.{eqb-true}
use Rattle.below.proofs.Tests.{bool_cases}
use Rattle.plan.specs.Fields.{plan_number_of}
use Rattle.register.specs.History.{Event, Signature, is_ok, accepted_with, signed_with, latest, signatures}
use Rattle.register.specs.Steps.{Call, Call.clear, Call.submit, Call.sign, Call.release, Call.drop, Call.state}
use Rattle.register.proofs.AnyRegister.{Calls, event_of, any_given, AnyReached, AnyReached.any_cleared, AnyReached.any_called, AnyPromise}
use Rattle.register.proofs.LawFind.{none_some}

-- the latest plan accepted under a number has that number
accepted_number : (n : ℕ) (c : Call) (ok : Bool) (before : Option (List ℕ)) → ((p : List ℕ) → before ≡ some p → plan_number_of p ≡ n) →
    (p : List ℕ) → accepted_with n c ok before ≡ some p → plan_number_of p ≡ n
accepted_number n clear true before h p e = absurd (none_some e)
accepted_number n clear false before h p e = h p e
accepted_number n (submit q) true before h p e =
    ⊎_elim
    (λ (t : eqb (plan_number_of q) n ≡ true).
    let f : some q ≡ some p = rw t at e in
    let same : q ≡ p = cc in
    rw (← same) (eqb-true _ _ t))
    (λ (t : eqb (plan_number_of q) n ≡ false). h p (rw t at e))
    (bool_cases (eqb (plan_number_of q) n))
accepted_number n (submit q) false before h p e = h p e
accepted_number n (sign signer q) ok before h p e = h p e
accepted_number n (release m room) ok before h p e = h p e
accepted_number n (drop m) true before h p e =
    ⊎_elim
    (λ (t : eqb m n ≡ true). absurd (none_some (rw t at e)))
    (λ (t : eqb m n ≡ false). h p (rw t at e))
    (bool_cases (eqb m n))
accepted_number n (drop m) false before h p e = h p e
accepted_number n (state m) ok before h p e = h p e

pub latest_number : (n : ℕ) (h : List Event) (p : List ℕ) → latest n h ≡ some p → plan_number_of p ≡ n
unfolding latest
latest_number n [] p e = absurd (none_some e)
latest_number n (x ∷ h) p e = accepted_number n x.call (is_ok x) (latest n h) (latest_number n h) p e

-- two different signers stand in the signatures, on p
pub record TwoSigned (p : List ℕ) (ss : List Signature) : Type 0 where
  pub one : ℕ
  pub two : ℕ
  pub different : one ≡ two → ⊥
  pub one_signed : Memᴰ (record { signer = one; plan = p }) ss
  pub two_signed : Memᴰ (record { signer = two; plan = p }) ss

module _ {R : Type 0} (k : Calls R) (Lent : R → Type 0) (Can : Call → Type 0) where
  -- a clear was not refused
  abbrev pub IsCleared : R → Type 0
  IsCleared r = is_ok (event_of k r clear) ≡ true

  pub record Laws : Type 1 where
    -- what is kept from call to call
    pub good : R → Type 0
    -- the plan that stands under a number, and who has signed it
    pub plan_under : R → ℕ → Option (List ℕ)
    pub signed_under : R → ℕ → List Signature
    -- a clear leaves nothing, whatever it was called on
    pub good_cleared : (r : R) → Lent r → IsCleared r → good (k.leaves r clear)
    pub plan_cleared : (r : R) → Lent r → IsCleared r → (n : ℕ) → plan_under (k.leaves r clear) n ≡ none
    pub signed_cleared : (r : R) → Lent r → IsCleared r → (n : ℕ) → signed_under (k.leaves r clear) n ≡ []
    -- each call leaves what its history says
    pub good_after : (r : R) → good r → (c : Call) → Can c → good (k.leaves r c)
    pub plan_after : (r : R) → good r → (c : Call) → Can c → (n : ℕ) →
        plan_under (k.leaves r c) n ≡ accepted_with n c (is_ok (event_of k r c)) (plan_under r n)
    pub signed_after : (r : R) → good r → (c : Call) → Can c → (n : ℕ) →
        signed_under (k.leaves r c) n ≡ signed_with n c (is_ok (event_of k r c)) (signed_under r n)
    -- what a release gives, and when
    pub released_plan : (r : R) → good r → (n : ℕ) (room : List ℕ) → is_ok (event_of k r (release n room)) ≡ true →
        plan_under r n ≡ some (any_given k r n room)
    pub released_two : (r : R) → good r → (n : ℕ) (room : List ℕ) → is_ok (event_of k r (release n room)) ≡ true →
        TwoSigned (any_given k r n room) (signed_under r n)
    pub releases : (r : R) → good r → (n : ℕ) (room p : List ℕ) → plan_under r n ≡ some p → TwoSigned p (signed_under r n) → 16384 ≤ length room →
        (is_ok (event_of k r (release n room)) ≡ true) × (any_given k r n room ≡ p)

  module _ (L : Laws) where
    good_at : {h : List Event} {r : R} → AnyReached k Lent Can h r → L.good r
    good_at (any_cleared {r = r} a e) = L.good_cleared r a e
    good_at (any_called {r = r} c a w) = L.good_after r (good_at w) c a

    -- the plan that stands under a number is the latest one accepted
    pub plan_at : (n : ℕ) {h : List Event} {r : R} → AnyReached k Lent Can h r → L.plan_under r n ≡ latest n h
    unfolding latest
    plan_at n (any_cleared {r = r} a e) = L.plan_cleared r a e n ∙ rw e
    plan_at n (any_called {r = r} c a w) = L.plan_after r (good_at w) c a n ∙ ap (accepted_with n c (is_ok (event_of k r c))) (plan_at n w)

    -- and who has signed it is who has signed since
    pub signed_at : (n : ℕ) {h : List Event} {r : R} → AnyReached k Lent Can h r → L.signed_under r n ≡ signatures n h
    unfolding signatures
    signed_at n (any_cleared {r = r} a e) = L.signed_cleared r a e n ∙ rw e
    signed_at n (any_called {r = r} c a w) = L.signed_after r (good_at w) c a n ∙ ap (signed_with n c (is_ok (event_of k r c))) (signed_at n w)

    pub promise : (Sound : R → Type 0) → ((r : R) → L.good r → Sound r) → AnyPromise k Lent Can Sound
    promise Sound good-sound =
        record {
          stays_sound = λ h r w. good-sound r (good_at w);
          gives_justified = λ h r w n room e.
              let t : TwoSigned (any_given k r n room) (signatures n h) = rw (signed_at n w) at (L.released_two r (good_at w) n room e) in
              record {
                accepted = sym (plan_at n w) ∙ L.released_plan r (good_at w) n room e;
                one = t.one;
                two = t.two;
                different = t.different;
                one_signed = t.one_signed;
                two_signed = t.two_signed;
              };
          justified_given = λ h r w n room p j l.
              let t : TwoSigned p (signatures n h) =
              record {
                one = j.one;
                two = j.two;
                different = j.different;
                one_signed = j.one_signed;
                two_signed = j.two_signed;
              } in
              L.releases r (good_at w) n room p (plan_at n w ∙ j.accepted) (rw (signed_at n w) t) l;
        }
