-- The promise of the register of slots, and what its slots hold by its history. Assumes nothing.
use Prim.Native.Nat.{ℕ, ◌≤◌, ◌<◌}
use mathlib.Core.Bool.{true, false}
use mathlib.Core.List.Memᴰ
use mathlib.Core.List.{List, [], ◌∷◌, Memᴰ}
use mathlib.Core.Logic.{⊎_elim}
use mathlib.Core.Option.{Option, none, some}
use mathlib.Core.Path.{◌≡◌, sym, ap, ◌∙◌}
use native.Mathlib.Omega.{arith}
use lib.Dec.{eqb}
use lib.ListN.{length}
use borrow.Author.Tests.{eqb-false, lt-ltb}
use Rattle.below.proofs.Tests.{bool_cases}
use Rattle.register.specs.History.{Event, Signature, latest, signatures}
use Rattle.register.specs.Promise.{SlotPromise}
use Rattle.register.specs.Reached.{seen, Reached, Reached.cleared, IsBytes, CanCall}
use Rattle.register.specs.Slots.{slots_of, first_signer, second_signer, plan_in}
use Rattle.register.specs.Sound.{sound}
use Rattle.register.specs.Steps.{Call.clear, is_done, refused_by, after}
use Rattle.register.proofs.AnyRegister.{slot_calls, reached_any, AnyPromise}
use Rattle.register.proofs.History.{plan_at, signed_at, promise}
use Rattle.register.proofs.LawFind.{found}
use Rattle.register.proofs.Reached.{plan_of, signatures_in, signatures_of, answered_done, slot_laws}

any_promise : AnyPromise slot_calls IsBytes CanCall (λ r. sound r ≡ true)
unfolding slot_laws
any_promise = promise slot_calls IsBytes CanCall slot_laws (λ r. sound r ≡ true) (λ r g. g.is_sound)

pub slot_promise : SlotPromise
slot_promise =
    record {
      stays_sound = λ h r w. any_promise.stays_sound h r (reached_any w);
      gives_justified = λ h r w. any_promise.gives_justified h r (reached_any w);
      justified_given = λ h r w. any_promise.justified_given h r (reached_any w);
    }

-- there are reached registers: all that a clear is called on, where there is a slot
pub begins : (r : List ℕ) → IsBytes r → 16896 ≤ length r → Reached (seen r clear ∷ []) (after r clear)
begins r bytes l = cleared r bytes (answered_done r clear ∙ not_refused)
  where
    not_refused : is_done (refused_by r clear) ≡ true
    not_refused = unfold refused_by in (let some_slot : 0 < slots_of r = omega arith in rw (lt-ltb _ _ some_slot))

-- under each number the register finds the latest plan accepted, and those who have signed it since
module _ {h : List Event} {r : List ℕ} (w : Reached h r) (n : ℕ) where
  pub held_latest : plan_of (found r n) ≡ latest n h
  unfolding slot_laws
  held_latest = plan_at slot_calls IsBytes CanCall slot_laws n (reached_any w)

  pub held_signed : signatures_of (found r n) ≡ signatures n h
  unfolding slot_laws
  held_signed = signed_at slot_calls IsBytes CanCall slot_laws n (reached_any w)

-- who stands in a slot: two at the most, on its plan, and never signer 0
few_in : (s : List ℕ) → length (signatures_in s) ≤ 2
few_in s =
    ⊎_elim
    (λ (t : eqb (first_signer s) 0 ≡ true). rw t (omega arith))
    (λ (t : eqb (first_signer s) 0 ≡ false).
    ⊎_elim
    (λ (u : eqb (second_signer s) 0 ≡ true). rw (t, u) (omega arith))
    (λ (u : eqb (second_signer s) 0 ≡ false). rw (t, u) (omega arith))
    (bool_cases (eqb (second_signer s) 0)))
    (bool_cases (eqb (first_signer s) 0))

few_of : (x : Option (List ℕ)) → length (signatures_of x) ≤ 2
few_of none = omega arith
few_of (some s) = few_in s

-- a signature on the plan that stands, by somebody
pub record Stands (p : Option (List ℕ)) (g : Signature) : Type 0 where
  pub somebody : g.signer ≡ 0 → ⊥
  pub on_plan : p ≡ some g.plan

stands_in : (s : List ℕ) (g : Signature) → Memᴰ g (signatures_in s) → Stands (some (plan_in s)) g
stands_in s g m =
    ⊎_elim
    (λ (t : eqb (first_signer s) 0 ≡ true). absurd (Memᴰ.not-nil (rw t at m)))
    (λ (t : eqb (first_signer s) 0 ≡ false).
    ⊎_elim
    (λ (u : eqb (second_signer s) 0 ≡ true).
    ⊎_elim (λ e. here (first_signer s) t e) (λ k. absurd (Memᴰ.not-nil k)) (Memᴰ.cases_cons (rw (t, u) at m)))
    (λ (u : eqb (second_signer s) 0 ≡ false).
    ⊎_elim
    (λ e. here (second_signer s) u e)
    (λ k. ⊎_elim (λ e. here (first_signer s) t e) (λ k. absurd (Memᴰ.not-nil k)) (Memᴰ.cases_cons k))
    (Memᴰ.cases_cons (rw (t, u) at m)))
    (bool_cases (eqb (second_signer s) 0)))
    (bool_cases (eqb (first_signer s) 0))
  where
    here : (a : ℕ) → eqb a 0 ≡ false → g ≡ record { signer = a; plan = plan_in s } → Stands (some (plan_in s)) g
    here a t e =
        record {
          somebody = λ z. eqb-false a 0 t (sym (ap (λ (g : Signature). g.signer) e) ∙ z);
          on_plan = ap some (sym (ap (λ (g : Signature). g.plan) e));
        }

stands_of : (x : Option (List ℕ)) (g : Signature) → Memᴰ g (signatures_of x) → Stands (plan_of x) g
stands_of none g m = absurd (Memᴰ.not-nil m)
stands_of (some s) g m = stands_in s g m

-- so it is of the history: since the latest plan was accepted at most two have signed, each that plan, and never signer 0
module _ {h : List Event} {r : List ℕ} (w : Reached h r) (n : ℕ) where
  pub few_signatures : length (signatures n h) ≤ 2
  few_signatures = rw (← (held_signed w n)) (few_of (found r n))

  pub signatures_stand : (g : Signature) → Memᴰ g (signatures n h) → Stands (latest n h) g
  signatures_stand g m = rw (← (held_latest w n)) (stands_of (found r n) g (rw (← (held_signed w n)) at m))
