-- Runs of bytes that are the same, and each way through sign. Assumes nothing.
use Rattle.std.specs.Prelude.{Err, Ok}
use Prim.Native.Nat.{ℕ}
use mathlib.Core.Bool.{Bool, true, false, not, ◌&&◌}
use mathlib.Core.List.{List, [], ◌∷◌}
use Rattle.std.specs.Str.{bytes_eq}
use mathlib.Core.Path.{◌≡◌, refl, sym, ap, ◌∙◌}
use lib.Dec.{eqb}
use borrow.Author.Tests.{eq-eqb, ne_eqb}
use Rattle.plan.specs.Fields.{plan_number_of}
use Rattle.refusal.specs.declared.Refusal.{Refusal}
use Rattle.refusal.specs.Refusals.{alone}
use Rattle.verdict.specs.Verdict.{verdict_of}
use Rattle.register.specs.Slots.{first_signer, second_signer, plan_in, slot_bytes, with_slot, held_at, is_held, slot_under, plan_under}
use Rattle.register.specs.Sound.{sound}
use Rattle.register.proofs.Answering.{not_not, two_stand}
use Rattle.register.specs.Steps.{Call.sign, done, same, refused_by, changed}

-- std's own word for it
pub same_is : (a b : List ℕ) → bytes_eq a b ≡ same a b
unfolding same
same_is [] [] = refl
same_is [] (y ∷ b) = refl
same_is (x ∷ a) [] = refl
same_is (x ∷ a) (y ∷ b) = ap (λ t. eqb x y && t) (same_is a b)

-- by a test that they differ
module _ (a b : List ℕ) {t : Bool} (e : t ≡ not (bytes_eq a b)) where
  pub same_by : same a b ≡ not t
  same_by = sym (same_is a b) ∙ not_not (bytes_eq a b) ∙ ap not (sym e)

module _ (r : List ℕ) (signer : ℕ) (p : List ℕ) where
  pub sign_unsound : sound r ≡ false → refused_by r (sign signer p) ≡ alone 30
  unfolding refused_by
  sign_unsound e = rw e

  pub sign_nobody : sound r ≡ true → signer ≡ 0 → refused_by r (sign signer p) ≡ alone 35
  unfolding refused_by
  sign_nobody e z = rw (e, eq-eqb _ _ z)

  pub sign_broken : sound r ≡ true → (signer ≡ 0 → ⊥) → {x : Refusal} → verdict_of p ≡ Err x → refused_by r (sign signer p) ≡ x
  unfolding refused_by
  sign_broken e z v = rw (e, ne_eqb _ _ z, v)

  -- the signer is somebody, and the plan accepted
  module _ (e : sound r ≡ true) (z : signer ≡ 0 → ⊥) {n : ℕ} (v : verdict_of p ≡ Ok n) where
    pub sign_unheld : is_held r (plan_number_of p) ≡ false → refused_by r (sign signer p) ≡ alone 33
    unfolding refused_by
    sign_unheld h = rw (e, ne_eqb _ _ z, v, h)

    -- its number is held, in slot s with the plan q
    module _ (h : is_held r (plan_number_of p) ≡ true) {s q : List ℕ} (u : s ≡ slot_under r (plan_number_of p)) (w : q ≡ plan_in s) where
      under_same : {t : Bool} → same p q ≡ t → same p (plan_under r (plan_number_of p)) ≡ t
      under_same k = rw (← u, ← w) k

      pub sign_other : same p q ≡ false → refused_by r (sign signer p) ≡ alone 34
      unfolding refused_by
      sign_other d = rw (e, ne_eqb _ _ z, v, h, under_same d)

      pub sign_full : same p q ≡ true → {two : Bool} → two ≡ not (eqb (second_signer s) 0) → two ≡ true → refused_by r (sign signer p) ≡ alone 37
      unfolding refused_by
      sign_full d {two} f y =
          let g : eqb (second_signer (slot_under r (plan_number_of p))) 0 ≡ false = two_stand u f ∙ ap not y in
          rw (e, ne_eqb _ _ z, v, h, under_same d, g)

      pub sign_twice : same p q ≡ true → {two : Bool} → two ≡ not (eqb (second_signer s) 0) → two ≡ false → {first : ℕ} → first ≡ first_signer s → first ≡ signer → refused_by r (sign signer p) ≡ alone 36
      unfolding refused_by
      sign_twice d {two} f y {first} k l =
          let g : eqb (second_signer (slot_under r (plan_number_of p))) 0 ≡ true = two_stand u f ∙ ap not y in
          let m : eqb (first_signer (slot_under r (plan_number_of p))) signer ≡ true = rw (← u, ← k) (eq-eqb _ _ l) in
          rw (e, ne_eqb _ _ z, v, h, under_same d, g, m)

      pub sign_passed : same p q ≡ true → {two : Bool} → two ≡ not (eqb (second_signer s) 0) → two ≡ false → {first : ℕ} → first ≡ first_signer s → (first ≡ signer → ⊥) → refused_by r (sign signer p) ≡ done
      unfolding refused_by
      sign_passed d {two} f y {first} k l =
          let g : eqb (second_signer (slot_under r (plan_number_of p))) 0 ≡ true = two_stand u f ∙ ap not y in
          let m : eqb (first_signer (slot_under r (plan_number_of p))) signer ≡ false = rw (← u, ← k) (ne_eqb _ _ l) in
          rw (e, ne_eqb _ _ z, v, h, under_same d, g, m)

  -- the first signer, and the second
  module _ {s : List ℕ} (u : s ≡ slot_under r (plan_number_of p)) {h : ℕ} (a : held_at r (plan_number_of p) ≡ h) {first : ℕ} (k : first ≡ first_signer s) where
    pub sign_first : first ≡ 0 → {left : List ℕ} → left ≡ with_slot r h (slot_bytes p signer 0) → left ≡ changed r (sign signer p)
    unfolding changed
    sign_first y b =
        let g : eqb (first_signer (slot_under r (plan_number_of p))) 0 ≡ true = rw (← u, ← k) (eq-eqb _ _ y) in
        b ∙ rw (← a, g)

    pub sign_second : (first ≡ 0 → ⊥) → {left : List ℕ} → left ≡ with_slot r h (slot_bytes p first signer) → left ≡ changed r (sign signer p)
    unfolding changed
    sign_second y b =
        let g : eqb (first_signer (slot_under r (plan_number_of p))) 0 ≡ false = rw (← u, ← k) (ne_eqb _ _ y) in
        let m : first_signer (slot_under r (plan_number_of p)) ≡ first = rw (← u) (sym k) in
        b ∙ rw (← a, g, m)
