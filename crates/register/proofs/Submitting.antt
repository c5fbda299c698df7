-- What a verdict says of a plan that is to be held, and each way through submit. Assumes nothing.
use Rattle.std.specs.Prelude.{Err, Ok}
use Prim.Native.Nat.{ℕ, ◌%◌, ◌≤◌, ◌<◌}
use mathlib.Core.Bool.{true, false, not, ◌||◌}
use mathlib.Core.List.{List}
use mathlib.Core.Path.{◌≡◌, ◌∙◌}
use lib.Dec.{eqb, ltb}
use lib.ListN.{length}
use borrow.Author.Tests.{lt-ltb, le-ltb, ltb-false}
use Rattle.below.proofs.Tests.{or_neither}
use Rattle.plan.specs.Fields.{plan_number_of, revision_of}
use Rattle.refusal.specs.declared.Refusal.{Refusal}
use Rattle.refusal.specs.Refusals.{alone}
use Rattle.verdict.specs.Verdict.{plan_limit, verdict_of}
use Rattle.verdict.proofs.Exactly.{accepted_only}
use Rattle.register.specs.Slots.{plan_in, slot_bytes, with_slot, held_at, is_held, free_at, has_free, slot_under, plan_under}
use Rattle.register.specs.Sound.{sound}
use Rattle.register.specs.Steps.{Call.submit, done, refused_by, changed}

module _ (p : List ℕ) where
  -- an accepted plan has room in a slot
  pub accepted_fits : {n : ℕ} → verdict_of p ≡ Ok n → length p ≤ 16384
  accepted_fits e = ltb-false _ _ (or_neither (eqb (length p) 0 || not (eqb (length p % 512) 0)) (ltb plan_limit (length p)) (accepted_only p e).long).1

-- the revision of the plan that is held
pub under_revision : (r : List ℕ) (number : ℕ) {s q : List ℕ} {old : ℕ} → s ≡ slot_under r number → q ≡ plan_in s → old ≡ revision_of q → old ≡ revision_of (plan_under r number)
under_revision r number a b e = e ∙ rw (b, a)

module _ (r p : List ℕ) where
  pub submit_unsound : sound r ≡ false → refused_by r (submit p) ≡ alone 30
  unfolding refused_by
  submit_unsound e = rw e

  pub submit_broken : sound r ≡ true → {x : Refusal} → verdict_of p ≡ Err x → refused_by r (submit p) ≡ x
  unfolding refused_by
  submit_broken e v = rw (e, v)

  module _ (e : sound r ≡ true) {n : ℕ} (v : verdict_of p ≡ Ok n) where
    pub submit_stale : is_held r (plan_number_of p) ≡ true → revision_of p ≤ revision_of (plan_under r (plan_number_of p)) → refused_by r (submit p) ≡ alone 32
    unfolding refused_by
    submit_stale f l = rw (e, v, f, le-ltb _ _ l)

    pub submit_full : is_held r (plan_number_of p) ≡ false → has_free r ≡ false → refused_by r (submit p) ≡ alone 31
    unfolding refused_by
    submit_full f l = rw (e, v, f, l)

    pub submit_again : is_held r (plan_number_of p) ≡ true → revision_of (plan_under r (plan_number_of p)) < revision_of p → refused_by r (submit p) ≡ done
    unfolding refused_by
    submit_again f l = rw (e, v, f, lt-ltb _ _ l)

    pub submit_new : is_held r (plan_number_of p) ≡ false → has_free r ≡ true → refused_by r (submit p) ≡ done
    unfolding refused_by
    submit_new f l = rw (e, v, f, l)

  pub submit_same : is_held r (plan_number_of p) ≡ true → {h : ℕ} → held_at r (plan_number_of p) ≡ h → {left : List ℕ} → left ≡ with_slot r h (slot_bytes p 0 0) → left ≡ changed r (submit p)
  unfolding changed
  submit_same f a b = b ∙ rw (f, ← a)

  pub submit_free : is_held r (plan_number_of p) ≡ false → {i : ℕ} → free_at r ≡ i → {left : List ℕ} → left ≡ with_slot r i (slot_bytes p 0 0) → left ≡ changed r (submit p)
  unfolding changed
  submit_free f a b = b ∙ rw (f, ← a)
