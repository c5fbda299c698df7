-- What a call that is not refused has shown, test by test. Assumes nothing.
use Rattle.std.specs.Prelude.{Err, Ok}
use Prim.Native.Nat.{ℕ, ◌≤◌, ◌<◌}
use mathlib.Core.Bool.{Bool, true, false, cond}
use mathlib.Core.List.{List, [], ◌∷◌}
use mathlib.Core.Logic.{⊎_elim}
use mathlib.Core.Path.{◌≡◌, refl, ap, ◌∙◌}
use native.Mathlib.Omega.{arith}
use lib.Dec.{eqb, ltb}
use lib.ListN.{length}
use borrow.Author.Tests.{eqb-true, eq-eqb, ne_eqb, ltb-true, ltb-false, lt-ltb, le-ltb, not-false}
use Rattle.below.proofs.Tests.{bool_cases, true_not_false, and_both, both_and}
use Rattle.form.specs.Form.{bad_length, form_breaks}
use Rattle.plan.specs.Fields.{plan_number_of}
use Rattle.plan.specs.Periods.{blocks_of}
use Rattle.refusal.proofs.Order.{block_facts, block_some}
use Rattle.refusal.specs.Refusals.{rule_at, alone}
use Rattle.refusal.specs.declared.Refusal.{Refusal}
use Rattle.verdict.proofs.Lowest.{row_form}
use Rattle.verdict.specs.Verdict.{plan_limit, breaks, first_rule, first_block, verdict_of}
use Rattle.verdict.specs.Answers.{Answer}
use Rattle.register.specs.Slots.{slots_of, first_signer, second_signer, is_held, slot_under, plan_under}
use Rattle.register.specs.Sound.{is_accepted, sound}
use Rattle.register.specs.Steps.{Call.clear, Call.submit, Call.sign, Call.release, Call.drop, is_done, unless_broken, is_stale, is_full, same, refused_by}

-- a refusal of the verdict has a number: no rule has number 0
form_zero : (p : List ℕ) (b : ℕ) → form_breaks p 0 b ≡ false
unfolding form_breaks
form_zero p b = refl

some_rule : (p : List ℕ) → first_rule p < 18 → first_rule p ≡ 0 → ⊥
some_rule p l z =
    let b = first_block p (first_rule p) in
    let hit : breaks p (first_rule p) b ≡ true = (block_facts (blocks_of p) (breaks p) (first_rule p)).here (block_some (blocks_of p) (breaks p) 18 l) in
    true_not_false hit (ap (λ (k : ℕ). breaks p k b) z ∙ row_form p {k = 0} (omega arith) b ∙ form_zero p b)

pub broken_number : (p : List ℕ) (q : Refusal) → verdict_of p ≡ Err q → is_done q ≡ false
unfolding verdict_of
broken_number p q e =
    ⊎_elim
    (λ (t : bad_length plan_limit p ≡ true). let f = rw t at e in let same : rule_at 1 0 ≡ q = cc in rw (← same))
    (λ (t : bad_length plan_limit p ≡ false).
    let f = rw t at e in
    ⊎_elim
    (λ (u : ltb (first_rule p) 18 ≡ true).
    let g = rw u at f in
    let same : rule_at (first_rule p) (first_block p (first_rule p)) ≡ q = cc in
    rw (← same) (ne_eqb (first_rule p) 0 (some_rule p (ltb-true _ _ u))))
    (λ (u : ltb (first_rule p) 18 ≡ false). let g = rw u at f in absurd (let z : ◌≡◌ {A = ℕ} 0 1 = cc in omega arith))
    (bool_cases (ltb (first_rule p) 18)))
    (bool_cases (bad_length plan_limit p))

-- one test of a call's order was passed, and so were the later ones
passed : (t : Bool) (q x : Refusal) → is_done q ≡ false → is_done (cond t q x) ≡ true → (t ≡ false) × (is_done x ≡ true)
passed true q x n e = absurd (true_not_false e n)
passed false q x n e = (refl, e)

judged : (a : Answer) (x : Refusal) → ((q : Refusal) → a ≡ Err q → is_done q ≡ false) → is_done (unless_broken a x) ≡ true → (is_accepted a ≡ true) × (is_done x ≡ true)
judged (Ok n) x h e = (refl, e)
judged (Err q) x h e = absurd (true_not_false e (h q refl))

pub record Submitted (r p : List ℕ) : Type 0 where
  pub sound_was : sound r ≡ true
  pub accepted : is_accepted (verdict_of p) ≡ true
  pub newer : is_stale r p ≡ false
  pub room : is_full r p ≡ false

pub submitted : (r p : List ℕ) → is_done (refused_by r (submit p)) ≡ true → Submitted r p
unfolding refused_by
submitted r p e =
    let a = passed _ _ _ refl e in
    let b = judged (verdict_of p) _ (broken_number p) a.1 in
    let c = passed _ _ _ refl b.1 in
    let d = passed _ _ _ refl c.1 in
    record { sound_was = not-false _ a.0; accepted = b.0; newer = c.0; room = d.0 }

pub record Signed (r : List ℕ) (signer : ℕ) (p : List ℕ) : Type 0 where
  pub sound_was : sound r ≡ true
  pub somebody : eqb signer 0 ≡ false
  pub accepted : is_accepted (verdict_of p) ≡ true
  pub held : is_held r (plan_number_of p) ≡ true
  pub seen : same p (plan_under r (plan_number_of p)) ≡ true
  pub no_second : eqb (second_signer (slot_under r (plan_number_of p))) 0 ≡ true
  pub not_first : eqb (first_signer (slot_under r (plan_number_of p))) signer ≡ false

pub signed : (r : List ℕ) (signer : ℕ) (p : List ℕ) → is_done (refused_by r (sign signer p)) ≡ true → Signed r signer p
unfolding refused_by
signed r signer p e =
    let a = passed _ _ _ refl e in
    let b = passed _ _ _ refl a.1 in
    let c = judged (verdict_of p) _ (broken_number p) b.1 in
    let d = passed _ _ _ refl c.1 in
    let f = passed _ _ _ refl d.1 in
    let g = passed _ _ _ refl f.1 in
    let h = passed _ _ _ refl g.1 in
    record {
      sound_was = not-false _ a.0;
      somebody = b.0;
      accepted = c.0;
      held = not-false _ d.0;
      seen = not-false _ f.0;
      no_second = not-false _ g.0;
      not_first = h.0;
    }

pub record Released (r : List ℕ) (n : ℕ) (room : List ℕ) : Type 0 where
  pub sound_was : sound r ≡ true
  pub long : 16384 ≤ length room
  pub held : is_held r n ≡ true
  pub second : eqb (second_signer (slot_under r n)) 0 ≡ false

pub released : (r : List ℕ) (n : ℕ) (room : List ℕ) → is_done (refused_by r (release n room)) ≡ true → Released r n room
unfolding refused_by
released r n room e =
    let a = passed _ _ _ refl e in
    let b = passed _ _ _ refl a.1 in
    let c = passed _ _ _ refl b.1 in
    let d = passed _ _ _ refl c.1 in
    record { sound_was = not-false _ a.0; long = ltb-false _ _ b.0; held = not-false _ c.0; second = d.0 }

pub record Dropped (r : List ℕ) (n : ℕ) : Type 0 where
  pub sound_was : sound r ≡ true
  pub held : is_held r n ≡ true

pub dropped : (r : List ℕ) (n : ℕ) → is_done (refused_by r (drop n)) ≡ true → Dropped r n
unfolding refused_by
dropped r n e =
    let a = passed _ _ _ refl e in
    let b = passed _ _ _ refl a.1 in
    record { sound_was = not-false _ a.0; held = not-false _ b.0 }

pub cleared : (r : List ℕ) → is_done (refused_by r clear) ≡ true → 0 < slots_of r
unfolding refused_by
cleared r e =
    ⊎_elim
    (λ (t : ltb 0 (slots_of r) ≡ true). ltb-true _ _ t)
    (λ (t : ltb 0 (slots_of r) ≡ false). absurd (true_not_false (rw t at e) refl))
    (bool_cases (ltb 0 (slots_of r)))

-- and a call that has all of them is not refused
unless_accepted : (a : Answer) (x : Refusal) → is_accepted a ≡ true → unless_broken a x ≡ x
unless_accepted (Ok n) x e = refl
unless_accepted (Err q) x e = absurd (true_not_false e refl)

pub submit_done : (r p : List ℕ) → Submitted r p → is_done (refused_by r (submit p)) ≡ true
unfolding refused_by
submit_done r p d = rw (d.sound_was, unless_accepted (verdict_of p) _ d.accepted, d.newer, d.room)

pub sign_done : (r : List ℕ) (signer : ℕ) (p : List ℕ) → Signed r signer p → is_done (refused_by r (sign signer p)) ≡ true
unfolding refused_by
sign_done r signer p d =
    rw (d.sound_was, d.somebody, unless_accepted (verdict_of p) _ d.accepted, d.held, d.seen, d.no_second, d.not_first)

pub release_done : (r : List ℕ) (n : ℕ) (room : List ℕ) → Released r n room → is_done (refused_by r (release n room)) ≡ true
unfolding refused_by
release_done r n room d = rw (d.sound_was, le-ltb _ _ d.long, d.held, d.second)

pub drop_done : (r : List ℕ) (n : ℕ) → Dropped r n → is_done (refused_by r (drop n)) ≡ true
unfolding refused_by
drop_done r n d = rw (d.sound_was, d.held)

pub clear_done : (r : List ℕ) → 0 < slots_of r → is_done (refused_by r clear) ≡ true
unfolding refused_by
clear_done r l = rw (lt-ltb 0 (slots_of r) l)

-- "38 fewer than two"
pub release_few : (r : List ℕ) (n : ℕ) (room : List ℕ) → sound r ≡ true → 16384 ≤ length room → is_held r n ≡ true → eqb (second_signer (slot_under r n)) 0 ≡ true →
    refused_by r (release n room) ≡ alone 38
unfolding refused_by
release_few r n room was l held none = rw (was, le-ltb _ _ l, held, none)

-- the same bytes
pub same_refl : (p : List ℕ) → same p p ≡ true
unfolding same
same_refl [] = refl
same_refl (x ∷ xs) = both_and (eq-eqb x x refl) (same_refl xs)

pub same_eq : (p q : List ℕ) → same p q ≡ true → p ≡ q
unfolding same
same_eq [] [] e = refl
same_eq [] (y ∷ ys) e = absurd (true_not_false e refl)
same_eq (x ∷ xs) [] e = absurd (true_not_false e refl)
same_eq (x ∷ xs) (y ∷ ys) e =
    let b = and_both (eqb x y) (same xs ys) e in
    cc (eqb-true x y b.0, same_eq xs ys b.1)
