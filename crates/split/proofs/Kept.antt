-- What an accepted plan keeps of the rules, as far as its parts count on it: the form, rule 6 and rule 16. Assumes nothing.
use Rattle.std.specs.Prelude.{Ok}
use Prim.Native.Nat.{ℕ, zero, suc, ◌+◌, ◌-◌, ◌≤◌, ◌<◌}
use mathlib.Core.Bool.{true, false}
use mathlib.Core.List.{List}
use mathlib.Core.Logic.{⊎_elim}
use mathlib.Core.Path.{◌≡◌, refl, sym, ◌∙◌}
use native.Mathlib.Nat.{eq-or-lt_of_le}
use native.Mathlib.Omega.{arith}
use borrow.Author.Tests.{lt-ltb, le-leb, ltb-false}
use Rattle.below.proofs.Search.{any_not, first_facts}
use Rattle.below.proofs.Tests.{le_or_lt, true_not_false}
use Rattle.form.proofs.Formed.{Formed, dated}
use Rattle.form.proofs.Laws.{right_is, short}
use Rattle.form.specs.Form.{form_of}
use Rattle.period.specs.Period.{ahead_of, early, period_breaks}
use Rattle.plan.specs.Fields.{first_of, last_of}
use Rattle.plan.specs.Periods.{blocks_of, block_at, is_period, class_of}
use Rattle.verdict.proofs.Exactly.{NoRuleBroken, accepted_only, formed_of}
use Rattle.verdict.proofs.Lowest.{row_period, row_16}
use Rattle.verdict.specs.Coverage.{may_share, shares_with, shares}
use Rattle.verdict.specs.Verdict.{plan_limit, verdict_of}

pub record Kept (p : List ℕ) : Type 0 where
  -- rules 1 to 4
  pub form : Formed plan_limit p
  -- rule 6, of any two periods: the one behind begins no earlier
  pub rising : (b c : ℕ) → b < c → c < blocks_of p → is_period p b ≡ true → is_period p c ≡ true →
      first_of (block_at p b) ≤ first_of (block_at p c)
  -- and rule 16: it begins behind the other's end, where the two may not share a day
  pub apart : (b c : ℕ) → b < c → c < blocks_of p → is_period p b ≡ true → is_period p c ≡ true →
      may_share (class_of p b) (class_of p c) ≡ false → last_of (block_at p b) < first_of (block_at p c)

pub kept_right : {p : List ℕ} → Kept p → form_of plan_limit p ≡ Ok tt
kept_right {p} k = sym (right_is plan_limit p k.form.long k.form.passed)

pub kept_few : {p : List ℕ} → Kept p → blocks_of p ≤ 32
kept_few {p} k = omega (arith, short plan_limit p k.form.long)

module _ (p : List ℕ) (n : NoRuleBroken p) where
  not_early : (c : ℕ) → c < blocks_of p → is_period p c ≡ true → early p c ≡ false
  unfolding period_breaks
  not_early c l t = rw t at (sym (row_period p {k = 6} (omega arith) (omega arith) c) ∙ n.none 6 c (omega arith) l)

  -- the nearest period ahead of block c, where there is one at block b: it is not ahead of that one
  module _ (b c : ℕ) (l : b < c) (q : c < blocks_of p) (s : is_period p b ≡ true) (t : is_period p c ≡ true) where
    near : ahead_of p c ≤ c - 1 - b
    unfolding ahead_of
    near =
        ⊎_elim
        (λ h. h)
        (λ (h : c - 1 - b < ahead_of p c).
        let e : c - 1 - (c - 1 - b) ≡ b = omega arith in
        absurd (true_not_false s (rw e at ((first_facts (λ i. is_period p (c - 1 - i)) c).before (c - 1 - b) h))))
        (le_or_lt (ahead_of p c) (c - 1 - b))

    ahead : (a : ℕ) × (b ≤ a) × (a < c) × (is_period p a ≡ true) × (first_of (block_at p a) ≤ first_of (block_at p c))
    unfolding ahead_of
    ahead =
        let h : ahead_of p c < c = omega (arith, near) in (
          c - 1 - ahead_of p c,
          omega (arith, near),
          omega arith,
          (first_facts (λ i. is_period p (c - 1 - i)) c).here h,
          ltb-false _ _ (rw (lt-ltb (ahead_of p c) c h) at (not_early c q t)),
        )

  rises : (fuel b c : ℕ) → c ≤ b + fuel → b < c → c < blocks_of p → is_period p b ≡ true → is_period p c ≡ true →
      first_of (block_at p b) ≤ first_of (block_at p c)
  rises zero b c h l q s t = absurd (omega arith)
  rises (suc fuel) b c h l q s t =
      let a = ahead b c l q s t in
      ⊎_elim
      (λ (e : b ≡ a.0). rw e a.4)
      (λ (e : b < a.0). omega (arith, rises fuel b a.0 (omega (arith, a.2)) e (omega (arith, a.2)) s a.3, a.4))
      (eq-or-lt_of_le a.1)

  rule_6 : (b c : ℕ) → b < c → c < blocks_of p → is_period p b ≡ true → is_period p c ≡ true →
      first_of (block_at p b) ≤ first_of (block_at p c)
  rule_6 b c l = rises c b c (omega arith) l

  not_shared : (c : ℕ) → c < blocks_of p → shares p c ≡ false
  not_shared c l = sym (row_16 p c) ∙ n.none 16 c (omega arith) l

  rule_16 : (b c : ℕ) → b < c → c < blocks_of p → is_period p b ≡ true → is_period p c ≡ true →
      may_share (class_of p b) (class_of p c) ≡ false → last_of (block_at p b) < first_of (block_at p c)
  unfolding shares shares_with
  rule_16 b c l q s t e =
      let x = rw t at (not_shared c q) in
      let days = dated (formed_of p n) c q t in
      let f : first_of (block_at p b) ≤ last_of (block_at p c) = omega (arith, rule_6 b c l q s t, days.0) in
      ⊎_elim
      (λ (h : first_of (block_at p c) ≤ last_of (block_at p b)).
      let y : true ≡ false = rw (s, e, le-leb _ _ f, le-leb _ _ h) at (any_not (shares_with p c) x b l) in
      absurd (true_not_false refl y))
      (λ h. h)
      (le_or_lt (first_of (block_at p c)) (last_of (block_at p b)))

  pub kept : Kept p
  kept = record { form = formed_of p n; rising = rule_6; apart = rule_16 }

pub accepted_kept : (p : List ℕ) {n : ℕ} → verdict_of p ≡ Ok n → Kept p
accepted_kept p e = kept p (accepted_only p e)
