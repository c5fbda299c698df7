-- The verdict on bytes of the right form, computed: rule 17 by the day after each period (verdict/proofs/DayAfter.antt), since
-- the days of the whole calendar are too many to compute over. Assumes nothing.
use Rattle.std.specs.Prelude.{Err, Ok}
use Prim.Native.Nat.{ℕ, ◌+◌, ◌-◌, ◌≤◌, ◌<◌}
use mathlib.Core.Bool.{Bool, true, false, ◌||◌}
use mathlib.Core.List.{List}
use mathlib.Core.Logic.{⊎_elim}
use mathlib.Core.Path.{◌≡◌, sym, ◌∙◌}
use native.Mathlib.Omega.{arith}
use lib.ListN.{length}
use borrow.Author.Count.{below_more}
use Rattle.below.proofs.Search.{any_none, first_facts}
use Rattle.below.proofs.Tests.{and_false, le_or_lt}
use Rattle.below.specs.Below.{any_below, first_below}
use Rattle.form.proofs.Formed.{Formed, dated}
use Rattle.plan.specs.Periods.{blocks_of}
use Rattle.refusal.specs.Refusals.{rule_at}
use Rattle.verdict.proofs.DayAfter.{hole_after_lem}
use Rattle.verdict.proofs.Lowest.{Clear, row_17, formed_clear, broken_is, accepted_is}
use Rattle.verdict.specs.Coverage.{hole, holes}
use Rattle.verdict.specs.Code.Groups.{hole_after}
use Rattle.verdict.specs.Code.Ready.{Dated}
use Rattle.verdict.specs.Verdict.{plan_limit, breaks, verdict_of}
use Rattle.verdict.specs.declared.Group.TheVariants.{All, Fixed, Need}

-- how many of the rules from 5 on, n at the most, are not broken before the first that is
unfoldable pub clear_from5 : ℕ → List ℕ → ℕ
clear_from5 n p = first_below n (λ i. any_below (blocks_of p) (breaks p (5 + i)))

-- the day after some period is a hole
unfoldable pub any_after : List ℕ → Bool
any_after p =
    any_below (blocks_of p) (hole_after All p)
    || any_below (blocks_of p) (hole_after Fixed p)
    || any_below (blocks_of p) (hole_after Need p)

module _ {p : List ℕ} (f : Formed plan_limit p) where
  clear_to : (n : ℕ) → clear_from5 n p ≡ n → Clear p (5 + n)
  unfolding clear_from5
  clear_to n e k l =
      ⊎_elim
      (λ (h : 5 ≤ k).
      let z : 5 + (k - 5) ≡ k = omega arith in
      rw z at ((first_facts (λ i. any_below (blocks_of p) (breaks p (5 + i))) n).before (k - 5) (omega arith)))
      (λ h. formed_clear p f k h)
      (le_or_lt 5 k)

  -- the first rule that is broken, and the first block that breaks it
  pub is_broken_lem : (n : ℕ) → n < 13 → clear_from5 n p ≡ n → {b : ℕ} → first_below (blocks_of p) (breaks p (5 + n)) ≡ b → b < blocks_of p →
      verdict_of p ≡ Err (rule_at (5 + n) b)
  is_broken_lem n l e {b} z q =
      let g = first_facts (breaks p (5 + n)) (blocks_of p) in
      sym (broken_is p f.long (omega arith) (clear_to n e) q
      (λ c h. g.before c (omega arith))
      (rw z at (g.here (omega arith))))

  pub holes_after : holes p ≡ any_after p
  unfolding any_after holes
  holes_after =
      let d : Dated p = dated f in
      rw (hole_after_lem All p d, hole_after_lem Fixed p d, hole_after_lem Need p d)

  -- a hole of all periods together
  pub together_after : any_below (blocks_of p) (hole_after All p) ≡ hole All All p
  together_after = hole_after_lem All p (dated f)

  -- rule 17, or none
  module _ (e : clear_from5 12 p ≡ 12) where
    pub is_hole : 0 < blocks_of p → any_after p ≡ true → verdict_of p ≡ Err (rule_at 17 0)
    is_hole some t =
        let h : holes p ≡ true = holes_after ∙ t in
        sym (broken_is p f.long (omega arith) (clear_to 12 e) some (λ b l. absurd (omega arith)) (row_17 p 0 ∙ rw h))

    pub is_accepted_lem : any_after p ≡ false → verdict_of p ≡ Ok (length p)
    is_accepted_lem t =
        let h : holes p ≡ false = holes_after ∙ t in
        let last : any_below (blocks_of p) (breaks p 17) ≡ false = any_none (breaks p 17) (λ b l. row_17 p b ∙ rw (h, and_false)) in
        sym (accepted_is p f.long (below_more (λ (k : ℕ). any_below (blocks_of p) (breaks p k) ≡ false) 17 (clear_to 12 e) last))
