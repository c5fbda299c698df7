-- Supply in steps is what W12 says. Assumes nothing.
use Rattle.refusal.specs.Refusals.{refusal_in}
use Rattle.std.specs.Prelude.{Err, Ok}
use Prim.Native.Nat.{ℕ, ◌+◌, ◌*◌, ◌%◌, ◌≤◌, ◌<◌}
use mathlib.Core.Bool.{Bool, false, not, ◌||◌}
use mathlib.Core.List.{List}
use mathlib.Core.Path.{◌≡◌, refl, subst}
use native.Mathlib.Omega.{arith}
use lib.Dec.{eqb}
use lib.ListN.{length}
use Rattle.need.specs.Need.{need_on, stop_day}
use Rattle.pause.specs.Pauses.{is_paused, are_out, pauses_in}
use Rattle.pause.specs.declared.Pause.{Pause}
use Rattle.plan.specs.Fields.{interval_of}
use Rattle.plan.specs.Periods.{block_at}
use Rattle.supply.proofs.Accepted.{in_round, orderly}
use Rattle.supply.proofs.Counting.{counted_answer, counted_holds, counted_days, counted_some}
use Rattle.supply.proofs.OnePeriod.{none_paused, only_stop, only_inside, only_few}
use Rattle.supply.proofs.WholeRounds.{block_need}
use Rattle.supply.specs.Covered.{summed}
use Rattle.supply.specs.Steps.{Counted, counted_of}
use Rattle.supply.specs.Supply.{judged_of, passed_on, lasting_in}
use Rattle.supply.specs.Code.Standing.{round_need}
use Rattle.supply.specs.Answers.{Supply}
use Rattle.verdict.proofs.Exactly.{NoRuleBroken, accepted_only}
use Rattle.verdict.specs.Verdict.{verdict_of}
use Rattle.verdict.specs.Answers.{Answer}
use Rattle.promises.specs.Rounds.{InOnePeriod, Stepped, Rounds}

-- `out` says that 21 is due
module _ (p : List ℕ) (start pack choice : ℕ) (out : Bool) (ps : List Pause) where
  abbrev supply : Supply
  supply = passed_on (verdict_of p) (judged_of p start pack choice out ps)

  abbrev steps : Counted
  steps = counted_of p start pack choice out ps

  -- what holds of the steps' answer holds of supply's
  told : (P : Supply → Type 0) → P steps.answer → P supply
  told P h = subst P (counted_answer p start pack choice out ps) h

  covered : steps.count ≤ (lasting_in supply).days
  covered = told (λ s. steps.count ≤ (lasting_in s).days) (counted_days p start pack choice out ps)

  refused : ((refusal_in supply).number ≡ 0 → ⊥) → steps.count ≡ 0
  refused =
      told (λ s. ((refusal_in s).number ≡ 0 → ⊥) → steps.count ≡ 0)
      (counted_holds p start pack choice out ps (λ c. ((refusal_in c.answer).number ≡ 0 → ⊥) → c.count ≡ 0) (λ r h. refl) (λ h. absurd (h refl)))

  -- an accepted plan of one iterated period, without pauses
  module _ (b : ℕ) (i : InOnePeriod p start ps b) (ok : NoRuleBroken p) where
    unpaused : (d : ℕ) → start ≤ d → d ≤ stop_day choice p → is_paused ps d ≡ false
    unpaused d a z = rw i.unpaused (none_paused d)

    -- each round needs the same
    alike : (d m : ℕ) → start ≤ d → d + m * interval_of (block_at p b) ≤ stop_day choice p + 1 →
        summed (need_on choice p ps) d (m * interval_of (block_at p b)) ≡ m * round_need choice p b
    alike d m a z =
        let o = i.plan in
        block_need choice p b o.iterated (in_round p ok b o.block o.period o.iterated) ps (orderly p ok choice).few o.block d m
        (λ n l.
        only_inside p b o.only ps start (stop_day choice p) o.period i.begun (only_stop p b o.only choice) unpaused choice
        (d + n) (omega arith) (omega arith))

    few_steps : steps.count ≤ interval_of (block_at p b)
    few_steps =
        let o = i.plan in
        only_few p b o.only choice ps start (round_need choice p b) o.period o.block o.iterated i.begun unpaused alike pack out

  -- and one that is refused has no step
  one_round : (b : ℕ) → InOnePeriod p start ps b → steps.count ≤ interval_of (block_at p b)
  one_round b i = by_verdict (verdict_of p) refl
    where
      by_verdict : (a : Answer) → verdict_of p ≡ a → steps.count ≤ interval_of (block_at p b)
      by_verdict (Ok n) v = few_steps b i (accepted_only p v)
      by_verdict (Err r) v = rw v (omega arith)

  stepped : Stepped p start ps supply steps
  stepped =
      record {
        same = counted_answer p start pack choice out ps;
        looked_at = omega (arith, covered);
        covered = covered;
        some = told (λ s. 0 < (lasting_in s).days → 0 < steps.count) (counted_some p start pack choice out ps);
        refused = refused;
        two_rounds = λ b i. omega (arith, one_round b i);
        one_round = one_round;
      }

pub rounds : Rounds
rounds =
    record {
      steps = λ p start pack choice ps. stepped p start pack choice (are_out ps) ps;
      packed_steps = λ p start pack choice s. stepped p start pack choice (not (eqb (length s % 8) 0) || are_out (pauses_in s)) (pauses_in s);
    }
