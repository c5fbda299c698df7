-- The P cases of document 01, all of them. Assumes nothing.
use Prim.Native.Nat.{ℕ, ◌≤◌}
use mathlib.Core.Bool.{true}
use mathlib.Core.List.{[], ◌∷◌}
use mathlib.Core.Path.{◌≡◌, refl, sym, ap, ◌∙◌}
use native.Mathlib.Omega.{arith}
use lib.ListN.{length, length-replicate}
use Rattle.refusal.specs.Refusals.{refusal_in}
use Rattle.below.specs.Below.{sum_below}
use Rattle.below.specs.Lists.{join_over, Every.none, Every.more}
use Rattle.block.proofs.Numbers.{AreBytes}
use Rattle.block.specs.Bytes.{number_at, bytes_of, put}
use Rattle.block.specs.Sums.{grown, summed as summing, sums_of, sealed}
use Rattle.day.specs.Calendar.{is_leap, months, before, year_start, is_date, number_of}
use Rattle.layout.proofs.Blocks.{byte_zeros}
use Rattle.layout.specs.Layout.{filled, head_bytes, laid_out}
use Rattle.plan.specs.Fields.{plan_number_of, revision_of}
use Rattle.register.proofs.LawRevision as law
use Rattle.register.specs.Sound.{is_accepted}
use Rattle.register.specs.Steps.{Call.clear, Call.submit, Call.sign, Call.release}
use Rattle.verdict.specs.Verdict.{verdict_of}
use Rattle.promises.specs.Cases.{Holds, Case.dated, Case.summed, Case.called, two_words, one_slot, output, signed_plan, A, B, Paper}
use Rattle.promises.specs.Plans.{head, unmarked, daily, fixed, revision}
use Rattle.promises.proofs.Supplies.{P10, P11, P12, P13}
use Rattle.promises.proofs.Verdicts.{P6, P7, P8, P9, four_accepted, five_accepted, four_bytes, five_bytes}

pub record Computed : Type 0 where
  pub p1 : Holds (dated 2000 3 1 60)
  pub p2 : Holds (dated 2100 2 28 36583)
  pub p2_next : Holds (dated 2100 3 1 36584)
  pub p3 : Holds (dated 2017 12 4 6547)
  pub p4 : Holds (summed 1 0 1 126)
  pub p5 : Holds (summed 4294967295 1 0 4294967295)

pub computed : Computed
unfolding is_date number_of year_start before months is_leap sum_below two_words sums_of summing grown number_at bytes_of put
computed =
    record {
      p1 = (refl, (refl, refl));
      p2 = (refl, (refl, refl));
      p2_next = (refl, (refl, refl));
      p3 = (refl, (refl, refl));
      p4 = refl;
      p5 = refl;
    }

-- the two revisions of one plan
pub record Numbered : Type 0 where
  pub four : plan_number_of (signed_plan 4) ≡ 1
  pub five : plan_number_of (signed_plan 5) ≡ 1
  pub was : revision_of (signed_plan 4) ≡ 4
  pub is : revision_of (signed_plan 5) ≡ 5

pub numbered : Numbered
unfolding signed_plan head unmarked daily fixed revision filled head_bytes laid_out number_at bytes_of put sealed join_over
numbered = record { four = refl; five = refl; was = refl; is = refl }

-- both are accepted
pub four_ok : is_accepted (verdict_of (signed_plan 4)) ≡ true
four_ok = rw four_accepted refl

pub five_ok : is_accepted (verdict_of (signed_plan 5)) ≡ true
five_ok = rw five_accepted refl

pub slot_bytes_lem : AreBytes one_slot
unfolding one_slot
slot_bytes_lem i = rw (byte_zeros 16896 i) (omega arith)

pub slot_long : 16896 ≤ length one_slot
unfolding one_slot
slot_long = rw (length-replicate {A = ℕ} 16896 0) (omega arith)

pub output_long : 16384 ≤ length output
unfolding output
output_long = rw (length-replicate {A = ℕ} 16384 0) (omega arith)

P14 : Holds (called
    (clear ∷ submit (signed_plan 4) ∷ sign A (signed_plan 4) ∷ submit (signed_plan 5) ∷ sign B (signed_plan 5) ∷ release 1 output ∷ [])
    (0 ∷ 0 ∷ 0 ∷ 0 ∷ 0 ∷ 38 ∷ []))
P14 =
    rw numbered.four at
    (law.P14 (signed_plan 4) (signed_plan 5) four_bytes five_bytes four_ok five_ok
    (numbered.five ∙ sym numbered.four) (omega (arith, numbered.was, numbered.is)) A B
    (λ e. omega arith) (omega arith) (λ e. omega arith) (omega arith) one_slot slot_bytes_lem slot_long output output_long)

pub paper : Paper
paper =
    more computed.p1
    (more computed.p2
    (more computed.p2_next
    (more computed.p3
    (more computed.p4
    (more computed.p5
    (more (ap refusal_in P6)
    (more (ap refusal_in P7)
    (more (ap refusal_in P8)
    (more (ap refusal_in P9)
    (more P10
    (more P11
    (more P12
    (more P13
    (more P14
    none))))))))))))))
