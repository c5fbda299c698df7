use Rattle.std.specs.Prelude.{Err, Ok}
use native.Mathlib.Omega.{arith}
use mathlib.Core.Bool.{true, false}
use lib.Dec.{ltb}
use lib.ListN.{length}
use borrow.Author.Tests.{ltb-false}
use Rattle.below.proofs.Tests.{or_neither}
use Rattle.block.proofs.Numbers.{AreBytes}
use Rattle.split.proofs.Kept.{accepted_kept, kept_right, kept_few}
use Rattle.split.proofs.Room.{few_blocks}
use Rattle.refusal.specs.Refusals.{refusal_in}
use mathlib.Core.Path.{ap, sym, ◌∙◌}
use Rattle.verdict.proofs.Passing.{accepted_classed, classes_given, classes_refused}
use Rattle.split.specs.Split.{split_of}
use Rattle.split.proofs.split.Goals as goal

pub returns-in_default-clause-value : goal.returns-in_default-clause-value
unfolding split_of
returns-in_default-clause-value c = let v = classes_refused _ c.args.plan.now _ (sym c.verdict_with_classes-answer.ensures ∙ c.in_default.is) in
    rw v (ap Err (c.refusal_in.ensures ∙ ap refusal_in c.in_default.is))

pub returns-then-fixed-need-clause-value : goal.returns-then-fixed-need-clause-value
unfolding split_of
returns-then-fixed-need-clause-value c = let v = classes_given _ c.args.plan.now _ (sym c.verdict_with_classes-answer.ensures ∙ c.in-Ok.is) in
    rw (v.1, c.if-fixed-need.true) (ap Err c.alone.ensures)

pub invariant_of-classed : goal.invariant_of-classed
invariant_of-classed c = let p = c.args.plan.now in
    let v = classes_given _ p _ (sym c.verdict_with_classes-answer.ensures ∙ c.in-Ok.is) in
    record { classed = accepted_classed p _ (kept_few (accepted_kept p v.1)) v.2 }

pub write_parts-requires : goal.write_parts-requires
write_parts-requires c = let s = c.args in
    let v = classes_given _ s.plan.now _ (sym c.verdict_with_classes-answer.ensures ∙ c.in-Ok.is) in
    let kept = accepted_kept s.plan.now v.1 in
    let bytes : AreBytes s.plan.now = λ i. omega (arith, c.shared_slice_known-1.given i) in
    let large = or_neither (ltb (length s.fixed.now) 32768) (ltb (length s.need.now) 32768) c.if-fixed-need.false in (
      kept_right kept,
      (ltb-false _ _ large.0, few_blocks false s.plan.now kept bytes),
      (ltb-false _ _ large.1, few_blocks true s.plan.now kept bytes),
    )

pub returns-clause-value : goal.returns-clause-value
unfolding split_of
returns-clause-value c = let v = classes_given _ c.args.plan.now _ (sym c.verdict_with_classes-answer.ensures ∙ c.in-Ok.is) in
    rw (v.1, c.if-fixed-need.false) (ap Ok c.write_parts.ensures.value)
