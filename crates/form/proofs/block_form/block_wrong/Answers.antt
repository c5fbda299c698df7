use Prim.Native.Nat.{◌≤◌}
use lib.ListN.{length}
use mathlib.Core.Path.{◌≡◌, sym, ◌∙◌}
use native.Mathlib.Omega.{arith}
use Rattle.form.specs.Code.Front.{records_of}
use Rattle.form.proofs.Fronts.{few_records, front_decides, behind_decides, sums_decide}
use borrow.Author.Rules.{rules}
use Rattle.form.proofs.block_form.block_wrong.Goals as goal
use Rattle.form.proofs.block_form.block_wrong.Goals.{Start}

long : (c : Start) → length c.args.r.now ≡ 512
long c = search rules

pub returns-then-front_out : goal.returns-then-front_out
returns-then-front_out c = sym (front_decides c.args.r.now (long (goal.at.returns-then-front_out c).Start) (sym c.front_out.ensures ∙ c.if-front_out.true))

pub not_zero-requires : goal.not_zero-requires
not_zero-requires c =
    let few : records_of c.args.r.now ≤ 20 = few_records c.args.r.now (long (goal.at.not_zero-requires c).Start) (sym c.front_out.ensures ∙ c.if-front_out.false) in
    (omega (arith, few), search rules)

pub returns-then-not_zero : goal.returns-then-not_zero
returns-then-not_zero c = c.if-not_zero.true ∙ sym (behind_decides c.args.r.now (long (goal.at.returns-then-not_zero c).Start) (rw (← c.records_of.ensures, ← c.record_start.ensures.0) (sym c.not_zero.ensures ∙ c.if-not_zero.true)))

pub returns-else-not_zero : goal.returns-else-not_zero
returns-else-not_zero c = rw c.sums_right.ensures
    (sums_decide c.args.r.now (long (goal.at.returns-else-not_zero c).Start) (sym c.front_out.ensures ∙ c.if-front_out.false)
    (rw (← c.records_of.ensures, ← c.record_start.ensures.0) (sym c.not_zero.ensures ∙ c.if-not_zero.false)))
