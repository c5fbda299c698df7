use Rattle.std.proofs.Common.{◌≡◌, min, true, false, cond, [], arith, rules}
use Rattle.below.proofs.Lists.{sum_join}
use Rattle.doses.specs.Doses.{covers, doses_of_period, doses_on}
use Rattle.plan.specs.Periods.{blocks_of}
use Rattle.need.specs.Need.{chosen}
use Rattle.need.proofs.Chosen.{due_chosen}
use Rattle.need.proofs.Wrapped.{sums_begin, sums_hit, sums_miss, sums_picked}
use Rattle.need.proofs.due.due_on.Goals as goal
use Rattle.need.proofs.due.due_on.Goals.{then-is_covering, else-is_covering}

pub loop-b-init : goal.loop-b-init
loop-b-init c = sums_begin _ _ _ (search rules)

pub loop-b-preserved : goal.loop-b-preserved
loop-b-preserved c =
    let l = c.loop-b in
    let a = c.args in
    elim c.if-is_covering.branch [
      | then-is_covering w ↦ let h : covers a.plan.now a.day l.b ≡ true = cc in sums_hit _ _ _ l.invariant h (cc)
      | else-is_covering w ↦ let h : covers a.plan.now a.day l.b ≡ false = cc in sums_miss _ _ _ l.invariant h (cc)
    ]

pub returns : goal.returns
unfolding doses_on
returns c =
    let l = c.loop-b in
    let a = c.args in
    let e : l.b ≡ min (blocks_of a.plan.now) 64 = omega arith in
    rw (due_chosen a.choice a.plan.now a.day, sum_join (chosen a.choice) (min (blocks_of a.plan.now) 64) (λ b. cond (covers a.plan.now a.day b) (doses_of_period a.plan.now a.day b) []), ← e)
    (sums_picked (chosen a.choice) (covers a.plan.now a.day) (doses_of_period a.plan.now a.day) l.invariant)
