use Rattle.std.proofs.Common.{◌≡◌, true, false, arith, rules}
use Rattle.below.proofs.Lists.{sum_pick}
use Rattle.doses.specs.Doses.{position_of, applies, doses_of_period}
use Rattle.plan.specs.Fields.{header_of}
use Rattle.plan.specs.Periods.{block_at, doses_of, dose_in}
use Rattle.need.specs.Need.{chosen}
use Rattle.need.proofs.Wrapped.{sums_begin, sums_hit, sums_miss}
use Rattle.need.proofs.due.with_period.Goals as goal
use Rattle.need.proofs.due.with_period.Goals.{then-is_applied, else-is_applied}

pub loop-j-init : goal.loop-j-init
loop-j-init c = sums_begin _ _ _ (search rules)

pub loop-j-preserved : goal.loop-j-preserved
loop-j-preserved c =
    let l = c.loop-j in
    let a = c.args in
    let x = c.position_of-position.result in
    elim c.if-is_applied.branch [
      | then-is_applied w ↦ let h : applies x (dose_in a.plan.now a.b l.j) ≡ true = cc in sums_hit _ _ _ l.invariant h (cc)
      | else-is_applied w ↦ let h : applies x (dose_in a.plan.now a.b l.j) ≡ false = cc in sums_miss _ _ _ l.invariant h (cc)
    ]

pub returns : goal.returns
unfolding doses_of_period
returns c =
    let l = c.loop-j in
    let a = c.args in
    let p = a.plan.now in
    let x = position_of (header_of (block_at p a.b)) a.day in
    let e : l.j ≡ doses_of p a.b = omega arith in
    let q : c.position_of-position.result ≡ x = cc in
    rw (sum_pick (chosen a.choice) (doses_of p a.b) (λ j. applies x (dose_in p a.b j)) (dose_in p a.b), ← q, ← e) l.invariant.sum
