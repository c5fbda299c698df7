use Rattle.std.proofs.Common.{◌≡◌, ℕ, min, true, false, cond, [], arith, refl}
use Rattle.plan.specs.Periods.{blocks_of}
use Rattle.doses.specs.Doses.{covers, doses_of_period, doses_on}
use Rattle.below.proofs.Lists.{join_zero}
use Rattle.doses.proofs.Sums.{join_hit, join_miss}
use Rattle.doses.proofs.fold_doses.Goals as goal
use Rattle.doses.proofs.fold_doses.Goals.{then-is_covering, else-is_covering}

pub loop-b-init : goal.loop-b-init
loop-b-init g c = rw join_zero refl

pub loop-b-preserved : goal.loop-b-preserved
loop-b-preserved g c =
    let l = c.loop-b in
    let p = c.args.plan.now in
    let day = c.args.day in
    let parts = λ (k : ℕ). cond (covers p day k) (doses_of_period p day k) [] in
    elim c.if-is_covering.branch [
      | then-is_covering w ↦
          let h : covers p day l.b ≡ true = cc in
          rw w.state-is (join_hit _ c.args.start l.state l.b parts l.invariant w.fold_period-state.result (doses_of_period p day l.b) (rw h) w.fold_period-state.ensures)
      | else-is_covering w ↦
          let h : covers p day l.b ≡ false = cc in
          rw w.state-is (join_miss _ c.args.start l.state l.b parts l.invariant (rw h))
    ]

pub returns : goal.returns
unfolding doses_on
returns g c =
    let e : c.loop-b.b ≡ min (blocks_of c.args.plan.now) 64 = omega arith in
    rw (← e) c.loop-b.invariant
