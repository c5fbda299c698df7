use Rattle.std.proofs.Common.{◌≡◌, ℕ, true, false, arith, refl}
use Rattle.plan.specs.Fields.{header_of}
use Rattle.plan.specs.Periods.{block_at, doses_of, dose_in}
use Rattle.doses.specs.Doses.{position_of, applies, doses_of_period}
use Rattle.below.proofs.Lists.{pick_zero}
use Rattle.doses.proofs.Sums.{turn_hit, turn_miss}
use Rattle.doses.proofs.fold_period.Goals as goal
use Rattle.doses.proofs.fold_period.Goals.{then-is_applied, else-is_applied}

pub loop-j-init : goal.loop-j-init
loop-j-init g c = rw pick_zero refl

pub loop-j-preserved : goal.loop-j-preserved
loop-j-preserved g c =
    let l = c.loop-j in
    let p = c.args.plan.now in
    let b = c.args.b in
    let x = c.position_of-position.result in
    let test = λ (k : ℕ). applies x (dose_in p b k) in
    elim c.if-is_applied.branch [
      | then-is_applied w ↦
          let h : applies x (dose_in p b l.j) ≡ true = cc in
          rw w.state-is (turn_hit _ c.args.start l.state l.j test (dose_in p b) l.invariant w.f-state.result h (rw (← c.dose_in-d.ensures) w.f-state.ensures))
      | else-is_applied w ↦
          let h : applies x (dose_in p b l.j) ≡ false = cc in
          rw w.state-is (turn_miss _ c.args.start l.state l.j test (dose_in p b) l.invariant h)
    ]

pub returns : goal.returns
unfolding doses_of_period
returns g c =
    let p = c.args.plan.now in
    let b = c.args.b in
    let e : c.loop-j.j ≡ doses_of p b = omega arith in
    let q : c.position_of-position.result ≡ position_of (header_of (block_at p b)) c.args.day = cc in
    rw (← q, ← e) c.loop-j.invariant
