use Prim.Native.Nat.{◌≤◌}
use mathlib.Core.Path.{◌≡◌, sym, ◌∙◌}
use native.Mathlib.Omega.{arith}
use borrow.Author.Rules.{rules}
use Rattle.below.proofs.Total.{sum_zero, sum_more, sum_le}
use Rattle.need.specs.Need.{chosen}
use Rattle.plan.specs.Periods.{doses_of, dose_in}
use Rattle.supply.specs.Code.Standing.{round_need}
use Rattle.supply.proofs.rounds.round_need.Goals as goal

pub loop-j-init : goal.loop-j-init
loop-j-init c = (search rules, sym (sum_zero _))

pub overflow_add-need : goal.overflow_add-need
overflow_add-need c =
    let l = c.loop-j in
    let d = c.dose_in.ensures in
    let x = c.amount-need.ensures in
    let m : c.amount-need.result ≤ 9999999999 = rw (x, d) (c.requires.small.each l.j (omega (arith, c.requires.n_value))) in
    record { fits = omega (arith, l.invariant.1, c.requires.small.few, c.requires.n_value, sum_le (λ i. chosen c.args.choice (dose_in c.args.plan.now c.args.b i)) 9999999999 l.j (λ k h. c.requires.small.each k (omega (arith, c.requires.n_value)))) }

pub loop-j-preserved : goal.loop-j-preserved
loop-j-preserved c =
    let l = c.loop-j in
    (search rules, (cc) ∙ sym (sum_more (λ i. chosen c.args.choice (dose_in c.args.plan.now c.args.b i)) l.j))

pub returns : goal.returns
unfolding round_need
returns c =
    let l = c.loop-j in
    let e : l.j ≡ doses_of c.args.plan.now c.args.b = omega (arith, c.requires.n_value) in
    l.invariant.1 ∙ rw e
