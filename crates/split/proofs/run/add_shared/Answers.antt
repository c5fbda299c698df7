use mathlib.Core.Path.{◌≡◌}
use native.Mathlib.Omega.{arith}
use Rattle.below.proofs.Lists.{join_zero, join_more}
use Rattle.plan.specs.Periods.{blocks_of}
use Rattle.split.specs.Parts.{shared_in}
use Rattle.split.proofs.Adding.{adds_none, adds_both}
use borrow.Author.Rules.{rules}
use Rattle.split.proofs.run.add_shared.Goals as goal

pub loop-e-init : goal.loop-e-init
loop-e-init c = (search rules, search rules, search rules, rw join_zero adds_none)

pub loop-e-preserved : goal.loop-e-preserved
loop-e-preserved c = (search rules, search rules, search rules, rw join_more (adds_both c.loop-e.invariant.3 c.add_shared_of-place.ensures))

pub returns : goal.returns
unfolding shared_in
returns c = let e : blocks_of c.args.classed.plan.now ≡ c.loop-e.e = omega arith in rw e c.loop-e.invariant.3
