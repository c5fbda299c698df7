use native.Mathlib.Omega.{arith}
use borrow.Author.Rules.{rules}
use Rattle.pause.specs.Pauses.{pauses_in}
use Rattle.pause.proofs.Lists.{length_pauses}
use Rattle.pause.proofs.Filled.{filled_none, filled_more, filled_all}
use Rattle.pause.proofs.packed.records.Goals as goal

pub loop-i-init : goal.loop-i-init
loop-i-init c = (search rules, filled_none _)

pub loop-i-preserved : goal.loop-i-preserved
loop-i-preserved c = (omega arith, filled_more _ (omega arith) c.packed_at.ensures c.loop-i.invariant.1)

pub returns : goal.returns
returns c =
    let s = c.args.s.now in
    filled_all (pauses_in s) (omega (arith, length_pauses s)) c.loop-i.invariant.1
