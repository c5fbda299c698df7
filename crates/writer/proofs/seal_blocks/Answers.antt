use Prim.Native.Nat.{◌-◌}
use mathlib.Core.Path.{◌≡◌, sym, ◌∙◌}
use native.Mathlib.Omega.{arith}
use borrow.Author.Rules.{rules}
use Rattle.writer.proofs.Steps.{seal_turn, seal_end}
use Rattle.writer.proofs.seal_blocks.Goals as goal

pub loop-b-init : goal.loop-b-init
loop-b-init c = let z : c.args.n - 0 ≡ c.args.n = omega arith in (search rules, search rules, rw z)

pub loop-b-preserved : goal.loop-b-preserved
loop-b-preserved c =
    let l = c.loop-b in
    let turn = seal_turn c.args.n l.b (omega arith) l.out _ (omega arith) c.seal.ensures in
    (search rules, turn.0 ∙ l.invariant.1, l.invariant.2 ∙ turn.1)

pub returns : goal.returns
returns c = sym (seal_end c.args.n c.loop-b.b (omega arith) c.loop-b.out) ∙ sym c.loop-b.invariant.2
