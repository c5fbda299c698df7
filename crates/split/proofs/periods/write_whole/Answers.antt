use mathlib.Core.Path.{◌∙◌}
use native.Mathlib.Omega.{arith}
use Rattle.block.proofs.Numbers.{AreBytes}
use Rattle.split.specs.Code.Wanted.{is_need}
use Rattle.split.proofs.Alone.{alone_put}
use Rattle.split.proofs.periods.write_whole.Goals as goal

pub returns : goal.returns
returns c = let a = c.args in
    let p = a.plan.now in
    let bytes : AreBytes p = λ i. omega (arith, c.shared_slice_known-1.given i) in
    let same = alone_put (is_need a.part) p c.requires.0 bytes c.requires.1 a.out.now (omega (arith, c.requires.2, c.requires.3)) in
    (c.put_bytes.ensures ∙ same.0, same.1)
