use native.Mathlib.Omega.{arith}
use Rattle.split.specs.Code.Wanted.{is_need}
use Rattle.split.specs.Code.Adding.{kept_in}
use Rattle.split.proofs.Records.{kept_added, none_added}
use Rattle.split.proofs.copying.add_together.Goals as goal

pub returns-then-m-at : goal.returns-then-m-at
returns-then-m-at c = let a = c.args in
    let k = c.put_all_kept-m.ensures in
    none_added a.at.blocks c.requires.1 (kept_in (is_need a.part) a.r.now a.from a.n) a.at.doses a.out.now _ _ c.requires.2 (omega (arith, c.requires.4)) k.1 c.if-m-at.true k.0

pub returns : goal.returns
returns c = let a = c.args in
    let k = c.put_all_kept-m.ensures in
    rw c.put_bytes.ensures
    (kept_added a.at.blocks c.requires.1 (kept_in (is_need a.part) a.r.now a.from a.n) a.at.doses a.out.now _ _ c.requires.2 (omega (arith, c.requires.4, k.1, k.2)) k.1 c.if-m-at.false k.0)
