use Rattle.split.specs.Code.Wanted.{is_need}
use Rattle.split.proofs.Copied.{not_kept, is_kept}
use Rattle.split.proofs.copying.put_kept.Goals as goal

pub returns-then-not-has_mark : goal.returns-then-not-has_mark
returns-then-not-has_mark c = let a = c.args in
    not_kept a.out.now a.block a.m a.r.now a.i (is_need a.part) c.requires.0 c.requires.1
    (rw (c.has_mark.ensures, c.is_record_marked.ensures, c.record_of-source.ensures) at c.if-not-has_mark.true)

pub returns : goal.returns
returns c = let a = c.args in
    is_kept a.out.now a.block a.m a.r.now a.i (is_need a.part) c.requires.0 c.requires.1
    (rw (c.has_mark.ensures, c.is_record_marked.ensures, c.record_of-source.ensures) at c.if-not-has_mark.false) c.record_start.ensures.0 _
    (rw c.record_of-source.ensures at c.copy_dose.ensures)
