use Rattle.plan.proofs.DoseRecord.{dose_lost, dose_copied}
use Rattle.block.proofs.Numbers.{AreBytes}
use native.Mathlib.Omega.{arith}
use borrow.Author.Rules.{rules}
use Rattle.plan.proofs.records.copy_dose.Goals as goal

pub returns-then-record-lt-RECORD : goal.returns-then-record-lt-RECORD
returns-then-record-lt-RECORD c = dose_lost _ _ (search rules)

pub returns-then-source-lt-RECORD : goal.returns-then-source-lt-RECORD
returns-then-source-lt-RECORD c = rw (← c.dose_of.ensures) c.write_dose.ensures

pub returns : goal.returns
returns c = let bytes : AreBytes c.args.source.now = λ i. omega (arith, c.shared_slice_known-1.given i) in
    cc (dose_copied c.args.«record».now c.args.source.now (search rules) bytes, c.word_at-day_kind_mark.ensures, c.half_at-minute.ensures, c.long_at-low.ensures, c.long_at-high.ensures, c.put_word.ensures, c.put_word-2.ensures, c.put_long.ensures, c.put_long-2.ensures)
