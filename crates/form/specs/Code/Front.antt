-- Rules 2 to 4 as the code asks them of one block: its fields and dose records, then the zeros and sums behind them. No rule is
-- stated here: proofs/Fronts.antt shows that these are the rules of Form.antt.
use Rattle.std.specs.Prelude.{ℕ, Bool, cond, not, ◌||◌, List, eqb, ltb}
use Rattle.below.specs.Below.{any_below}
use Rattle.block.specs.Bytes.{word_at, long_at}
use Rattle.plan.specs.declared.Dose.{Dose}
use Rattle.plan.specs.Fields.{kind_of, count_of, record_at}
use Rattle.plan.specs.Periods.{block_at}
use Rattle.form.specs.Form.{sums_wrong, misplaced, days_out, not_zero, record_out, block_out}

-- a dose record's time kind, need mark and minute, and the bytes that no field has
abbrev pub time_out : Dose → ℕ → Bool
time_out d spare = ltb 5 d.kind || ltb 1 d.mark || ltb (cond (eqb d.kind 5) 1439 0) d.minute || not (eqb spare 0)

-- too many dose records, or one that is out
unfoldable pub records_out : List ℕ → Bool
records_out r = ltb 20 (count_of r) || any_below (count_of r) (λ i. record_out (record_at r i))

-- a head's fields, of which bytes 20 to 23 make one number
abbrev pub head_front : List ℕ → Bool
head_front r = days_out r || ltb 1 (word_at r 20)

-- a period's fields and records; bytes 12 to 23 make two numbers
abbrev pub period_front : List ℕ → Bool
period_front r = days_out r || not (eqb (word_at r 12) 0) || not (eqb (long_at r 16) 0) || records_out r

-- a continuation's fields and records
abbrev pub continuation_front : List ℕ → Bool
continuation_front r = eqb (count_of r) 0 || not_zero r 2 24 || records_out r

-- by the block's kind
unfoldable pub front_out : List ℕ → Bool
front_out r = cond (eqb (kind_of r) 1) (head_front r) (cond (eqb (kind_of r) 2) (period_front r) (continuation_front r))

-- how many records a block has: a head has none
unfoldable pub records_of : List ℕ → ℕ
records_of r = cond (eqb (kind_of r) 1) 0 (count_of r)

-- block b breaks one of rules 2 to 4
abbrev pub broken_at : List ℕ → ℕ → Bool
broken_at p b = misplaced p b || block_out (block_at p b) || sums_wrong p b
