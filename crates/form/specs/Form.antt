-- Rules 1 to 4: the form of the bytes. Each definition says when the rule is broken.
use Rattle.std.specs.Prelude.{ℕ, ◌+◌, ◌-◌, ◌*◌, ◌%◌, Bool, cond, not, ◌&&◌, ◌||◌, List, eqb, ltb, length, take, drop, Err, Ok}
use Rattle.below.specs.Below.{any_below}
use Rattle.day.specs.Days.{is_no_span}
use Rattle.block.specs.Bytes.{is_zero}
use Rattle.block.specs.Sums.{sums_right}
use Rattle.refusal.specs.Refusals.{rule_at}
use Rattle.refusal.specs.Order.{lowest_rule, lowest_block}
use Rattle.plan.specs.declared.Dose.{Dose}
use Rattle.plan.specs.Fields.{kind_of, count_of, first_of, end_of, vka_of, record_at, dose_of}
use Rattle.plan.specs.Periods.{blocks_of, block_at, is_period, is_continuation}
use Rattle.form.specs.Answers.{Form}

-- Rule 1: "length is 0, no multiple of 512, or above 16,384"; a part of a split plan has another limit
abbrev pub bad_length : ℕ → List ℕ → Bool
bad_length limit p = eqb (length p) 0 || not (eqb (length p % 512) 0) || ltb limit (length p)

-- Rule 2: "a block's sums are wrong"
abbrev pub sums_wrong : List ℕ → ℕ → Bool
sums_wrong p b = not (sums_right (block_at p b))

-- Rule 3: "block 0 is no head, its count is wrong (place 0)"
abbrev pub no_head : List ℕ → Bool
no_head p = not (eqb (kind_of (block_at p 0)) 1) || not (eqb (count_of (block_at p 0) + 1) (blocks_of p))

-- "It follows a period or continuation block that holds exactly 20."
abbrev pub goes_on : List ℕ → ℕ → Bool
goes_on p b = (is_period p b || is_continuation p b) && eqb (count_of (block_at p b)) 20

-- ".., or a later block is neither a period nor a rightly placed continuation"
unfoldable pub misplaced : List ℕ → ℕ → Bool
misplaced p b = cond (eqb b 0) (no_head p) (not (is_period p b || (is_continuation p b && goes_on p (b - 1))))

-- Rule 4: "a day is above 73,048 and not an allowed open mark, or a first day or treatment start lies after its end"
abbrev pub days_out : List ℕ → Bool
days_out r = is_no_span (first_of r) (end_of r)

-- "a zero byte isn't zero": one of the bytes from a up to e, e itself not
abbrev pub not_zero : List ℕ → ℕ → ℕ → Bool
not_zero r a e = not (is_zero (take (e - a) (drop a r)))

-- "Time kinds: 0 none, .., 5 clock. The minute is 0 to 1,439 for kind 5, else 0. Amounts are .. at most 9,999,999,999."
abbrev pub field_out : Dose → Bool
field_out d =
    ltb 5 d.kind
    || ltb 1 d.mark
    || ltb (cond (eqb d.kind 5) 1439 0) d.minute
    || ltb 9999999999 d.low
    || ltb 9999999999 d.high

-- a dose record's fields, and its bytes 6 and 7, which no field has
unfoldable pub record_out : List ℕ → Bool
record_out d = field_out (dose_of d) || not_zero d 6 8

-- "byte 1 = doses here, 0 to 20; .. from 24, doses of 24 bytes each", and zero behind them up to the sums
unfoldable pub doses_out : List ℕ → Bool
doses_out r =
    ltb 20 (count_of r)
    || any_below (count_of r) (λ i. record_out (record_at r i))
    || not_zero r (24 + count_of r * 24) 504

-- "Head: .. 4-7 treatment start; 8-11 treatment end or open; .. 20 = 1 for a VKA plan, else 0."
unfoldable pub head_out : List ℕ → Bool
head_out r = days_out r || ltb 1 (vka_of r) || not_zero r 21 504

-- "Period: .. 4-7 first day; 8-11 last day or open; from 24, doses"
unfoldable pub period_out : List ℕ → Bool
period_out r = days_out r || not_zero r 12 24 || doses_out r

-- "Continuation: .. byte 1 = doses here, 1 to 20; doses from 24."
unfoldable pub continuation_out : List ℕ → Bool
continuation_out r = eqb (count_of r) 0 || not_zero r 2 24 || doses_out r

-- "a field is out of range, a zero byte isn't zero, ..", by the block's kind
unfoldable pub block_out : List ℕ → Bool
block_out r = cond (eqb (kind_of r) 1) (head_out r) (cond (eqb (kind_of r) 2) (period_out r) (continuation_out r))

-- block b breaks rule k, from 2 to 4
unfoldable pub form_breaks : List ℕ → ℕ → ℕ → Bool
form_breaks p k b =
    cond (eqb k 2) (sums_wrong p b)
    (cond (eqb k 3) (misplaced p b)
    (eqb k 4 && block_out (block_at p b)))

-- the lowest broken of rules 2 to 4, or 5
abbrev pub form_rule : List ℕ → ℕ
form_rule p = lowest_rule 5 (blocks_of p) (form_breaks p)

-- the first broken of rules 1 to 4, with its place, or none
unfoldable pub form_of : ℕ → List ℕ → Form
form_of limit p =
    cond (bad_length limit p) (Err (rule_at 1 0))
    (cond (ltb (form_rule p) 5) (Err (rule_at (form_rule p) (lowest_block (blocks_of p) (form_breaks p) (form_rule p)))) (Ok tt))
