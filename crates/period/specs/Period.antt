-- Rules 5 to 14 of the period that begins at block b of the plan p.
use Rattle.std.specs.Prelude.{ℕ, ◌+◌, ◌-◌, Bool, cond, not, ◌&&◌, ◌||◌, List, eqb, ltb}
use Rattle.below.specs.Below.{any_below, first_below}
use Rattle.day.specs.Days.{open_mark}
use Rattle.plan.specs.Fields.{interval_of, first_of, end_of, last_of}
use Rattle.plan.specs.Periods.{block_at, is_period, doses_of, dose_in}
use Rattle.period.specs.Doses.{dose_breaks, too_much}

abbrev pub is_open : List ℕ → Bool
is_open r = eqb (end_of r) open_mark

-- "a period starts before the treatment or ends after it, or is open where the treatment has an end"
abbrev pub outside : List ℕ → ℕ → Bool
outside p b =
    let head = block_at p 0 in
    let r = block_at p b in
    ltb (first_of r) (first_of head) || ltb (last_of head) (last_of r) || (is_open r && not (is_open head))

-- how many blocks ahead of block b - 1 the nearest period ahead of block b begins; b where there is none
unfoldable pub ahead_of : List ℕ → ℕ → ℕ
ahead_of p b = first_below b (λ i. is_period p (b - 1 - i))

-- "a period's first day is before that of the period ahead of it"
abbrev pub early : List ℕ → ℕ → Bool
early p b = ltb (ahead_of p b) b && ltb (first_of (block_at p b)) (first_of (block_at p (b - 1 - ahead_of p b)))

-- the period's length in days
abbrev pub length_of : List ℕ → ℕ
length_of r = last_of r - first_of r + 1

-- "the interval, or, not iterated and not open, the period's length"; 0 where neither limits
unfoldable pub limit_of : List ℕ → ℕ
limit_of r = cond (eqb (interval_of r) 0) (cond (is_open r) 0 (length_of r)) (interval_of r)

-- the period at block b breaks rule k, from 5 to 14
unfoldable pub period_breaks : ℕ → List ℕ → ℕ → Bool
period_breaks k p b =
    let limit = limit_of (block_at p b) in
    cond (eqb k 5) (outside p b)
    (cond (eqb k 6) (early p b)
    (cond (eqb k 14) (too_much limit (doses_of p b) (dose_in p b))
    (any_below (doses_of p b) (dose_breaks limit k (dose_in p b)))))

-- the lowest of rules 5 to 14 that it breaks, or 15
unfoldable pub rule_of : List ℕ → ℕ → ℕ
rule_of p b = 5 + first_below 10 (λ i. period_breaks (5 + i) p b)
