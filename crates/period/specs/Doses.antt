-- Rules 7 to 14 over a period's doses D 0, D 1, .., and `limit`, the largest day number that the period has room for (0: no limit).
-- A rule from 7 to 13 is broken by a dose j together with those ahead of it.
use Rattle.std.specs.Prelude.{ℕ, ◌-◌, ◌*◌, max, Bool, false, cond, not, ◌&&◌, ◌||◌, eqb, leb, ltb}
use Rattle.std.specs.Bool.{beq}
use Rattle.below.specs.Below.{any_below, count_below, sum_below, largest_below}
use Rattle.plan.specs.declared.Dose.{Dose}
use Rattle.plan.specs.Fields.{is_marked, upper_of}

-- "day numbers fall"
abbrev pub falls : (ℕ → Dose) → ℕ → Bool
falls D j = ltb 0 j && ltb (D j).day (D (j - 1)).day

-- "or one passes the interval, or, not iterated and not open, the period's length"
abbrev pub passes : ℕ → Dose → Bool
passes limit d = ltb 0 limit && ltb limit d.day

-- "day number 0 on an unmarked dose"
abbrev pub any_day_unmarked : Dose → Bool
any_day_unmarked d = eqb d.day 0 && not (is_marked d)

-- "or beside another day number in the period": one of two doses has day number 0, and the other has not
abbrev pub beside_any_day : Dose → Dose → Bool
beside_any_day d e = not (beq (eqb d.day 0) (eqb e.day 0))

abbrev pub same_day : Dose → Dose → Bool
same_day d e = eqb d.day e.day

-- kinds 1 to 4: morning, noon, evening, night
abbrev pub is_timed : Dose → Bool
is_timed d = leb 1 d.kind && leb d.kind 4

abbrev pub is_untimed : Dose → Bool
is_untimed d = eqb d.kind 0

-- "in one day, kind 1, 2, 3 or 4 twice, or one clock minute twice, need marks disregarded"
abbrev pub twice : Dose → Dose → Bool
twice d e =
    same_day d e && eqb d.kind e.kind && (is_timed d || (eqb d.kind 5 && eqb d.minute e.minute))

-- "in one day, two kind 0 doses with the same need mark but other amounts"
abbrev pub other_amounts : Dose → Dose → Bool
other_amounts d e =
    same_day d e
    && is_untimed d
    && is_untimed e
    && beq (is_marked d) (is_marked e)
    && not (eqb d.low e.low && eqb d.high e.high)

-- "a period has kind 0 and one of kinds 1 to 4"
abbrev pub both_kinds : Dose → Dose → Bool
both_kinds d e = (is_untimed d && is_timed e) || (is_timed d && is_untimed e)

-- "high isn't 0 and not high > low > 0"
abbrev pub bad_range : Dose → Bool
bad_range d = not (eqb d.high 0) && not (ltb d.low d.high && ltb 0 d.low)

-- dose j, with those ahead of it, breaks rule k
unfoldable pub dose_breaks : ℕ → ℕ → (ℕ → Dose) → ℕ → Bool
dose_breaks limit k D j =
    cond (eqb k 7) (falls D j || passes limit (D j))
    (cond (eqb k 8) (any_day_unmarked (D j) || any_below j (λ i. beside_any_day (D i) (D j)))
    -- "more than 99 doses with one day number": 99 of them are ahead of dose j
    (cond (eqb k 9) (leb 99 (count_below j (λ i. same_day (D i) (D j))))
    (cond (eqb k 10) (any_below j (λ i. twice (D i) (D j)))
    (cond (eqb k 11) (any_below j (λ i. other_amounts (D i) (D j)))
    (cond (eqb k 12) (any_below j (λ i. both_kinds (D i) (D j)))
    (cond (eqb k 13) (bad_range (D j))
    false))))))

-- "the sum of the period's unmarked upper amounts"
abbrev pub unmarked_upper : Dose → ℕ
unmarked_upper d = cond (is_marked d) 0 (upper_of d)

-- "the largest day number of its unmarked doses"
abbrev pub unmarked_day : Dose → ℕ
unmarked_day d = cond (is_marked d) 0 d.day

-- "N is the interval, or the length, or, not iterated and open, the largest day number of its unmarked doses, at least 1"
abbrev pub round_of : ℕ → ℕ → (ℕ → Dose) → ℕ
round_of limit n D = cond (eqb limit 0) (max 1 (largest_below n (λ j. unmarked_day (D j)))) limit

-- "the sum .. is 100,000,000,000 × N or more"
unfoldable pub too_much : ℕ → ℕ → (ℕ → Dose) → Bool
too_much limit n D = leb (100000000000 * round_of limit n D) (sum_below n (λ j. unmarked_upper (D j)))
