-- The quick pass over a period's doses D 0, D 1, .., as the code makes it. No rule is stated here: proofs/QuickPass.antt shows that
-- what it lets through breaks none.
use Rattle.std.specs.Prelude.{ℕ, ◌+◌, ◌*◌, ◌/◌, ◌≤◌, ◌<◌, max, min, Bool, false, cond, not, ◌&&◌, ◌||◌, ◌≡◌, eqb, leb, ltb}
use Rattle.plan.specs.declared.Dose.{Dose}
use Rattle.below.specs.Below.{count_below, sum_below}
use Rattle.plan.specs.Fields.{is_marked}
use Rattle.period.specs.declared.quick.Quick.{Quick}
use Rattle.period.specs.Doses.{is_untimed, bad_range, unmarked_upper}

-- a dose's time as a number: the kind, then the minute of a clock dose, or the need mark where there is no time
abbrev pub quick_key : Dose → ℕ
quick_key d = d.kind * 65536 + cond (eqb d.kind 5) d.minute (cond (is_untimed d && is_marked d) 1 0)

-- its place by day number, and then by time; the key is a number of 32 bits
unfoldable pub quick_rank : Dose → ℕ
quick_rank d = d.day * 4294967296 + min (quick_key d) 4294967295

-- the state before the first dose
abbrev pub quick_begun : Quick
quick_begun =
    record {
      rank = 0;
      untimed = 0;
      marked = 0;
      total = 0;
    }

-- the state with the dose d, of this rank and this upper amount
unfoldable pub quick_turned : Quick → Dose → ℕ → ℕ → Quick
quick_turned s d rank upper =
    record {
      rank = rank;
      untimed = s.untimed + cond (is_untimed d) 1 0;
      marked = s.marked + cond (is_marked d) 1 0;
      total = s.total + cond (is_marked d) 0 upper;
    }

-- no number of the state can grow too large
pub record QuickRoom (j : ℕ) (s : Quick) : Type 0 where
  pub untimed : s.untimed ≤ j
  pub marked : s.marked ≤ j
  pub total : s.total ≤ j * 9999999999

-- the pass has come to dose j, and none ahead of it was out of turn: ranks rise, and no range is wrong
pub record Quickly (D : ℕ → Dose) (j : ℕ) (s : Quick) : Type 0 where
  pub untimed : s.untimed ≡ count_below j (λ i. is_untimed (D i))
  pub marked : s.marked ≡ count_below j (λ i. is_marked (D i))
  pub tops : (i : ℕ) → i < j → quick_rank (D i) ≤ s.rank
  pub rise : (i k : ℕ) → i < k → k < j → quick_rank (D i) < quick_rank (D k)
  pub range : (i : ℕ) → i < j → bad_range (D i) ≡ false
  pub sum : s.total ≡ sum_below j (λ i. unmarked_upper (D i))
  pub room : QuickRoom j s

-- the last day number, which is the largest, passes the limit
abbrev pub may_pass : Quick → ℕ → Bool
may_pass s limit = ltb 0 limit && ltb limit (s.rank / 4294967296)

-- the first day number, which is the smallest, is 0, and a dose is unmarked or the last day number is not 0
abbrev pub may_any_day : (ℕ → Dose) → Quick → ℕ → Bool
may_any_day D s n = ltb 0 n && eqb (D 0).day 0 && (ltb s.marked n || not (ltb s.rank 4294967296))

-- some of n doses are of kind 0, and some are not
abbrev pub may_both : Quick → ℕ → Bool
may_both s n = ltb 0 s.untimed && ltb s.untimed n

-- the sum reaches 100,000,000,000 times the limit, or that itself where there is none
abbrev pub may_too_much : Quick → ℕ → Bool
may_too_much s limit = leb (100000000000 * max 1 limit) s.total

-- no block's first dose has the day number of the first dose four blocks behind
abbrev pub Apart : (ℕ → Dose) → ℕ → Type 0
Apart D n = 99 < n → (q : ℕ) → q * 20 + 80 < n → (D (q * 20)).day ≡ (D (q * 20 + 80)).day → ⊥
