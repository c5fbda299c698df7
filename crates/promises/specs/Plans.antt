-- Real plans, in the words of document 01's cases: their bytes are those that `layout` lays out, with right counts and sums.
use Rattle.std.specs.Prelude.{ℕ, List, [], ◌∷◌}
use Rattle.day.specs.Days.{open_mark}
use Rattle.plan.specs.declared.Dose.{Dose}
use Rattle.plan.specs.declared.Head.{Head}
use Rattle.layout.specs.Layout.{Written, laid_out}

-- plan number 1, in an open treatment from day 0 on
unfoldable pub head : ℕ → Head
head revision = record { unit = 7; start = 0; end = open_mark; number = 1; revision = revision; vka = 0 }

-- "daily": a dose of each day, unmarked in the morning, or marked at noon
unfoldable pub unmarked : ℕ → Dose
unmarked amount = record { day = 1; kind = 1; mark = 0; minute = 0; low = amount; high = 0 }

unfoldable pub marked : ℕ → Dose
marked amount = record { day = 1; kind = 2; mark = 1; minute = 0; low = amount; high = 0 }

-- "from .. to", unmarked in the morning
unfoldable pub ranging : ℕ → ℕ → Dose
ranging low high = record { day = 1; kind = 1; mark = 0; minute = 0; low = low; high = high }

-- in rounds of n days
abbrev pub iterated : ℕ → ℕ → ℕ → List Dose → Written
iterated n first last ds = record { header = record { interval = n; first = first; end = last }; doses = ds }

unfoldable pub daily : ℕ → ℕ → List Dose → Written
daily first last ds = iterated 1 first last ds

-- "fixed 6547-6550", "need 6551-6554", "mixed 6548-6551", "empty 6551-6556"
unfoldable pub fixed : ℕ → ℕ → Written
fixed first last = daily first last (unmarked 100 ∷ [])

unfoldable pub need : ℕ → ℕ → Written
need first last = daily first last (marked 100 ∷ [])

unfoldable pub mixed : ℕ → ℕ → Written
mixed first last = daily first last (unmarked 100 ∷ marked 100 ∷ [])

unfoldable pub empty : ℕ → ℕ → Written
empty first last = record { header = record { interval = 0; first = first; end = last }; doses = [] }

-- the bytes of a plan with these periods, in revision n
unfoldable pub revision : ℕ → List Written → List ℕ
revision n ws = laid_out (head n) ws

abbrev pub plan : List Written → List ℕ
plan ws = revision 1 ws
