-- Rule 10 where the doses D 0, D 1, .. of a day do not stand in the order of their times: a tag of the day of the last dose at
-- each time is kept, and where a dose finds its own day's there it is held against those of its day. No rule is stated here.
use Rattle.std.specs.Prelude.{ℕ, ◌+◌, ◌-◌, ◌≤◌, ◌<◌, min, Bool, cond, List, ◌≡◌, eqb, ltb, length, get_or}
use Rattle.below.specs.Below.{any_below}
use Rattle.plan.specs.declared.Dose.{Dose}
use Rattle.period.specs.Doses.{twice}

-- dose j has a time that one ahead of it has
abbrev pub twice_at : (ℕ → Dose) → ℕ → Bool
twice_at D j = any_below j (λ i. twice (D i) (D j))

-- some dose of the first n has
unfoldable pub has_twice : (ℕ → Dose) → ℕ → Bool
has_twice D n = any_below n (twice_at D)

-- day numbers do not fall
abbrev pub Rising : (ℕ → Dose) → ℕ → Type 0
Rising D n = (i j : ℕ) → i ≤ j → j < n → (D i).day ≤ (D j).day

-- the time of d as a number: the kind for kinds 1 to 4, behind them the minutes, the last for all that no day has; 0 where it has none
unfoldable pub slot_of : Dose → ℕ
slot_of d = cond (eqb d.kind 5) (min d.minute 1439 + 5) (cond (ltb d.kind 5) d.kind 0)

-- the first j doses are passed, the last of them on the day `day`, whose tag stands in the entry of each time that the day has
pub record Seen (D : ℕ → Dose) (j day tag : ℕ) (last : List ℕ) : Type 0 where
  pub long : length last ≡ 1445
  pub end : 0 < j → day ≡ (D (j - 1)).day
  pub own : (i : ℕ) → i < j → (D i).day ≡ day → 0 < slot_of (D i) → get_or last (slot_of (D i)) 0 ≡ tag
