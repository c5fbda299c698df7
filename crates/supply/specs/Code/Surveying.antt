-- What one walk over the blocks says of a day. No answer is stated by these.
use Rattle.std.specs.Prelude.{ℕ, ◌+◌, ◌-◌, ◌≤◌, ◌<◌, min, max, ◌≡◌, Bool, true, false, cond, List, ltb}
use Rattle.day.specs.Days.{open_mark}
use Rattle.doses.specs.Doses.{covers}
use Rattle.plan.specs.Fields.{first_of}
use Rattle.plan.specs.Periods.{blocks_of, block_at, is_period}
use Rattle.supply.specs.Steps.{is_chosen}
use Rattle.supply.specs.Code.Standing.{Steady}
use Rattle.supply.specs.declared.survey.Survey.{Survey}

-- a and b are the first two numbers of the first n that pass the test; where there is none such, they are not below `end`
pub record FirstTwo (test : ℕ → Bool) (end n a b : ℕ) : Type 0 where
  pub before : (k : ℕ) → k < n → k < a → test k ≡ false
  pub here : a < n → test a ≡ true
  pub between : (k : ℕ) → k < n → a < k → k < b → test k ≡ false
  pub there : b < n → test b ≡ true
  pub apart : a < b
  pub first_past : n ≤ a → end ≤ a
  pub second_past : n ≤ b → end ≤ b
  pub first_low : a ≤ end
  pub second_low : b ≤ max end (a + 1)

-- of the first n blocks' periods with doses of the choice none begins behind day d and up to day u; unless u is the open mark, one begins on
-- the day behind u
pub record Clear (choice : ℕ) (p : List ℕ) (d n u : ℕ) : Type 0 where
  pub reached : d ≤ u
  pub ahead : (k : ℕ) → k < n → is_period p k ≡ true → is_chosen choice p k ≡ true → d < first_of (block_at p k) → u < first_of (block_at p k)
  pub next : u < open_mark → (k : ℕ) × (k < n) × (is_period p k ≡ true) × (is_chosen choice p k ≡ true) × (first_of (block_at p k) ≡ u + 1)

-- t says of the period at block b, if that is one of the first n, whether it has doses of the choice, and else says no
pub record Flag (choice : ℕ) (p : List ℕ) (n b : ℕ) (t : Bool) : Type 0 where
  pub is : b < n → t ≡ is_chosen choice p b
  pub none : n ≤ b → t ≡ false

-- what the first n blocks say of day d
pub record Surveyed (choice : ℕ) (p : List ℕ) (d n : ℕ) (s : Survey) : Type 0 where
  pub reached : d ≤ s.until
  pub steady : (k : ℕ) → k < n → Steady (λ e. covers p e k) d s.until
  pub two : FirstTwo (covers p d) (blocks_of p) n s.first s.second
  pub one : Flag choice p n s.first s.one
  pub other : Flag choice p n s.second s.other
  pub clear : Clear choice p d n s.clear

-- a period more, which begins on day `first`, later than the day; `chosen` says that it has doses of the choice
abbrev pub with_later : Survey → Bool → ℕ → Survey
with_later s chosen first =
    record {
      first = s.first;
      second = s.second;
      one = s.one;
      other = s.other;
      until = min s.until (first - 1);
      clear = cond chosen (min s.clear (first - 1)) s.clear;
    }

-- a period more, at block b, which has the day and ends on day `last`
abbrev pub with_period : Survey → Bool → ℕ → ℕ → Survey
with_period s chosen b last =
    record {
      first = cond (ltb b s.first) b s.first;
      second = cond (ltb b s.first) s.first (cond (ltb b s.second) b s.second);
      one = cond (ltb b s.first) chosen s.one;
      other = cond (ltb b s.first) s.other (cond (ltb b s.second) chosen s.other);
      until = min s.until last;
      clear = s.clear;
    }
