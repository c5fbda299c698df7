-- What the pass over the periods has found when it stands at block b: the lowest broken rule from 5 to 14 with its first
-- block, and the class of each period.
use Rattle.std.specs.Prelude.{ℕ, ◌≤◌, ◌<◌, ◌≡◌, true, false, List, length, get_or, Option, Some, None, IfSome, Err, Ok}
use Rattle.plan.specs.Periods.{blocks_of, is_period}
use Rattle.plan.specs.declared.Class.{Class}
use Rattle.plan.specs.declared.Class.TheVariants.{Empty}
use Rattle.below.specs.Below.{any_below}
use Rattle.below.specs.Lists.{list_below}
use Rattle.form.specs.Form.{bad_length}
use Rattle.period.specs.Period.{rule_of}
use Rattle.verdict.specs.Answers.{Answer}
use Rattle.verdict.specs.declared.order.Found.{Found}
use Rattle.verdict.specs.Classes.{class_at}
use Rattle.verdict.specs.Verdict.{plan_limit, breaks}

pub record Lowest (p : List ℕ) (b rule place : ℕ) : Type 0 where
  pub low : 5 ≤ rule
  pub high : rule ≤ 15
  pub none : (c : ℕ) → c < b → is_period p c ≡ true → rule ≤ rule_of p c
  pub some : rule < 15 → (place < b) × (is_period p place ≡ true) × (rule_of p place ≡ rule)
  pub first : rule < 15 → (c : ℕ) → c < place → is_period p c ≡ true → rule < rule_of p c

-- the rule, 15 where none is broken, and its block
abbrev pub rule_in : Option Found → ℕ
rule_in None = 15
rule_in (Some f) = f.rule

abbrev pub place_in : Option Found → ℕ
place_in None = 0
place_in (Some f) = f.place

-- cs has the classes of the periods ahead of block b
pub record Judged (p : List ℕ) (b : ℕ) (s : Option Found) (cs : List Class) : Type 0 where
  pub lowest : Lowest p b (rule_in s) (place_in s)
  pub broken : IfSome s (λ f. f.rule < 15)
  pub long : length cs ≡ 32
  pub classed : (c : ℕ) → c < b → get_or cs c Empty ≡ class_at p c
  pub rest : (c : ℕ) → b ≤ c → c < 32 → get_or cs c Empty ≡ Empty

-- cs has the classes, where the plan is accepted
abbrev pub HasClasses : Answer → List ℕ → List Class → Type 0
HasClasses (Ok n) p cs = cs ≡ list_below 32 (class_at p)
HasClasses (Err r) p cs = ◌≡◌ {A = ℕ} 0 0

-- rule 1 and no rule below k is broken: what the test of rule k counts on
pub record Unbroken (p : List ℕ) (k : ℕ) : Type 0 where
  pub long : bad_length plan_limit p ≡ false
  pub some : 0 < blocks_of p
  pub clear : (i : ℕ) → i < k → any_below (blocks_of p) (breaks p i) ≡ false
