-- Document 01, "How much a contract says": "Prove that two results allowed by it are equal". Nearly every contract says r ≡ ..; here
-- stand those that say the result another way. docs/CONTRACTS.md has a row for each public function.
use Rattle.std.specs.Prelude.{ℕ, Bool, List, Result, ◌≡◌, Option, is_some, unwrap_or}
use Rattle.block.specs.declared.Longs.{Longs}
use Rattle.day.specs.Days.{Shows}
use Rattle.day.specs.declared.Date.{Date}
use Rattle.day.specs.declared.Day.{Day}
use Rattle.period.specs.declared.Judged.{Judged}
use Rattle.plan.specs.declared.Class.{Class}
use Rattle.plan.specs.declared.Dose.{Dose}
use Rattle.plan.specs.declared.Opened.{Opened}
use Rattle.refusal.specs.declared.Refusal.{Refusal}
use Rattle.register.specs.Paper.{nothing, released, stated}
use Rattle.register.specs.Steps.{Call, Called}
use Rattle.register.specs.declared.State.{State}
use Rattle.verdict.specs.Classes.{classes_by}
use Rattle.verdict.specs.Verdict.{verdict_of}

pub record Once : Type 0 where
  -- day: `date_of`
  pub date_of : (n : ℕ) (x y : Option Date) → Shows n x → Shows n y → x ≡ y
  -- day: `Day::new`, `first`, `last`, `open` and `closed` say the number; `Date::new` says its three fields
  pub day : (n : ℕ) (x y : Day) → x.number ≡ n → y.number ≡ n → x ≡ y
  pub date : (y m d : ℕ) (a b : Date) → (a.year ≡ y) × (a.month ≡ m) × (a.day ≡ d) → (b.year ≡ y) × (b.month ≡ m) × (b.day ≡ d) → a ≡ b
  -- block: `longs_at` says its three numbers
  pub longs : (a b c : ℕ) (x y : Longs) → (x.first ≡ a) × (x.second ≡ b) × (x.third ≡ c) → (y.first ≡ a) × (y.second ≡ b) × (y.third ≡ c) → x ≡ y
  -- plan: `open_record` says the dose and the spare bytes
  pub opened : (d : Dose) (n : ℕ) (x y : Opened) → (x.dose ≡ d) × (x.spare ≡ n) → (y.dose ≡ d) × (y.spare ≡ n) → x ≡ y
  -- period: `judge_period` says rule and class
  pub judged : (rule : ℕ) (class : Class) (x y : Judged) → (x.rule ≡ rule) × (x.class ≡ class) → (y.rule ≡ rule) × (y.class ≡ class) → x ≡ y
  -- verdict: `verdict_with_classes` says what comes with the verdict
  pub classes : (p : List ℕ) (x y : Result (List Class) Refusal) → x ≡ classes_by (verdict_of p) p → y ≡ classes_by (verdict_of p) p → x ≡ y
  -- need: `stop_of` says whether there is a stop day, and which
  pub stop : (any : Bool) (day : ℕ) (x y : Option ℕ) → (is_some x ≡ any) × (unwrap_or x 0 ≡ day) → (is_some y ≡ any) × (unwrap_or y 0 ≡ day) → x ≡ y
  -- register: `clear`, `submit`, `sign` and `drop_plan`; `release`; `state_of`
  pub calls : (r : List ℕ) (c : Call) (x y : Result (Unit {0}) Refusal) (s t : List ℕ) → Called r c nothing x s → Called r c nothing y t → (x ≡ y) × (s ≡ t)
  pub releases : (r : List ℕ) (c : Call) (x y : Result ℕ Refusal) (s t : List ℕ) → Called r c released x s → Called r c released y t → (x ≡ y) × (s ≡ t)
  pub states : (r : List ℕ) (c : Call) (x y : Result State Refusal) (s t : List ℕ) → Called r c stated x s → Called r c stated y t → (x ≡ y) × (s ≡ t)
