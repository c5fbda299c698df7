-- What an accepted plan needs on a day is well below 2^64, so that plain sums of 64 bits drop nothing: rule 1 bounds the doses of a
-- period, rule 4 the amount of each. Assumes nothing.
use Rattle.std.proofs.Common.{◌≡◌, ℕ, ◌%◌, ◌^◌, ◌<◌, ◌≤◌, true, false, eqb, List, ⊎_elim, arith}
use Rattle.below.proofs.Tests.{bool_cases}
use Rattle.doses.proofs.Exact.{InRange, day_small}
use Rattle.form.proofs.Ranged.{dose_ranged, few_doses, amounts_in}
use Rattle.form.specs.Form.{field_out}
use Rattle.plan.specs.Fields.{upper_of}
use Rattle.plan.specs.Periods.{dose_in}
use Rattle.plan.specs.declared.Dose.{Dose}
use Rattle.verdict.proofs.Exactly.{NoRuleBroken, formed_of}
use Rattle.need.specs.Need.{chosen, due_on}
use Rattle.need.proofs.Chosen.{due_chosen}
use Rattle.need.proofs.Rows.{chosen_in}

upper_in : (x : Dose) → field_out x ≡ false → upper_of x ≤ 9999999999
upper_in x e =
    let a = amounts_in x e in
    ⊎_elim (λ (t : eqb x.high 0 ≡ true). rw t a.0) (λ t. rw t a.1) (bool_cases (eqb x.high 0))

-- the doses of an accepted plan are few, and in their ranges
pub in_range : (p : List ℕ) → NoRuleBroken p → InRange p
in_range p n =
    let f = formed_of p n in
    let s : 16384 < 65536 = omega arith in
    record {
      few = λ b l e. few_doses s f b l e;
      low = λ b j l e h. (amounts_in (dose_in p b j) (dose_ranged s f b l e j h)).0;
      upper = λ b j l e h. upper_in (dose_in p b j) (dose_ranged s f b l e j h);
    }

pub due_small : (p : List ℕ) → NoRuleBroken p → (choice d : ℕ) → due_on choice p d ≤ 819199999918080
due_small p n choice d =
    rw (due_chosen choice p d) (day_small p d (in_range p n) (chosen choice) (λ x l u. chosen_in choice x 9999999999 l u))

-- what is worked out for a day of such a plan is what it needs
pub due_whole : (p : List ℕ) → NoRuleBroken p → (choice d : ℕ) → due_on choice p d % 2 ^ 64 ≡ due_on choice p d
due_whole p n choice d = omega (arith, due_small p n choice d)
