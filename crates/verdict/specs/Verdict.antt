-- The table of rules, the order in which they are named, and the answer.
use Rattle.std.specs.Prelude.{ℕ, Bool, cond, ◌&&◌, List, eqb, ltb, length, Err, Ok}
use Rattle.refusal.specs.Refusals.{rule_at}
use Rattle.refusal.specs.Order.{lowest_rule, lowest_block}
use Rattle.plan.specs.Periods.{blocks_of, is_period}
use Rattle.form.specs.Form.{bad_length, form_breaks}
use Rattle.period.specs.Period.{period_breaks}
use Rattle.verdict.specs.Answers.{Answer}
use Rattle.verdict.specs.Coverage.{bare, shares, holes}

-- "above 16,384"
abbrev pub plan_limit : ℕ
plan_limit = 16384

-- the table: block b breaks rule k, from 2 to 17. "Rules 5 to 14 name the period's first block." Rules 15 and 17 have no
-- place: they stand at block 0.
unfoldable pub breaks : List ℕ → ℕ → ℕ → Bool
breaks p k b =
    cond (ltb k 5) (form_breaks p k b)
    (cond (ltb k 15) (is_period p b && period_breaks k p b)
    (cond (eqb k 15) (eqb b 0 && bare p)
    (cond (eqb k 16) (shares p b)
    (eqb k 17 && (eqb b 0 && holes p)))))

-- "the lowest broken number", 18 where none is
abbrev pub first_rule : List ℕ → ℕ
first_rule p = lowest_rule 18 (blocks_of p) (breaks p)

-- "then the lowest block that breaks it"
abbrev pub first_block : List ℕ → ℕ → ℕ
first_block p k = lowest_block (blocks_of p) (breaks p) k

-- "An answer is either the plan or its first broken rule (the plan by its length)."
unfoldable pub verdict_of : List ℕ → Answer
verdict_of p =
    cond (bad_length plan_limit p) (Err (rule_at 1 0))
    (cond (ltb (first_rule p) 18) (Err (rule_at (first_rule p) (first_block p (first_rule p)))) (Ok (length p)))
