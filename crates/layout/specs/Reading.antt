-- What is read from the bytes p of a plan: its head, and its periods with their doses.
use Rattle.std.specs.Prelude.{ℕ, cond, List, [], ◌∷◌}
use Rattle.below.specs.Lists.{list_below, join_below}
use Rattle.plan.specs.declared.Dose.{Dose}
use Rattle.plan.specs.Fields.{unit_of, first_of, end_of, plan_number_of, revision_of, vka_of, header_of}
use Rattle.plan.specs.Periods.{blocks_of, block_at, is_period, doses_of, dose_in}
use Rattle.plan.specs.declared.Head.{Head}
use Rattle.plan.specs.declared.Header.{Header}
use Rattle.layout.specs.Layout.{Written}

unfoldable pub head_of : List ℕ → Head
head_of p =
    let r = block_at p 0 in
    record {
      unit = unit_of r;
      start = first_of r;
      end = end_of r;
      number = plan_number_of r;
      revision = revision_of r;
      vka = vka_of r;
    }

-- the period at block b, without its doses
unfoldable pub header_at : List ℕ → ℕ → Header
header_at p b = header_of (block_at p b)

-- its doses
unfoldable pub doses_at : List ℕ → ℕ → List Dose
doses_at p b = list_below (doses_of p b) (dose_in p b)

abbrev pub period_at : List ℕ → ℕ → Written
period_at p b = record { header = header_at p b; doses = doses_at p b }

-- all periods, in their order
unfoldable pub periods_of : List ℕ → List Written
periods_of p = join_below (blocks_of p) (λ b. cond (is_period p b) (period_at p b ∷ []) [])
