-- The parts of an accepted plan break none of rules 1 to 4. Assumes nothing.
use Rattle.std.specs.Prelude.{Ok}
use Prim.Native.Nat.{ℕ, ◌≤◌}
use mathlib.Core.Bool.{Bool}
use mathlib.Core.List.{List}
use mathlib.Core.Path.{◌≡◌}
use native.Mathlib.Omega.{arith}
use lib.ListN.{length}
use Rattle.block.proofs.Numbers.{AreBytes}
use Rattle.form.specs.Form.{form_of}
use Rattle.layout.proofs.Blocks.{length_laid}
use Rattle.layout.proofs.Every.{every_keep}
use Rattle.layout.proofs.Fitting.{head_fits, header_fits, period_fits, head_ranged, period_ranged}
use Rattle.layout.proofs.Formed.{laid_right}
use Rattle.below.specs.Lists.{Every.none}
use Rattle.layout.specs.Code.Fits.{AllFit, Ranged}
use Rattle.layout.specs.Reading.{head_of}
use Rattle.verdict.specs.Verdict.{plan_limit}
use Rattle.split.specs.Parts.{is_of_part, run_first, run_last, part_of, part_bytes}
use Rattle.split.specs.Split.{room}
use Rattle.split.proofs.Each.{each_of_part, days_span, piece_days}
use Rattle.split.proofs.Kept.{Kept, kept_right}
use Rattle.split.proofs.Room.{few_blocks}
use Rattle.split.proofs.Standing.{dosed_period_lem, run_is}

module _ (m : Bool) {p : List ℕ} (bytes : AreBytes p) (k : Kept p) where
  -- its periods fit their bytes
  pub part_fits : AllFit (part_of m p)
  part_fits =
      each_of_part m p
      (λ b l t. record { header = header_fits p bytes b; doses = every_keep (is_of_part m) (period_fits p bytes b).doses })
      (λ b e l q t r s.
      let d = piece_days k (run_first p b) (run_last m p b) e (run_is m p b r).days q s in
      record {
        header = record { interval = omega arith; first = omega (arith, d.0, d.1); end = omega (arith, d.1) };
        doses = none;
      })

  -- and are in their ranges, as the plan's head is
  pub part_ranged : Ranged (head_of p) (part_of m p)
  part_ranged =
      record {
        head = head_ranged plan_limit p (omega arith) (kept_right k);
        periods =
            each_of_part m p
            (λ b l t.
            let r = period_ranged plan_limit p (omega arith) (kept_right k) b l (dosed_period_lem m p b t) in
            record { days = r.days; doses = every_keep (is_of_part m) r.doses })
            (λ b e l q t r s.
            let d = piece_days k (run_first p b) (run_last m p b) e (run_is m p b r).days q s in
            record { days = days_span _ _ d.0 d.1; doses = none });
      }

  -- a part has room in 32,768 bytes
  pub part_short : length (part_bytes m p) ≤ room
  unfolding part_bytes
  part_short = omega (arith, length_laid (head_of p) (part_of m p), few_blocks m p k bytes)

  -- and the right form there
  pub part_right : form_of room (part_bytes m p) ≡ Ok tt
  unfolding part_bytes
  part_right = laid_right (head_of p) (part_of m p) (head_fits p bytes) part_fits part_ranged room part_short
