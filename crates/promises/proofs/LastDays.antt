-- What a supply that is not refused answers, and that its last day is the last covered one. Assumes nothing.
use Rattle.std.specs.Prelude.{Err, Ok}
use Prim.Native.Nat.{ℕ, ◌+◌, ◌-◌}
use mathlib.Core.Bool.{Bool, true, false}
use mathlib.Core.List.{List}
use mathlib.Core.Logic.{⊎_elim}
use mathlib.Core.Path.{◌≡◌, refl}
use native.Mathlib.Omega.{arith}
use lib.Dec.{eqb}
use borrow.Author.Tests.{eqb-true}
use Rattle.below.proofs.Tests.{bool_cases}
use Rattle.need.specs.Need.{need_on, stop_day, has_stop}
use Rattle.pause.specs.declared.Pause.{Pause}
use Rattle.refusal.specs.declared.Refusal.{Refusal}
use Rattle.supply.proofs.Covering.{supplied}
use Rattle.supply.proofs.Refusing.{Unrefused, unrefused}
use Rattle.supply.specs.Supply.{lasting_of, refused_by, judged_of, passed_on}
use Rattle.supply.specs.declared.Lasting.{Lasting}
use Rattle.verdict.specs.Verdict.{verdict_of}
use Rattle.verdict.specs.Answers.{Answer}
use Rattle.promises.specs.Demand2.{LastCovered}

not_both : {r : Refusal} {x : Lasting} → Err r ≡ Ok x → ⊥
not_both e = let z : ◌≡◌ {A = ℕ} 0 1 = cc in omega arith

-- `out` says that 21 is due
pub record Answers (p : List ℕ) (start pack choice : ℕ) (out : Bool) (ps : List Pause) (x : Lasting) : Type 0 where
  pub accepted : (n : ℕ) × (verdict_of p ≡ Ok n)
  pub unrefused : Unrefused start pack choice out (has_stop choice p) (stop_day choice p)
  pub lasting : lasting_of (need_on choice p ps) start (stop_day choice p) pack ≡ x

pub answers : (p : List ℕ) (start pack choice : ℕ) (out : Bool) (ps : List Pause) (x : Lasting) →
    passed_on (verdict_of p) (judged_of p start pack choice out ps) ≡ Ok x → Answers p start pack choice out ps x
unfolding judged_of
answers p start pack choice out ps x e = by_verdict (verdict_of p) refl
  where
    by_verdict : (a : Answer) → verdict_of p ≡ a → Answers p start pack choice out ps x
    by_verdict (Err r) v = absurd (not_both (rw v at e))
    by_verdict (Ok n) v =
        let number = refused_by start pack choice out (has_stop choice p) (stop_day choice p) in
        let f = rw v at e in
        ⊎_elim
        (λ (t : eqb number 0 ≡ true).
        let g = rw t at f in
        record {
          accepted = (n, v);
          unrefused = unrefused start pack choice out (has_stop choice p) (stop_day choice p) (eqb-true _ _ t);
          lasting = cc;
        })
        (λ (t : eqb number 0 ≡ false). absurd (not_both (rw t at f)))
        (bool_cases (eqb number 0))

pub last_covered : (p : List ℕ) (start pack choice : ℕ) (out : Bool) (ps : List Pause) (x : Lasting) →
    passed_on (verdict_of p) (judged_of p start pack choice out ps) ≡ Ok x → LastCovered p start pack choice ps x
unfolding lasting_of
last_covered p start pack choice out ps x e =
    let a = answers p start pack choice out ps x e in
    let s = supplied (need_on choice p ps) start (stop_day choice p + 1 - start) pack in
    rw (← a.lasting)
    (record {
      not_past = omega (arith, s.within, a.unrefused.stop_in);
      at_most = omega (arith, s.sum);
      greatest = λ n h g. s.greatest n (omega arith) g;
      last_is = refl;
    })
