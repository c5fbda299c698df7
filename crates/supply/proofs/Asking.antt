-- What is asked, once the plan is judged: the answer by a choice is supply's, and the set of the choices' dates is the set. Assumes nothing.
use Rattle.std.specs.Prelude.{Err, Ok}
use Prim.Native.Nat.{ℕ}
use mathlib.Core.Bool.{Bool, true, false}
use mathlib.Core.List.{List}
use mathlib.Core.Logic.{⊎_elim}
use mathlib.Core.Path.{◌≡◌, refl, ap, ◌∙◌}
use lib.Dec.{eqb, ltb}
use borrow.Author.Tests.{eqb-true, eqb-false, ne_eqb}
use Rattle.below.proofs.Tests.{bool_cases}
use Rattle.need.proofs.Telling.{tells}
use Rattle.need.specs.Need.{stop_day, has_stop}
use Rattle.need.specs.Telling.{told_of}
use Rattle.pause.specs.Pauses.{are_out}
use Rattle.pause.specs.declared.Pause.{Pause}
use Rattle.refusal.specs.Refusals.{alone}
use Rattle.refusal.specs.declared.Refusal.{Refusal}
use Rattle.verdict.proofs.Exactly.{accepted_only}
use Rattle.verdict.proofs.Passing.{accepted_classed}
use Rattle.plan.specs.declared.Class.{Class}
use Rattle.below.specs.Lists.{list_below}
use Rattle.verdict.specs.Classes.{class_at}
use Rattle.verdict.specs.Verdict.{verdict_of}
use Rattle.supply.specs.Dates.{is_ranging, is_needed, date_by, set_of, dates_of}
use Rattle.supply.specs.Supply.{asked_by, own_by, judged_of, lasting_in, supply_of}
use Rattle.supply.specs.Code.Asking.{is_asked, unless_given, answered_by, Refuses, AsksSupply, AsksDates, set_from}
use Rattle.supply.specs.declared.ask.Asked.{Asked}
use Rattle.supply.specs.declared.Dates.{Dates}
use Rattle.supply.specs.Answers.{Supply}
use Rattle.supply.proofs.Accepted.{orderly}
use Rattle.supply.proofs.Sets.{set_same}
use Rattle.supply.proofs.Refusing.{fair, asked_none, asked_first}

-- every choice is asked for
asked_all : (a : Asked) → a.upper ≡ true → a.needed ≡ true → (choice : ℕ) → is_asked a choice ≡ true
asked_all a u n choice =
    ⊎_elim
    (λ (t : eqb choice 2 ≡ true). rw t u)
    (λ (t : eqb choice 2 ≡ false). ⊎_elim (λ (l : ltb 2 choice ≡ true). rw (t, l) n) (λ (l : ltb 2 choice ≡ false). rw (t, l)) (bool_cases (ltb 2 choice)))
    (bool_cases (eqb choice 2))

-- a refusal's number is given, or none is
module _ {X : Type 0} where
  pub given : (number : ℕ) (x : X) {r : Refusal} → unless_given number x ≡ Err r → (number ≡ 0 → ⊥) × (r ≡ alone number)
  given number x e =
      ⊎_elim
      (λ (t : eqb number 0 ≡ true). let h = rw t at e in cc)
      (λ (t : eqb number 0 ≡ false). (eqb-false _ _ t, let h = rw t at e in cc))
      (bool_cases (eqb number 0))

  pub not_given : (number : ℕ) (x : X) {y : X} → unless_given number x ≡ Ok y → (number ≡ 0) × (y ≡ x)
  not_given number x e =
      ⊎_elim
      (λ (t : eqb number 0 ≡ true). (eqb-true _ _ t, let h = rw t at e in cc))
      (λ (t : eqb number 0 ≡ false). let h = rw t at e in cc)
      (bool_cases (eqb number 0))

module _ {p : List ℕ} {start pack : ℕ} {out : Bool} where
  -- ---- refused: the plan is not accepted
  pub refused_broken : {r : Refusal} → verdict_of p ≡ Err r → Refuses p start pack out r
  refused_broken v = record { supplies = λ choice ps. rw v; sets = λ x. rw v }

  module _ {n : ℕ} (v : verdict_of p ≡ Ok n) where
    -- it is, but one of 20 to 22 is given
    pub refused_given : {X : Type 0} (x : X) {r : Refusal} → unless_given (asked_by start pack out 0) x ≡ Err r → Refuses p start pack out r
    unfolding judged_of
    refused_given x e =
        let g = given (asked_by start pack out 0) x e in
        record {
          supplies =
              λ choice ps.
              rw (v, g.1, asked_first start pack out (own_by start choice (has_stop choice p) (stop_day choice p)) g.0, ne_eqb _ _ g.0);
          sets = λ y. rw (v, g.1, ne_eqb _ _ g.0);
        }

    -- ---- asked for a supply
    pub asks_supply : (a : Asked) → a.start ≡ start → a.pack ≡ pack → a.upper ≡ true → a.needed ≡ true → {cs : List Class} → cs ≡ list_below 32 (class_at p) →
        a.told ≡ told_of cs p → asked_by start pack out 0 ≡ 0 → AsksSupply p start pack out a
    unfolding answered_by judged_of
    asks_supply a s k u w {cs} c m none =
        record {
          judged =
              record {
                accepted = (n, v);
                tells = tells (accepted_classed p cs (orderly p (accepted_only p v) 1).few c) m;
                start_in = rw s (fair start pack out 0 none).0.start_in;
              };
          start_is = s;
          all = asked_all a u w;
          supplies =
              λ choice ps.
              rw (v, asked_all a u w choice, asked_none start pack out (own_by start choice (has_stop choice p) (stop_day choice p)) none, s, k);
          sets = λ x. rw (v, none);
        }

  -- ---- asked for a set of dates: the same but for the choices that are asked for
  pub asks_dates : {a : Asked} (b : Asked) → AsksSupply p start pack out a → b.start ≡ a.start → b.pack ≡ a.pack → b.told ≡ a.told → b.upper ≡ is_ranging start p →
      b.needed ≡ is_needed start p → AsksDates p start pack out b
  unfolding answered_by
  asks_dates {a} b f s k c u w =
      record {
        judged =
            record {
              accepted = f.judged.accepted;
              tells = rw c f.judged.tells;
              start_in = rw s f.judged.start_in;
            };
        upper_is = u;
        needed_is = w;
        supplies = λ choice ps g. let e = rw (f.all choice) at (f.supplies choice ps) in rw (g, s, k) e;
        sets = f.sets;
      }

-- ---- the set
module _ (p : List ℕ) (start pack : ℕ) (ps : List Pause) (a : Asked) (f : AsksDates p start pack (are_out ps) a) where
  date : (choice : ℕ) {x : Supply} → x ≡ answered_by p a choice ps → is_asked a choice ≡ true → (lasting_in x).last ≡ date_by (λ c. supply_of p start pack c ps) choice
  date choice e g = ap (λ (y : Supply). (lasting_in y).last) (e ∙ f.supplies choice ps g)

  pub set_is : {low upper both needed : Supply} → low ≡ answered_by p a 1 ps → upper ≡ answered_by p a 2 ps → both ≡ answered_by p a 3 ps → needed ≡ answered_by p a 4 ps →
      Ok (set_from a low upper both needed) ≡ dates_of p start pack ps
  set_is {low} {upper} {both} {needed} e₁ e₂ e₃ e₄ =
      let same : set_from a low upper both needed ≡ set_of (is_ranging start p) (is_needed start p) (date_by (λ c. supply_of p start pack c ps)) =
      rw (← f.upper_is, ← f.needed_is)
      (set_same a.upper a.needed _ _ (date 1 e₁ refl) (λ z. date 2 e₂ z) (λ z. date 3 e₃ z) (λ z. date 4 e₄ z)) in
      ap (λ (x : Dates). Ok x) same ∙ f.sets _
