-- What was added by one call and then by another. Assumes nothing.
use Prim.Native.Nat.{ℕ, ◌+◌, ◌≤◌}
use mathlib.Core.Bool.{Bool, ◌&&◌}
use mathlib.Core.List.{List, [], ◌∷◌, ◌++◌, append_assoc, append-nil}
use mathlib.Core.Path.{◌≡◌, refl, ◌∙◌}
use native.Mathlib.Omega.{arith}
use lib.ListN.{length, length-append}
use Rattle.below.proofs.Lists.{over_append}
use Rattle.plan.specs.declared.Dose.{Dose}
use Rattle.plan.specs.Periods.{is_period, class_of}
use Rattle.layout.specs.Layout.{Written, body_of, blocks_for}
use Rattle.plan.specs.declared.Header.{Header}
use Rattle.verdict.specs.Coverage.{in_group, is_member}
use Rattle.writer.specs.declared.Place.{Place}
use Rattle.writer.specs.Steps.{period_added, period_place, dose_added, dose_place}
use Rattle.writer.proofs.Holding.{holds_period, holds_dose, last_doses_lem}
use Rattle.writer.proofs.Laying.{length_body_last, blocks_are, one_dose_more, without_room}
use Rattle.split.specs.Parts.{group_of, is_dosed_in}
use Rattle.split.specs.Code.Adding.{HasRoom, Adds, with_doses, AddsDoses}

-- a part's dosed periods, by their class
pub dosed_is : (marked : Bool) (p : List ℕ) (b : ℕ) → is_dosed_in marked p b ≡ (is_period p b && in_group (group_of marked) (class_of p b))
unfolding is_member
dosed_is marked p b = refl

-- room for all is room for those ahead
body_append : (ws xs : List Written) → length (body_of (ws ++ xs)) ≡ length (body_of ws) + length (body_of xs)
unfolding body_of
body_append ws xs = rw (over_append _ ws xs, length-append)

room_ahead : (old : List ℕ) (ws xs : List Written) → HasRoom old (ws ++ xs) → HasRoom old ws
room_ahead old ws xs r = (r.0, omega (arith, r.1, body_append ws xs))

-- and for a period with more doses, for that with fewer
fewer_doses : (old : List ℕ) (ws : List Written) (w : Written) (ds : List Dose) → HasRoom old (ws ++ (with_doses w ds ∷ [])) → HasRoom old (ws ++ (w ∷ []))
fewer_doses old ws w ds r =
    let a = length_body_last ws w in
    let b = length_body_last ws (with_doses w ds) in
    let n : length (w.doses ++ ds) ≡ length w.doses + length ds = length-append w.doses ds in
    let m : blocks_for (length w.doses) ≤ blocks_for (length (w.doses ++ ds)) = omega (arith, blocks_are (length w.doses), blocks_are (length (w.doses ++ ds))) in
    (r.0, omega (arith, r.1))

module _ {at : Place} {out : List ℕ} where
  pub adds_none : Adds [] at out at out
  adds_none h ws old r o = rw append-nil o

  pub doses_none : AddsDoses [] at out at out
  doses_none h ws w old r o = rw append-nil o

  module _ {at2 at3 : Place} {out2 out3 : List ℕ} where
    pub adds_both : {xs ys : List Written} → Adds xs at out at2 out2 → Adds ys at2 out2 at3 out3 → Adds (xs ++ ys) at out at3 out3
    adds_both {xs} {ys} f g h ws old r o =
        let all : HasRoom old (ws ++ xs ++ ys) = rw (append_assoc ws xs ys) r in
        rw (← append_assoc ws xs ys) (g h (ws ++ xs) old all (f h ws old (room_ahead old (ws ++ xs) ys all) o))

    pub doses_both : {xs ys : List Dose} → AddsDoses xs at out at2 out2 → AddsDoses ys at2 out2 at3 out3 → AddsDoses (xs ++ ys) at out at3 out3
    doses_both {xs} {ys} f g h ws w old r o =
        let all : HasRoom old (ws ++ (with_doses (with_doses w xs) ys ∷ [])) = rw (append_assoc w.doses xs ys) r in
        let some : HasRoom old (ws ++ (with_doses w xs ∷ [])) = fewer_doses old ws (with_doses w xs) ys all in
        rw (← append_assoc w.doses xs ys) (g h ws (with_doses w xs) old all (f h ws w old some o))

    -- a period and then its doses
    pub adds_dosed : {q : Header} {ds : List Dose} → Adds (record { header = q; doses = [] } ∷ []) at out at2 out2 → AddsDoses ds at2 out2 at3 out3 → Adds (record { header = q; doses = ds } ∷ []) at out at3 out3
    adds_dosed {q} {ds} f g h ws old r o =
        g h ws (record { header = q; doses = [] }) old r (f h ws old (fewer_doses old ws (record { header = q; doses = [] }) ds r) o)

  -- a period without doses
  pub adds_period : (q : Header) → Adds (record { header = q; doses = [] } ∷ []) at out (period_place out at) (period_added out at q)
  adds_period q h ws old r o =
      let n = length_body_last ws (record { header = q; doses = [] }) in
      holds_period h ws old at out o q (omega (arith, r.0, r.1, o.blocks)) (omega (arith, r.1, o.blocks))

  -- a dose
  pub doses_one : (d : Dose) → AddsDoses (d ∷ []) at out (dose_place out at) (dose_added out at d)
  doses_one d h ws w old r o =
      let m = length w.doses in
      let k : length (w.doses ++ (d ∷ [])) ≡ m + 1 = length-append w.doses (d ∷ []) in
      let before = length_body_last ws w in
      let after : length (body_of (ws ++ (with_doses w (d ∷ []) ∷ []))) ≡ length (body_of ws) + blocks_for (m + 1) = rw (← k) (length_body_last ws (with_doses w (d ∷ []))) in
      let next = (one_dose_more m).0 in
      holds_dose h ws w d old at out o
      (λ l.
      let full = without_room m (rw (o.doses ∙ last_doses_lem 0 ws w) at l) in
      (omega (arith, r.0, r.1, o.blocks, before, after, full.0, next), omega (arith, r.1, o.blocks, before, after, full.0, next)))
