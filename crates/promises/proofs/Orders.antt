-- The number of a refusal is the first in the set order that is given. Assumes nothing.
use Rattle.std.specs.Prelude.{Err, Ok}
use Prim.Native.Nat.{ℕ, zero, suc, ◌+◌, ◌<◌}
use mathlib.Core.Bool.{Bool, true, false, cond, not}
use mathlib.Core.List.{List, [], ◌∷◌}
use mathlib.Core.Logic.{⊎_elim}
use mathlib.Core.Path.{◌≡◌, refl, sym, ap, ◌∙◌}
use native.Mathlib.Omega.{arith}
use lib.Dec.{eqb, ltb}
use lib.ListN.{length}
use borrow.Author.Tests.{eqb-true, ne_eqb, lt-ltb, le-ltb}
use Rattle.below.proofs.Search.{any_none}
use Rattle.below.proofs.Tests.{bool_cases}
use Rattle.below.specs.Below.{first_from, first_below, any_below}
use Rattle.form.specs.Form.{bad_length, form_breaks}
use Rattle.pause.specs.declared.Pause.{Pause}
use Rattle.plan.specs.Fields.{plan_number_of}
use Rattle.plan.specs.Periods.{blocks_of}
use Rattle.refusal.specs.Order.{lowest_rule}
use Rattle.refusal.specs.Refusals.{alone, refusal_in}
use Rattle.refusal.specs.declared.Refusal.{Refusal}
use Rattle.register.proofs.LawDone.{broken_number}
use Rattle.register.specs.Slots.{room_size, slots_of, first_signer, second_signer, is_held, slot_under, plan_under}
use Rattle.register.specs.Sound.{sound}
use Rattle.register.specs.Steps.{Call, Call.clear, Call.submit, Call.sign, Call.release, Call.drop, Call.state, is_done, unless_broken, is_stale, is_full, same, refused_by, given, answered}
use Rattle.split.specs.Split.{too_small, lengths_of, split_by, split_of}
use Rattle.need.specs.Need.{stop_day, has_stop}
use Rattle.supply.specs.Dates.{set_by}
use Rattle.supply.specs.Supply.{asked_by, own_by, refused_by as supplyRefusedBy, judged_of, passed_on}
use Rattle.supply.specs.declared.Dates.{Dates}
use Rattle.supply.specs.Answers.{Supply}
use Rattle.verdict.specs.Verdict.{plan_limit, breaks, first_rule, verdict_of}
use Rattle.verdict.specs.Answers.{Answer}
use Rattle.promises.specs.Orders.{first_given, rules, is_broken, dates_order, given_by_dates, supply_order, given_by_supply, split_order, given_by_split, order_of, given_by_call}

-- n numbers from i on
up_from : ℕ → ℕ → List ℕ
up_from i zero = []
up_from i (suc n) = i ∷ up_from (suc i) n

-- the first that is given of these is the first that a search finds
first_up : (h : ℕ → Bool) (n i : ℕ) → first_given h (up_from i n) ≡ cond (ltb (first_from n i h) (i + n)) (first_from n i h) 0
unfolding first_given first_from up_from
first_up h zero i = rw (le-ltb i (i + 0) (omega arith))
first_up h (suc n) i =
    ⊎_elim
    (λ (t : h i ≡ true). rw (t, lt-ltb i (i + suc n) (omega arith)))
    (λ (t : h i ≡ false). let e : i + suc n ≡ suc i + n = omega arith in rw (t, e) (first_up h n (suc i)))
    (bool_cases (h i))

-- an order that goes on with other numbers, of which x is the first that is given
chain : (ℕ → Bool) → List ℕ → ℕ → ℕ
chain h [] x = x
chain h (k ∷ ks) x = cond (h k) k (chain h ks x)

chain_up : (h : ℕ → Bool) (n i x : ℕ) → 0 < i → chain h (up_from i n) x ≡ cond (eqb (first_given h (up_from i n)) 0) x (first_given h (up_from i n))
unfolding first_given chain up_from
chain_up h zero i x l = refl
chain_up h (suc n) i x l =
    ⊎_elim
    (λ (t : h i ≡ true). rw (t, ne_eqb i 0 (λ e. omega arith)))
    (λ (t : h i ≡ false). rw t (chain_up h n (suc i) x (omega arith)))
    (bool_cases (h i))

chain_rules : (h : ℕ → Bool) (x : ℕ) → chain h rules x ≡ cond (eqb (first_given h rules) 0) x (first_given h rules)
unfolding up_from
chain_rules h x = chain_up h 17 1 x (omega arith)

-- the verdict
module _ (p : List ℕ) where
  abbrev pub some : ℕ → Bool
  some k = any_below (blocks_of p) (breaks p k)

  pub no_rule : some 0 ≡ false
  unfolding breaks form_breaks
  no_rule = any_none (breaks p 0) (λ b l. refl)

  pub no_row : some 1 ≡ false
  unfolding breaks form_breaks
  no_row = any_none (breaks p 1) (λ b l. refl)

  from_two : first_rule p ≡ first_from 16 2 some
  unfolding lowest_rule first_below first_from
  from_two = rw (no_rule, no_row)

  pub verdict_first : (refusal_in (verdict_of p)).number ≡ first_given (is_broken p) rules
  unfolding verdict_of first_given up_from
  verdict_first =
      ⊎_elim
      (λ (t : bad_length plan_limit p ≡ true). rw t)
      (λ (t : bad_length plan_limit p ≡ false).
      let later : first_given some (up_from 2 16) ≡ cond (ltb (first_rule p) 18) (first_rule p) 0 = rw from_two (first_up some 16 2) in
      ⊎_elim
      (λ (u : ltb (first_rule p) 18 ≡ true). rw (t, u) (sym (rw u at later)))
      (λ (u : ltb (first_rule p) 18 ≡ false). rw (t, u) (sym (rw u at later)))
      (bool_cases (ltb (first_rule p) 18)))
      (bool_cases (bad_length plan_limit p))

  -- a call that passes the verdict's refusal on, and else has the number x
  passed_on_lem : (x : ℕ) → chain (is_broken p) rules x ≡ cond (eqb (refusal_in (verdict_of p)).number 0) x (refusal_in (verdict_of p)).number
  passed_on_lem x = rw verdict_first (chain_rules (is_broken p) x)

-- the number of what is passed on, and of a choice
unless_number : (a : Answer) (x : Refusal) → ((q : Refusal) → a ≡ Err q → eqb q.number 0 ≡ false) →
    (unless_broken a x).number ≡ cond (eqb (refusal_in a).number 0) x.number (refusal_in a).number
unless_number (Ok n) x h = refl
unless_number (Err q) x h = rw (h q refl)

supply_number : (a : Answer) (s : Supply) → ((q : Refusal) → a ≡ Err q → eqb q.number 0 ≡ false) →
    (refusal_in (passed_on a s)).number ≡ cond (eqb (refusal_in a).number 0) (refusal_in s).number (refusal_in a).number
supply_number (Ok n) s h = refl
supply_number (Err q) s h = rw (h q refl)

split_number : (a : Answer) (p fixed need : List ℕ) → ((q : Refusal) → a ≡ Err q → eqb q.number 0 ≡ false) →
    (refusal_in (split_by a p fixed need)).number ≡ cond (eqb (refusal_in a).number 0) (first_given (given_by_split p fixed need) (25 ∷ [])) (refusal_in a).number
unfolding first_given
split_number (Ok n) p fixed need h = choice (too_small fixed need)
  where
    choice : (t : Bool) → (refusal_in (cond t (Err (alone 25)) (Ok (lengths_of p)))).number ≡ cond t 25 0
    choice true = refl
    choice false = refl
split_number (Err q) p fixed need h = rw (h q refl)

cond_number : (t : Bool) (x y : Refusal) → (cond t x y).number ≡ cond t x.number y.number
cond_number true x y = refl
cond_number false x y = refl

-- the set of dates
set_number : (a : Answer) (k : ℕ) (x : Dates) → ((q : Refusal) → a ≡ Err q → eqb q.number 0 ≡ false) →
    (refusal_in (set_by a k x)).number ≡ cond (eqb (refusal_in a).number 0) k (refusal_in a).number
set_number (Err q) k x h = rw (h q refl)
set_number (Ok n) k x h = ⊎_elim (λ (t : eqb k 0 ≡ true). rw t (sym (eqb-true _ _ t))) (λ (t : eqb k 0 ≡ false). rw t) (bool_cases (eqb k 0))

pub dates_first : (p : List ℕ) (start pack : ℕ) (out : Bool) (x : Dates) → (refusal_in (set_by (verdict_of p) (asked_by start pack out 0) x)).number ≡ first_given (given_by_dates p start pack out) dates_order
unfolding first_given chain asked_by
dates_first p start pack out x = set_number (verdict_of p) (asked_by start pack out 0) x (broken_number p) ∙ sym (passed_on_lem p (asked_by start pack out 0))

-- supply
module _ (p : List ℕ) (start pack choice : ℕ) (out : Bool) (ps : List Pause) where
  judged_number : (refusal_in (judged_of p start pack choice out ps)).number ≡ supplyRefusedBy start pack choice out (has_stop choice p) (stop_day choice p)
  unfolding judged_of
  judged_number =
      let k = supplyRefusedBy start pack choice out (has_stop choice p) (stop_day choice p) in
      ⊎_elim
      (λ (t : eqb k 0 ≡ true). rw t (sym (eqb-true _ _ t)))
      (λ (t : eqb k 0 ≡ false). rw t)
      (bool_cases (eqb k 0))

  pub supply_first : (refusal_in (passed_on (verdict_of p) (judged_of p start pack choice out ps))).number ≡ first_given (given_by_supply p start pack choice out) supply_order
  unfolding first_given chain asked_by own_by
  supply_first =
      supply_number (verdict_of p) (judged_of p start pack choice out ps) (broken_number p) ∙
      rw judged_number (sym (passed_on_lem p (supplyRefusedBy start pack choice out (has_stop choice p) (stop_day choice p))))

-- split
pub split_first : (p fixed need : List ℕ) → (refusal_in (split_of p fixed need)).number ≡ first_given (given_by_split p fixed need) split_order
unfolding split_of first_given chain
split_first p fixed need =
    split_number (verdict_of p) p fixed need (broken_number p) ∙ sym (passed_on_lem p (cond (too_small fixed need) 25 0))

-- the register
answered_number : (r : List ℕ) (c : Call) → (answered r c).refusal.number ≡ (refused_by r c).number
unfolding answered
answered_number r c =
    ⊎_elim
    (λ (t : is_done (refused_by r c) ≡ true). rw t (given_done c ∙ sym (eqb-true _ _ t)))
    (λ (t : is_done (refused_by r c) ≡ false). rw t)
    (bool_cases (is_done (refused_by r c)))
  where
    given_done : (c : Call) → (given r c).refusal.number ≡ 0
    given_done clear = unfold given in refl
    given_done (submit p) = unfold given in refl
    given_done (sign signer p) = unfold given in refl
    given_done (release n room) = unfold given in refl
    given_done (drop n) = unfold given in refl
    given_done (state n) = unfold given in refl

-- four tests, one behind the other
four_number : (a b c d : ℕ) (s t u v : Bool) →
    (cond s (alone a) (cond t (alone b) (cond u (alone c) (cond v (alone d) (alone 0))))).number ≡ cond s a (cond t b (cond u c (cond v d 0)))
four_number a b c d true t u v = refl
four_number a b c d false true u v = refl
four_number a b c d false false true v = refl
four_number a b c d false false false true = refl
four_number a b c d false false false false = refl

-- and two
two_number : (a b : ℕ) (s t : Bool) → (cond s (alone a) (cond t (alone b) (alone 0))).number ≡ cond s a (cond t b 0)
two_number a b true t = refl
two_number a b false true = refl
two_number a b false false = refl

pub register_first : (r : List ℕ) (c : Call) → (answered r c).refusal.number ≡ first_given (given_by_call r c) (order_of c)
unfolding refused_by first_given chain
register_first r clear = answered_number r clear ∙ choice (ltb 0 (slots_of r))
  where
    choice : (t : Bool) → (cond t (alone 0) (alone 30)).number ≡ cond (not t) 30 0
    choice true = refl
    choice false = refl
register_first r (submit p) =
    answered_number r (submit p) ∙
    cond_number (not (sound r)) (alone 30) _ ∙
    ap (λ (k : ℕ). cond (not (sound r)) 30 k)
    (unless_number (verdict_of p) _ (broken_number p) ∙
    rw (two_number 32 31 (is_stale r p) (is_full r p))
    (sym (passed_on_lem p (cond (is_stale r p) 32 (cond (is_full r p) 31 0)))))
register_first r (sign signer p) =
    let n = plan_number_of p in
    let slot = slot_under r n in
    answered_number r (sign signer p) ∙
    cond_number (not (sound r)) (alone 30) _ ∙
    ap (λ (k : ℕ). cond (not (sound r)) 30 k)
    (cond_number (eqb signer 0) (alone 35) _ ∙
    ap (λ (k : ℕ). cond (eqb signer 0) 35 k)
    (unless_number (verdict_of p) _ (broken_number p) ∙
    rw (four_number 33 34 37 36 (not (is_held r n)) (not (same p (plan_under r n))) (not (eqb (second_signer slot) 0)) (eqb (first_signer slot) signer))
    (sym (passed_on_lem p (cond (not (is_held r n)) 33 (cond (not (same p (plan_under r n))) 34 (cond (not (eqb (second_signer slot) 0)) 37 (cond (eqb (first_signer slot) signer) 36 0))))))))
register_first r (release n room) =
    answered_number r (release n room) ∙
    four_number 30 39 33 38 (not (sound r)) (ltb (length room) room_size) (not (is_held r n)) (eqb (second_signer (slot_under r n)) 0)
register_first r (drop n) = answered_number r (drop n) ∙ two_number 30 33 (not (sound r)) (not (is_held r n))
register_first r (state n) = answered_number r (state n) ∙ two_number 30 33 (not (sound r)) (not (is_held r n))
