-- Of which period whole rounds may be taken on a day, pauses apart, and up to which day. Assumes nothing.
use Prim.Native.Nat.{ℕ, ◌+◌, ◌≤◌, ◌<◌}
use mathlib.Core.Bool.{Bool, true, false, cond, not, ◌&&◌}
use mathlib.Core.List.{List}
use mathlib.Core.Logic.{⊎_elim}
use mathlib.Core.Path.{◌≡◌, refl, sym, ap, subst, ◌∙◌}
use native.Mathlib.Nat.{eq-or-lt_of_le}
use native.Mathlib.Omega.{arith}
use lib.Dec.{eqb, leb, ltb}
use borrow.Author.Tests.{eqb-true, eq-eqb, ne_eqb, ltb-true, lt-ltb, le-leb, lt-leb, leb-true, not-true, not-false}
use Rattle.below.proofs.Search.{first_is, first_none, first_same, first_facts, any_not, any_none, any_hit, any_same}
use Rattle.below.proofs.Tests.{bool_cases, and_both, and_false, true_not_false, le_or_lt, same_or_not}
use Rattle.below.specs.Below.{any_below}
use Rattle.doses.specs.Doses.{covers}
use Rattle.need.specs.Need.{due_on}
use Rattle.plan.specs.Fields.{interval_of, first_of, last_of}
use Rattle.plan.specs.Periods.{blocks_of, block_at, is_period}
use Rattle.supply.specs.Covered.{summed}
use Rattle.supply.specs.Steps.{is_chosen, has_other, is_alone}
use Rattle.supply.specs.Code.Standing.{Orderly, Counts, period_of, period_at, kept_of, free_of, need_of, round_need, need_in, alone_on, Rounded, Steady, Next}
use Rattle.supply.specs.Code.Surveying.{Flag}
use Rattle.std.specs.Prelude.{Option, Some, None, MatchOption, IfSome}
use Rattle.std.specs.Option.{option_or}
use Rattle.supply.specs.declared.place.Period.{Period}
use Rattle.supply.specs.declared.rounds.Round.{Round}
use Rattle.supply.proofs.Accepted.{covers_period, covers_begun}
use Rattle.supply.proofs.Covering.{summed_one}
use Rattle.supply.proofs.WholeRounds.{idle_need, alone_need, one_round}

-- a period that is kept only if it has doses of the choice needs what it needs
module _ {choice : ℕ} {p : List ℕ} {b : ℕ} {k : Bool} (x : Flag choice p (blocks_of p) b k) where
  pub kept_none : blocks_of p ≤ b → (e : ℕ) → need_in choice p (kept_of (period_at p b) k) e ≡ 0
  kept_none l e = rw (x.none l)

  pub kept_some : b < blocks_of p → (e : ℕ) → need_in choice p (kept_of (period_at p b) k) e ≡ need_of choice p b e
  kept_some l e =
      ⊎_elim
      (λ (u : k ≡ true). rw (u, lt-ltb b (blocks_of p) l))
      (λ (u : k ≡ false). rw u (sym (idle_need choice p b (sym (x.is l) ∙ u) e)))
      (bool_cases k)

-- two days in the same periods are alone in the same ones
module _ (choice : ℕ) (p : List ℕ) (d e : ℕ) (same : (a : ℕ) → a < blocks_of p → covers p e a ≡ covers p d a) where
  other_same : (b : ℕ) → has_other choice p b e ≡ has_other choice p b d
  unfolding has_other
  other_same b = any_same _ _ (blocks_of p) (λ a l. rw (same a l))

  alone_same : (b : ℕ) → b < blocks_of p → is_alone choice p b e ≡ is_alone choice p b d
  alone_same b l = rw (same b l, other_same b)

  on_same : alone_on choice p e ≡ alone_on choice p d
  on_same = first_same _ _ (blocks_of p) (λ b l. rw (alone_same b l))

-- a day is alone in a period
pub alone_period : (choice : ℕ) (p : List ℕ) (b d : ℕ) → is_alone choice p b d ≡ true → is_period p b ≡ true
alone_period choice p b d t = covers_period p d b (and_both (covers p d b) _ t).0

module _ (choice : ℕ) (p : List ℕ) (o : Orderly choice p) where
  -- the period of whole rounds is one of the plan's
  pub on_within : {d : ℕ} {r : Round} → Rounded choice p d r → 0 < r.interval → alone_on choice p d < blocks_of p
  on_within {d} {r} k i =
      ⊎_elim
      (λ (e : alone_on choice p d ≡ blocks_of p). absurd (let z : r.interval ≡ 0 = k.interval_is ∙ rw e o.ends in omega arith))
      (λ l. l)
      (eq-or-lt_of_le (first_facts _ (blocks_of p)).within)

  -- a later day in the same periods has the same rounds
  pub rounded_later : {d e u : ℕ} {r : Round} → Rounded choice p d r → ((a : ℕ) → a < blocks_of p → Steady (λ f. covers p f a) d u) → d ≤ e → e ≤ u → Rounded choice p e r
  rounded_later {d} {e} {u} {r} k w l h =
      let s = on_same choice p d e (λ a z. w a z e l h) in
      record {
        interval_is = k.interval_is ∙ rw s;
        need_is = λ i. k.need_is i ∙ rw s;
        reach =
            λ i.
            let q = k.reach i in
            rw s
            (record {
              reached =
                  ⊎_elim
                  (λ z. z)
                  (λ (z : r.until < e).
                  absurd (true_not_false
                  (alone_same choice p d (r.until + 1) (λ a y. w a y (r.until + 1) (omega (arith, q.reached)) (omega arith)) (alone_on choice p d) (on_within k i) ∙ q.all d (omega arith) q.reached)
                  q.next))
                  (le_or_lt e r.until);
              all = λ f m z. q.all f (omega arith) z;
              next = q.next;
            });
      }

-- a period with doses of the choice that has the day is the one of the rounds, if there are any
module _ {choice : ℕ} {p : List ℕ} {d b : ℕ} {k : Bool} {r : Round} (x : Flag choice p (blocks_of p) b k) (has : b < blocks_of p → covers p d b ≡ true) (rounded : Rounded choice p d r) (i : 0 < r.interval) where
  kept_within : k ≡ true → b < blocks_of p
  kept_within a = ⊎_elim (λ (l : blocks_of p ≤ b). absurd (true_not_false a (x.none l))) (λ l. l) (le_or_lt (blocks_of p) b)

  pub kept_chosen : k ≡ true → is_chosen choice p b ≡ true
  kept_chosen a = sym (x.is (kept_within a)) ∙ a

  pub kept_on : k ≡ true → b ≡ alone_on choice p d
  unfolding has_other
  kept_on a =
      let q = rounded.reach i in
      let n = not-true _ (and_both (covers p d (alone_on choice p d)) _ (q.all d (omega arith) q.reached)).1 in
      let z = rw (has (kept_within a), kept_chosen a) at (any_not (λ (c : ℕ). not (eqb c (alone_on choice p d)) && (covers p d c && is_chosen choice p c)) n b (kept_within a)) in
      eqb-true b _ (bare (eqb b (alone_on choice p d)) z)
    where
      bare : (t : Bool) → (not t && true) ≡ false → t ≡ true
      bare true e = refl
      bare false e = absurd (true_not_false refl e)

  pub whose : IfSome (kept_of (period_at p b) k) (λ t. t.interval ≡ r.interval)
  whose =
      ⊎_elim
      (λ (a : k ≡ true). rw (a, lt-ltb b (blocks_of p) (kept_within a)) (rw (kept_on a) (sym rounded.interval_is)))
      (λ (a : k ≡ false). rw a tt)
      (bool_cases k)

-- a day is not alone in a period where another one with doses of the choice has it
crowded : (choice : ℕ) (p : List ℕ) (d a b : ℕ) → b < blocks_of p → (b ≡ a → ⊥) → covers p d b ≡ true → is_chosen choice p b ≡ true → is_alone choice p a d ≡ false
unfolding has_other
crowded choice p d a b l n c v = rw (any_hit (λ (k : ℕ). not (eqb k a) && (covers p d k && is_chosen choice p k)) l (rw (ne_eqb b a n, c, v)), and_false (covers p d a))

-- rounds of a period with doses of the choice are the same on each day that is in no other: none that comes or goes is iterated and alone
module _ (choice : ℕ) (p : List ℕ) (o : Orderly choice p) {d : ℕ} {r : Round} (k : Rounded choice p d r) (i : 0 < r.interval) (v : is_chosen choice p (alone_on choice p d) ≡ true) where
  own_on : (e : ℕ) → d ≤ e → e ≤ r.until → alone_on choice p e ≡ alone_on choice p d
  own_on e l h =
      let q = (k.reach i).all e l h in
      let w = on_within choice p o k i in
      let c = (and_both (covers p e (alone_on choice p d)) _ q).0 in
      first_is (λ (b : ℕ). ltb 0 (interval_of (block_at p b)) && is_alone choice p b e) w
      (λ j m. rw (crowded choice p e j (alone_on choice p d) w (λ z. omega arith) c v, and_false (ltb 0 (interval_of (block_at p j)))))
      (rw (← k.interval_is, lt-ltb 0 r.interval i, q))

  pub own_rounded : (e : ℕ) → d ≤ e → e ≤ r.until → Rounded choice p e r
  own_rounded e l h =
      let s = own_on e l h in
      let q = k.reach i in
      record {
        interval_is = k.interval_is ∙ rw s;
        need_is = λ z. k.need_is z ∙ rw s;
        reach = λ z. rw s (record { reached = h; all = λ f m y. q.all f (omega arith) y; next = q.next });
      }

  pub own_need : (e : ℕ) → d ≤ e → e ≤ r.until → due_on choice p e ≡ need_of choice p (alone_on choice p d) e
  own_need e l h = alone_need choice p (alone_on choice p d) e o.few ((k.reach i).all e l h) (on_within choice p o k i)

-- in rounds of one day a round needs what the day needs
due_round : (choice : ℕ) (p : List ℕ) → Orderly choice p → (b d : ℕ) → b < blocks_of p → is_alone choice p b d ≡ true → interval_of (block_at p b) ≡ 1 → due_on choice p d ≡ round_need choice p b
due_round choice p o b d l a i =
    let some : 0 < interval_of (block_at p b) = omega (arith, i) in
    let begun = covers_begun p d b (and_both (covers p d b) _ a).0 in
    let q = subst (λ (k : ℕ). summed (need_of choice p b) d k ≡ round_need choice p b) i (one_round choice p b some (o.rounds b l (alone_period choice p b d a) some) d begun) in
    alone_need choice p b d o.few a l ∙ sym (summed_one (need_of choice p b) d) ∙ q

-- whole rounds of the period t may be taken: it is one of the plan's, and the first that has the day and is alone
pub record Free (choice : ℕ) (p : List ℕ) (d : ℕ) (t : Period) : Type 0 where
  pub is : t ≡ period_of p t.b
  pub within : t.b < blocks_of p
  pub on : alone_on choice p d ≡ t.b
  pub alone : is_alone choice p t.b d ≡ true

-- of a period, or of none
abbrev pub FreeOn : ℕ → List ℕ → ℕ → Option Period → Type 0
FreeOn choice p d t = MatchOption t (alone_on choice p d ≡ blocks_of p) (Free choice p d)

-- what its rounds need can be counted
pub counts_free : (choice : ℕ) (p : List ℕ) (d : ℕ) → Orderly choice p → (t : Option Period) → FreeOn choice p d t → {due : ℕ} → due ≡ due_on choice p d → IfSome t (λ t. Counts choice p t due)
counts_free choice p d o None f z = tt
counts_free choice p d o (Some t) f z =
    let i : t.interval ≡ interval_of (block_at p t.b) = ap (λ (x : Period). x.interval) f.is in
    record {
      small = o.small t.b f.within (alone_period choice p t.b d f.alone);
      all = ap (λ (x : Period). x.doses) f.is;
      day = λ n. z ∙ due_round choice p o t.b d f.within f.alone (sym i ∙ n);
    }

-- ---- the one or two periods that have a day, at blocks b and c
module _ (choice : ℕ) (p : List ℕ) (o : Orderly choice p) (d : ℕ) {b c : ℕ} (first : Next p d 0 b) (second : Next p d (b + 1) c) {k m : Bool} (one : Flag choice p (blocks_of p) b k) (other : Flag choice p (blocks_of p) c m) where
  -- no third one has it
  either : (a : ℕ) → a < blocks_of p → (a ≡ b → ⊥) → (a ≡ c → ⊥) → covers p d a ≡ false
  either a l x y =
      ⊎_elim
      (λ (h : b ≤ a).
      ⊎_elim
      (λ (g : c ≤ a). o.two d b c a (omega (arith, second.behind)) (omega (arith, y)) l (first.here (omega arith)) (second.here (omega arith)))
      (λ (g : a < c). second.before a (omega (arith, x)) g)
      (le_or_lt c a))
      (λ (h : a < b). first.before a (omega arith) h)
      (le_or_lt b a)

  -- one of the two is alone where the other has no doses of the choice
  alone_if : (x y : ℕ) → x < blocks_of p → covers p d x ≡ true → ((a : ℕ) → a < blocks_of p → (a ≡ x → ⊥) → (a ≡ y → ⊥) → covers p d a ≡ false) → (y < blocks_of p → is_chosen choice p y ≡ false) → is_alone choice p x d ≡ true
  unfolding has_other
  alone_if x y l has e f =
      let n : any_below (blocks_of p) (λ a. not (eqb a x) && (covers p d a && is_chosen choice p a)) ≡ false =
      any_none _
      (λ a q.
      ⊎_elim
      (λ (z : a ≡ x). rw (eq-eqb a x z))
      (λ (z : (a ≡ x → ⊥)).
      ⊎_elim
      (λ (v : covers p d a ≡ true).
      ⊎_elim
      (λ (w : a ≡ y). rw (ne_eqb a x z, v) (rw w (f (rw w at q))))
      (λ (w : (a ≡ y → ⊥)). absurd (true_not_false v (e a q z w)))
      (same_or_not a y))
      (λ (v : covers p d a ≡ false). rw (ne_eqb a x z, v))
      (bool_cases (covers p d a)))
      (same_or_not a x)) in
      rw (has, n)

  apart : c ≡ b → ⊥
  apart e = omega (arith, second.behind)

  alone_one : b < blocks_of p → m ≡ false → is_alone choice p b d ≡ true
  alone_one l f = alone_if b c l (first.here l) either (λ q. sym (other.is q) ∙ f)

  alone_other : c < blocks_of p → k ≡ false → is_alone choice p c d ≡ true
  alone_other l f = alone_if c b l (second.here l) (λ a q x y. either a q y x) (λ q. sym (one.is q) ∙ f)

  abbrev test : ℕ → Bool
  test a = ltb 0 (interval_of (block_at p a)) && is_alone choice p a d

  -- no other block passes
  test_out : (a : ℕ) → a < blocks_of p → (a ≡ b → ⊥) → (a ≡ c → ⊥) → test a ≡ false
  test_out a l x y = rw (either a l x y, and_false (ltb 0 (interval_of (block_at p a))))

  -- which of the two is free
  abbrev is_free : ℕ → Bool → Bool
  is_free a crowd = ltb a (blocks_of p) && (ltb 0 (interval_of (block_at p a)) && not crowd)

  free_at : (a : ℕ) (crowd : Bool) → free_of (period_at p a) crowd ≡ cond (is_free a crowd) (Some (period_of p a)) None
  free_at a crowd = ⊎_elim (λ (t : ltb a (blocks_of p) ≡ true). rw t) (λ (t : ltb a (blocks_of p) ≡ false). rw t) (bool_cases (ltb a (blocks_of p)))

  -- one fails where it is not iterated, or the other has doses of the choice
  test_one : b < blocks_of p → is_free b m ≡ false → test b ≡ false
  test_one l f =
      ⊎_elim
      (λ (t : ltb 0 (interval_of (block_at p b)) ≡ true).
      let h : m ≡ true = not-false _ (rw (lt-ltb b (blocks_of p) l, t) at f) in
      ⊎_elim
      (λ (z : blocks_of p ≤ c). absurd (true_not_false h (other.none z)))
      (λ (z : c < blocks_of p). rw (crowded choice p d b c z apart (second.here z) (sym (other.is z) ∙ h), and_false (ltb 0 (interval_of (block_at p b)))))
      (le_or_lt (blocks_of p) c))
      (λ (t : ltb 0 (interval_of (block_at p b)) ≡ false). rw t)
      (bool_cases (ltb 0 (interval_of (block_at p b))))

  test_other : c < blocks_of p → is_free c k ≡ false → test c ≡ false
  test_other l f =
      let q : b < blocks_of p = omega (arith, second.behind) in
      ⊎_elim
      (λ (t : ltb 0 (interval_of (block_at p c)) ≡ true).
      let h : k ≡ true = not-false _ (rw (lt-ltb c (blocks_of p) l, t) at f) in
      rw (crowded choice p d c b q (λ e. apart (sym e)) (first.here q) (sym (one.is q) ∙ h), and_false (ltb 0 (interval_of (block_at p c)))))
      (λ (t : ltb 0 (interval_of (block_at p c)) ≡ false). rw t)
      (bool_cases (ltb 0 (interval_of (block_at p c))))

  -- so the rounds are those of the first, of the second, or there are none
  free_one : is_free b m ≡ true → Free choice p d (period_of p b)
  free_one t =
      let x = and_both (ltb b (blocks_of p)) _ t in
      let y = and_both (ltb 0 (interval_of (block_at p b))) _ x.1 in
      let l = ltb-true b (blocks_of p) x.0 in
      let a = alone_one l (not-true m y.1) in
      record {
        is = refl;
        within = l;
        on = first_is test l (λ j q. test_out j (omega arith) (λ e. omega arith) (λ e. omega (arith, second.behind))) (rw (y.0, a));
        alone = a;
      }

  free_other : is_free b m ≡ false → is_free c k ≡ true → Free choice p d (period_of p c)
  free_other n t =
      let x = and_both (ltb c (blocks_of p)) _ t in
      let y = and_both (ltb 0 (interval_of (block_at p c))) _ x.1 in
      let l = ltb-true c (blocks_of p) x.0 in
      let a = alone_other l (not-true k y.1) in
      record {
        is = refl;
        within = l;
        on =
            first_is test l
            (λ j q.
            ⊎_elim
            (λ (e : j ≡ b). rw e (test_one (omega (arith, second.behind)) n))
            (λ (e : (j ≡ b → ⊥)). test_out j (omega arith) e (λ z. omega arith))
            (same_or_not j b))
            (rw (y.0, a));
        alone = a;
      }

  free_none : is_free b m ≡ false → is_free c k ≡ false → alone_on choice p d ≡ blocks_of p
  free_none x y =
      first_none test (blocks_of p)
      (λ j q.
      ⊎_elim
      (λ (e : j ≡ b). rw e (test_one (rw e at q) x))
      (λ (e : (j ≡ b → ⊥)).
      ⊎_elim (λ (z : j ≡ c). rw z (test_other (rw z at q) y)) (λ (z : (j ≡ c → ⊥)). test_out j q e z) (same_or_not j c))
      (same_or_not j b))

  pub free_on : FreeOn choice p d (option_or (free_of (period_at p b) m) (free_of (period_at p c) k))
  free_on =
      rw (free_at b m, free_at c k)
      (⊎_elim
      (λ (x : is_free b m ≡ true). rw x (free_one x))
      (λ (x : is_free b m ≡ false).
      ⊎_elim (λ (y : is_free c k ≡ true). rw (x, y) (free_other x y)) (λ (y : is_free c k ≡ false). rw (x, y) (free_none x y)) (bool_cases (is_free c k)))
      (bool_cases (is_free b m)))

-- ---- up to which day the days are alone
-- a period has the days from its first to its last
module _ (p : List ℕ) (d b : ℕ) (c : covers p d b ≡ true) where
  pub covers_span : (first_of (block_at p b) ≤ d) × (d ≤ last_of (block_at p b))
  covers_span =
      let z = and_both (leb (first_of (block_at p b)) d) _ (and_both (is_period p b) _ c).1 in
      (leb-true _ _ z.0, leb-true _ _ z.1)

  pub covers_all : (e : ℕ) → d ≤ e → e ≤ last_of (block_at p b) → covers p e b ≡ true
  covers_all e l h = rw (covers_period p d b c, le-leb (first_of (block_at p b)) e (omega (arith, covers_span.0)), le-leb e (last_of (block_at p b)) h)

module _ (p : List ℕ) (e b : ℕ) where
  pub covers_past : last_of (block_at p b) < e → covers p e b ≡ false
  covers_past l = rw (lt-leb e (last_of (block_at p b)) l, and_false (leb (first_of (block_at p b)) e), and_false (is_period p b))

module _ (choice : ℕ) (p : List ℕ) (b : ℕ) where
  -- the period at block c has day e, has doses of the choice, and is another
  abbrev pub is_in : ℕ → ℕ → Bool
  is_in e c = not (eqb c b) && (covers p e c && is_chosen choice p c)
