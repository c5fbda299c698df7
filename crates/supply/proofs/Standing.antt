-- What the walk keeps from day to day: while the periods stay, a day needs what the periods that have it need at its positions there.
-- Assumes nothing.
use Prim.Native.Nat.{ℕ, ◌+◌, ◌-◌, ◌*◌, ◌≤◌, ◌<◌}
use mathlib.Core.Bool.{Bool, true, false, cond, ◌&&◌, ◌||◌}
use mathlib.Core.List.{List}
use mathlib.Core.Logic.{⊎_elim}
use mathlib.Core.Path.{◌≡◌, refl, sym, ap, subst, ◌∙◌}
use native.Mathlib.Omega.{arith}
use lib.Dec.{ltb}
use borrow.Author.Tests.{eqb-true, ltb-true}
use Rattle.below.proofs.Tests.{bool_cases, and_both, le_or_lt}
use Rattle.below.proofs.Total.{sum_zero, sum_more}
use Rattle.below.specs.Below.{sum_below}
use Rattle.doses.specs.Doses.{covers, position_of}
use Rattle.need.specs.Need.{due_on}
use Rattle.plan.specs.Fields.{interval_of, header_of}
use Rattle.plan.specs.Periods.{blocks_of, block_at}
use Rattle.supply.specs.Code.Standing.{Orderly, need_at, need_of, is_still, Placed, Moved, Stands, period_at, kept_of, alone_on, need_in, Rounded, Known, Behind, Steady, Next}
use Rattle.supply.specs.Steps.{is_chosen}
use Rattle.supply.specs.Code.Surveying.{Flag}
use Rattle.std.specs.Prelude.{Option, Some, None, IfSome, is_some}
use Rattle.day.specs.Days.{last_number}
use Rattle.supply.specs.declared.place.Period.{Period}
use Rattle.supply.specs.declared.place.Place.{Place}
use Rattle.supply.specs.declared.rounds.Round.{Round}
use Rattle.supply.specs.declared.today.Today.{Today}
use Rattle.supply.proofs.Placing.{position_behind_lem, position_small}
use Rattle.supply.proofs.Range.{sum_flat, sum_none, plan_sum, need_small}
use Rattle.supply.proofs.WholeRounds.{position_rounds}
use Rattle.supply.proofs.Clearing.{kept_none, kept_some, on_within, rounded_later, kept_chosen, kept_on, whose, own_rounded, own_need}

-- the first b terms are none but those of f b, if there is one
sum_next : (f : ℕ → ℕ) (m n b : ℕ) → m ≤ b → b < n → ((k : ℕ) → m ≤ k → k < b → f k ≡ 0) → sum_below (b + 1) f ≡ sum_below m f + f b
sum_next f m n b l h z =
    let e : m + (b - m) ≡ b = omega arith in
    let s = rw e at (sum_flat f m (b - m) (λ k a c. z k a (omega arith))) in
    omega (arith, sum_more f b)

sum_end : (f : ℕ → ℕ) (m n : ℕ) → m ≤ n → ((k : ℕ) → m ≤ k → k < n → f k ≡ 0) → sum_below n f ≡ sum_below m f
sum_end f m n l z = let e : m + (n - m) ≡ n = omega arith in rw e at (sum_flat f m (n - m) (λ k a c. z k a (omega arith)))

-- a period that is kept has doses of the choice
kept_flag : (t : Option Period) (k : Bool) → is_some (kept_of t k) ≡ true → k ≡ true
kept_flag t true e = refl
kept_flag t false e = e

-- the days from d to u have the periods of day d, which begin at blocks b and c, if there are such blocks
module _ (choice : ℕ) (p : List ℕ) (o : Orderly choice p) {d u b c : ℕ} (r : d ≤ u) (w : (k : ℕ) → k < blocks_of p → Steady (λ e. covers p e k) d u) (first : Next p d 0 b) (second : Next p d (b + 1) c) where
  module _ (e : ℕ) (l : d ≤ e) (h : e ≤ u) where
    -- what block k adds to day e
    abbrev term : ℕ → ℕ
    term k = cond (covers p e k) (need_of choice p k e) 0

    -- all blocks together
    due_sum : due_on choice p e ≡ sum_below (blocks_of p) term
    due_sum = plan_sum choice p e (omega (arith, o.few))

    out : (k : ℕ) → k < blocks_of p → covers p d k ≡ false → term k ≡ 0
    out k m f = let t : covers p e k ≡ false = w k m e l h ∙ f in rw t

    has : (k : ℕ) → k < blocks_of p → covers p d k ≡ true → term k ≡ need_of choice p k e
    has k m f = let t : covers p e k ≡ true = w k m e l h ∙ f in rw t

    -- neither, one of them, or both
    sum_neither : blocks_of p ≤ b → due_on choice p e ≡ 0
    sum_neither m = due_sum ∙ sum_none term (blocks_of p) (λ k q. out k q (first.before k (omega arith) (omega arith)))

    to_first : b < blocks_of p → sum_below (b + 1) term ≡ need_of choice p b e
    to_first m =
        omega (
          arith,
          sum_next term 0 (blocks_of p) b (omega arith) m (λ k q r. out k (omega arith) (first.before k q r)),
          sum_zero term,
          has b m (first.here m),
        )

    sum_one : b < blocks_of p → blocks_of p ≤ c → due_on choice p e ≡ need_of choice p b e
    sum_one m n = due_sum ∙ sum_end term (b + 1) (blocks_of p) (omega arith) (λ k q r. out k r (second.before k q (omega arith))) ∙ to_first m

    sum_both : b < blocks_of p → c < blocks_of p → due_on choice p e ≡ need_of choice p b e + need_of choice p c e
    sum_both m n =
        let i : b < c = omega (arith, second.behind) in
        let s = sum_end term (c + 1) (blocks_of p) (omega arith) (λ k q r. out k r (o.two d b c k i (omega arith) r (first.here m) (second.here n))) in
        let t = sum_next term (b + 1) (blocks_of p) c second.behind n (λ k q r. out k (omega arith) (second.before k q r)) in
        due_sum ∙ omega (arith, to_first m, has c n (second.here n))

  -- so the two periods have what the days need
  module _ {i j : Bool} (x : Flag choice p (blocks_of p) b i) (y : Flag choice p (blocks_of p) c j) where
    abbrev one : Option Period
    one = kept_of (period_at p b) i

    abbrev other : Option Period
    other = kept_of (period_at p c) j

    pub sum_is : (e : ℕ) → d ≤ e → e ≤ u → due_on choice p e ≡ need_in choice p one e + need_in choice p other e
    sum_is e l h =
        ⊎_elim
        (λ (m : blocks_of p ≤ b).
        omega (arith, sum_neither e l h m, kept_none x m e, kept_none y (omega (arith, second.behind)) e))
        (λ (m : b < blocks_of p).
        ⊎_elim
        (λ (n : blocks_of p ≤ c). omega (arith, sum_one e l h m n, kept_some x m e, kept_none y n e))
        (λ (n : c < blocks_of p). omega (arith, sum_both e l h m n, kept_some x m e, kept_some y n e))
        (le_or_lt (blocks_of p) c))
        (le_or_lt (blocks_of p) b)

    -- and so they have with rounds of one of them that has doses of the choice, as far as the days are in no other such period
    own_sum : {r : Round} → Rounded choice p d r → 0 < r.interval → (is_some one || is_some other) ≡ true → ((e : ℕ) → d ≤ e → e ≤ r.until → (due_on choice p e ≡ need_in choice p one e + need_in choice p other e) × Rounded choice p e r)
    own_sum {r} k some t =
        ⊎_elim
        (λ (s : i ≡ true).
        let z = kept_on x first.here k some s in
        let v : is_chosen choice p (alone_on choice p d) ≡ true = rw (← z) (kept_chosen x first.here k some s) in
        let m : b < blocks_of p = rw z (on_within choice p o k some) in
        λ e l h.
        let q : need_in choice p other e ≡ 0 =
        ⊎_elim
        (λ (n : j ≡ true). absurd (omega (arith, z, kept_on y second.here k some n, second.behind)))
        (λ (n : j ≡ false). rw n)
        (bool_cases j) in
        (omega (arith, own_need choice p o k some v e l h, ap (λ (a : ℕ). need_of choice p a e) z, kept_some x m e), own_rounded choice p o k some v e l h))
        (λ (s : i ≡ false).
        let n : j ≡ true = kept_flag (period_at p c) j (rw s at t) in
        let z = kept_on y second.here k some n in
        let v : is_chosen choice p (alone_on choice p d) ≡ true = rw (← z) (kept_chosen y second.here k some n) in
        let m : c < blocks_of p = rw z (on_within choice p o k some) in
        λ e l h.
        let q : need_in choice p one e ≡ 0 = rw s in
        (omega (arith, own_need choice p o k some v e l h, ap (λ (a : ℕ). need_of choice p a e) z, kept_some y m e), own_rounded choice p o k some v e l h))
        (bool_cases i)

    -- either way it is known how far
    pub known_on_day : {t v : ℕ} {f g : Place} {r : Round} → t ≡ cond ((is_some one || is_some other) && ltb 0 r.interval) r.until u → v ≡ cond (is_still one && is_still other) t d → Stands choice p d one f → Stands choice p d other g → Rounded choice p d r →
        Known choice p d (record { until = t; same = v; rounds = r; first = one; second = other; in_first = f; in_second = g })
    known_on_day {t} {v} {f} {g} {r = a} far q m n k =
        let z : (d ≤ t) × ((e : ℕ) → d ≤ e → e ≤ t → (due_on choice p e ≡ need_in choice p one e + need_in choice p other e) × Rounded choice p e a) =
        ⊎_elim
        (λ (s : ((is_some one || is_some other) && ltb 0 a.interval) ≡ true).
        let y = and_both (is_some one || is_some other) (ltb 0 a.interval) s in
        let some = ltb-true 0 a.interval y.1 in
        let w : t ≡ a.until = rw s at far in
        rw w ((k.reach some).reached, own_sum k some y.0))
        (λ (s : ((is_some one || is_some other) && ltb 0 a.interval) ≡ false).
        let e : t ≡ u = rw s at far in
        rw e (r, λ e l h. (sum_is e l h, rounded_later choice p o k w l h)))
        (bool_cases ((is_some one || is_some other) && ltb 0 a.interval)) in
        record {
          reached = z.0;
          still =
              λ l.
              and_both _ _
              (⊎_elim
              (λ s. s)
              (λ (s : (is_still one && is_still other) ≡ false). absurd (let y = rw s at q in omega arith))
              (bool_cases (is_still one && is_still other)));
          first = m;
          second = n;
          sum = λ e l h. (z.1 e l h).0;
          rounded = λ e l h. (z.1 e l h).1;
          whose = λ s. (whose x first.here k s, whose y second.here k s);
        }

-- what is due at a place is what its period needs on the day, and is small
module _ (choice : ℕ) (p : List ℕ) (d : ℕ) (s : Place) where
  pub stands_due : (t : Option Period) → Stands choice p d t s → s.due ≡ need_in choice p t d
  stands_due None w = w
  stands_due (Some t) w = w.placed.due_is ∙ ap (need_at choice p t.b) w.position_is

  pub stands_small : (t : Option Period) → Stands choice p d t s → s.due ≤ 12799999998720
  stands_small None w = omega (arith, w)
  stands_small (Some t) w = omega (arith, w.placed.due_is, need_small choice p t.b s.position w.placed.small)

  -- positions are small
  pub stands_low : (t : Option Period) → d ≤ last_number → Stands choice p d t s → IfSome t (λ t. Placed choice p t s × (s.position ≤ last_number + 1))
  stands_low None l w = tt
  stands_low (Some t) l w = (w.placed, omega (arith, w.position_is, position_small (block_at p t.b) d))

  -- a day later
  pub stands_on : (t : Option Period) (r : Place) → Stands choice p d t s → Moved choice p t s r → Stands choice p (d + 1) t r
  stands_on None r w m = ap (λ (z : Place). z.due) m ∙ w
  stands_on (Some t) r w m =
      record {
        placed = m.0;
        position_is = m.1 ∙ rw (w.placed.interval_is, w.position_is) (sym (position_behind_lem (block_at p t.b) d w.began));
        began = omega (arith, w.began);
      }

  -- in rounds of one day, and where there is no period, the place stays
  stands_still : (t : Option Period) → Stands choice p d t s → is_still t ≡ true → Moved choice p t s s
  unfolding position_of
  stands_still None w h = refl
  stands_still (Some t) w h =
      let i : t.interval ≡ 1 = eqb-true _ _ h in
      let j : interval_of (block_at p t.b) ≡ 1 = sym w.placed.interval_is ∙ i in
      let x : s.position ≡ 1 = w.position_is ∙ rw j (omega arith) in
      (w.placed, rw (i, x))

  -- whole rounds later too
  stands_rounds : (t : Option Period) (n : ℕ) {i : ℕ} → Stands choice p d t s → 0 < i → IfSome t (λ t. t.interval ≡ i) → Stands choice p (d + n * i) t s
  stands_rounds None n w some same = w
  stands_rounds (Some t) n {i} w some same =
      let e : interval_of (block_at p t.b) ≡ i = sym w.placed.interval_is ∙ same in
      record {
        placed = w.placed;
        position_is = w.position_is ∙ sym (subst (λ (k : ℕ). position_of (header_of (block_at p t.b)) (d + n * k) ≡ position_of (header_of (block_at p t.b)) d) e (position_rounds (block_at p t.b) d n (rw e some) w.began));
        began = omega (arith, w.began);
      }

module _ {choice : ℕ} {p : List ℕ} {d : ℕ} {t : Today} (k : Known choice p d t) where
  -- what is due is the day's need
  pub known_due : t.in_first.due + t.in_second.due ≡ due_on choice p d
  known_due = omega (arith, k.sum d (omega arith) k.reached, stands_due choice p d t.in_first t.first k.first, stands_due choice p d t.in_second t.second k.second)

  pub known_small : t.in_first.due + t.in_second.due ≤ 25599999997440
  known_small = omega (arith, stands_small choice p d t.in_first t.first k.first, stands_small choice p d t.in_second t.second k.second)

  -- what stays while the periods do
  module _ {e : ℕ} (l : d ≤ e) (h : e ≤ t.until) where
    pub known_later : {i j : Place} → Stands choice p e t.first i → Stands choice p e t.second j → Known choice p e (record { until = t.until; same = t.same; rounds = t.rounds; first = t.first; second = t.second; in_first = i; in_second = j })
    known_later x y =
        record {
          reached = h;
          still = λ z. k.still (omega arith);
          first = x;
          second = y;
          sum = λ f m q. k.sum f (omega arith) q;
          rounded = λ f m q. k.rounded f (omega arith) q;
          whose = k.whose;
        }

  pub known_on : {r : Today} → Behind choice p t r → d + 1 ≤ t.until → Known choice p (d + 1) r
  known_on {r} m l =
      rw (m.until_is, m.same_is, m.rounds_is, m.first_is, m.second_is)
      (known_later (omega arith) l (stands_on choice p d t.in_first t.first r.in_first k.first m.first) (stands_on choice p d t.in_second t.second r.in_second k.second m.second))

  -- where its periods are still a day's places are those of the day ahead
  pub known_stays : d < t.same → d + 1 ≤ t.until → Known choice p (d + 1) t
  known_stays s l =
      let q = k.still s in
      known_later (omega arith) l (stands_on choice p d t.in_first t.first t.in_first k.first (stands_still choice p d t.in_first t.first k.first q.0)) (stands_on choice p d t.in_second t.second t.in_second k.second (stands_still choice p d t.in_second t.second k.second q.1))

  -- and whole rounds later they are, too
  pub known_rounds : (n : ℕ) → 0 < t.rounds.interval → d + n * t.rounds.interval ≤ t.until → Known choice p (d + n * t.rounds.interval) t
  known_rounds n i l =
      let q = k.whose i in
      known_later (omega arith) l (stands_rounds choice p d t.in_first t.first n k.first i q.0) (stands_rounds choice p d t.in_second t.second n k.second i q.1)
