-- The steps of supply: how many days each takes, how one follows the other, and when there is none more. Assumes nothing.
use Prim.Native.Nat.{ℕ, zero, suc, ◌+◌, ◌-◌, ◌*◌, ◌≤◌, ◌<◌}
use mathlib.Core.Bool.{Bool, true, false, cond, not, ◌&&◌}
use mathlib.Core.List.{List}
use mathlib.Core.Logic.{◌⊎◌, inl, inr, ⊎_elim}
use mathlib.Core.Path.{◌≡◌, refl, sym, ◌∙◌}
use native.Mathlib.Nat.{zero-mul, eq-zero-or-pos}
use native.Mathlib.Omega.{arith}
use lib.Dec.{leb}
use borrow.Author.Tests.{leb-true, le-leb, lt-ltb, not-true, not-false, eq-eqb, ne_eqb}
use Rattle.below.proofs.Search.{first_facts}
use Rattle.below.proofs.Tests.{and_both, le_or_lt}
use Rattle.below.specs.Below.{first_below, all_below}
use Rattle.need.specs.Need.{need_on}
use Rattle.pause.specs.declared.Pause.{Pause}
use Rattle.plan.specs.Fields.{interval_of}
use Rattle.plan.specs.Periods.{block_at}
use Rattle.supply.specs.Covered.{summed}
use Rattle.supply.specs.Steps.{State, taken, is_inside, is_taken, iterated_on, block_from, days_from, after}
use Rattle.supply.proofs.Covering.{summed_zero, summed_more}

-- one day needs its own need
summed_one : (need : ℕ → ℕ) (d : ℕ) → summed need d 1 ≡ need d
summed_one need d =
    let e : d + 0 ≡ d = omega arith in
    let m : summed need d 1 ≡ summed need d 0 + need d = rw e at (summed_more need d 0) in
    omega (arith, m, summed_zero need d)

-- m days from day d on are not past the stop day, and the rest has what they need
pub record Fits (need : ℕ → ℕ) (stop d rest m : ℕ) : Type 0 where
  pub within : d + m ≤ stop + 1
  pub enough : summed need d m ≤ rest

-- ---- the days of a step
-- what is 1 where a test holds, and else 0
one_true : (t : Bool) → 0 < cond t 1 0 → t ≡ true
one_true true l = refl
one_true false l = absurd (omega arith)

module _ (choice : ℕ) (p : List ℕ) (ps : List Pause) (stop d rest : ℕ) where
  -- days that may be taken in one step fit
  pub taken_fits : (b n : ℕ) → is_taken choice p ps b stop d rest n ≡ true → Fits (need_on choice p ps) stop d rest n
  unfolding is_taken
  taken_fits b n e =
      let x = and_both (leb (d + n) (stop + 1)) _ e in
      let y = and_both (all_below n (λ i. is_inside choice p ps b (d + i))) _ x.1 in
      record { within = leb-true _ _ x.0; enough = leb-true _ _ y.1 }

  module _ (b : ℕ) where
    -- a round more than n of the period at block b may not be taken
    abbrev pub is_last : ℕ → Bool
    is_last n = not (is_taken choice p ps b stop d rest ((n + 1) * interval_of (block_at p b)))

    -- the rounds of a block
    abbrev pub rounds_from : ℕ
    rounds_from = first_below (stop + 1 - d) is_last

    -- they may be taken, if there are any
    pub rounds_taken : 0 < rounds_from → is_taken choice p ps b stop d rest (rounds_from * interval_of (block_at p b)) ≡ true
    rounds_taken l =
        let e : rounds_from - 1 + 1 ≡ rounds_from = omega arith in
        let h : is_last (rounds_from - 1) ≡ false = (first_facts is_last (stop + 1 - d)).before (rounds_from - 1) (omega arith) in
        not-false (is_taken choice p ps b stop d rest (rounds_from * interval_of (block_at p b))) (rw e at h)

    -- and no more may, where days are left
    pub rounds_last : rounds_from < stop + 1 - d → is_taken choice p ps b stop d rest ((rounds_from + 1) * interval_of (block_at p b)) ≡ false
    rounds_last l = not-true _ ((first_facts is_last (stop + 1 - d)).here l)

  -- a block is the rounds of the iterated period that the day is inside
  pub block_is : block_from choice p ps stop d rest ≡ rounds_from (iterated_on choice p ps d) * interval_of (block_at p (iterated_on choice p ps d))
  unfolding block_from
  block_is = refl

  -- so a block fits
  block_fits : 0 < block_from choice p ps stop d rest → Fits (need_on choice p ps) stop d rest (block_from choice p ps stop d rest)
  block_fits l =
      let b = iterated_on choice p ps d in
      rw block_is
      (⊎_elim
      (λ (e : rounds_from b ≡ 0).
      let q : 0 < 0 = rw (block_is, e, zero-mul) at l in
      absurd (omega arith))
      (λ (z : 0 < rounds_from b). taken_fits b _ (rounds_taken b z))
      (eq-zero-or-pos (rounds_from b)))

  -- a step is a block where there is one
  pub days_block : 0 < block_from choice p ps stop d rest → days_from choice p ps stop d rest ≡ block_from choice p ps stop d rest
  unfolding days_from
  days_block l = rw (lt-ltb 0 (block_from choice p ps stop d rest) l)

  -- and else a day, if it can be covered
  pub days_day : block_from choice p ps stop d rest ≡ 0 → days_from choice p ps stop d rest ≡ cond (leb d stop && leb (need_on choice p ps d) rest) 1 0
  unfolding days_from
  days_day e = rw e

  -- which is one day then, not past the stop day, and the rest has what it needs
  pub days_one : block_from choice p ps stop d rest ≡ 0 → 0 < days_from choice p ps stop d rest →
      (days_from choice p ps stop d rest ≡ 1) × (d ≤ stop) × (need_on choice p ps d ≤ rest)
  days_one e l =
      let t = one_true _ (rw (days_day e) at l) in
      let x = and_both (leb d stop) (leb (need_on choice p ps d) rest) t in
      (days_day e ∙ rw t, leb-true d stop x.0, leb-true (need_on choice p ps d) rest x.1)

  -- so the days of a step fit
  pub days_fit : 0 < days_from choice p ps stop d rest → Fits (need_on choice p ps) stop d rest (days_from choice p ps stop d rest)
  days_fit l =
      ⊎_elim
      (λ (e : block_from choice p ps stop d rest ≡ 0).
      let x = days_one e l in
      rw x.0 (record { within = omega (arith, x.1); enough = omega (arith, x.2, summed_one (need_on choice p ps) d) }))
      (λ (z : 0 < block_from choice p ps stop d rest). rw (days_block z) (block_fits z))
      (eq-zero-or-pos (block_from choice p ps stop d rest))

  -- where there is no step more there is no block
  no_block : days_from choice p ps stop d rest ≡ 0 → block_from choice p ps stop d rest ≡ 0
  no_block e =
      ⊎_elim
      (λ (z : block_from choice p ps stop d rest ≡ 0). z)
      (λ (z : 0 < block_from choice p ps stop d rest). absurd (omega (arith, days_block z)))
      (eq-zero-or-pos (block_from choice p ps stop d rest))

  -- and the stop day is behind, or the day needs more than the rest
  pub days_none : days_from choice p ps stop d rest ≡ 0 → (stop < d) ⊎ ((d ≤ stop) × (rest < need_on choice p ps d))
  days_none e =
      ⊎_elim
      (λ (l : d ≤ stop).
      ⊎_elim
      (λ (h : need_on choice p ps d ≤ rest).
      let q : 1 ≡ 0 = rw (days_day (no_block e), le-leb d stop l, le-leb (need_on choice p ps d) rest h) at e in
      absurd (omega arith))
      (λ (h : rest < need_on choice p ps d). inr (l, h))
      (le_or_lt (need_on choice p ps d) rest))
      (λ (l : stop < d). inl l)
      (le_or_lt d stop)

-- ---- one step after the other
module _ (choice : ℕ) (p : List ℕ) (ps : List Pause) (start stop : ℕ) where
  -- the days of the step from a state on, and the state behind it
  abbrev pub days_at : State → ℕ
  days_at s = days_from choice p ps stop (start + s.days) s.rest

  abbrev pub stepped : State → State
  stepped s = taken (need_on choice p ps) (start + s.days) (days_at s) s

  -- the days that are left up to the stop day
  abbrev pub days_left : State → ℕ
  days_left s = stop + 1 - (start + s.days)

  -- where there is a step more, it comes first
  pub after_more : (n : ℕ) (s : State) → 0 < days_at s → after choice p ps start stop (suc n) s ≡ after choice p ps start stop n (stepped s)
  unfolding after
  after_more n s l = rw (ne_eqb (days_at s) 0 (λ e. omega arith))

  -- where none is taken, the state stays
  after_zero : (s : State) → after choice p ps start stop zero s ≡ s
  unfolding after
  after_zero s = refl

  -- and it stays where there is none more
  pub after_over : (n : ℕ) (s : State) → days_at s ≡ 0 → after choice p ps start stop n s ≡ s
  unfolding after
  after_over zero s e = refl
  after_over (suc n) s e = rw (eq-eqb (days_at s) 0 e)

  -- with no day left there is no step
  left_none : (s : State) → days_left s ≤ 0 → days_at s ≡ 0
  left_none s l =
      ⊎_elim
      (λ (e : days_at s ≡ 0). e)
      (λ (z : 0 < days_at s). absurd (omega (arith, (days_fit choice p ps stop (start + s.days) s.rest z).within)))
      (eq-zero-or-pos (days_at s))

  -- a step leaves fewer days
  left_less : (n : ℕ) (s : State) → 0 < days_at s → days_left s ≤ suc n → days_left (stepped s) ≤ n
  left_less n s z l = omega (arith, (days_fit choice p ps stop (start + s.days) s.rest z).within)

  -- once there are as many steps as days left, more change nothing
  pub after_enough : (m n : ℕ) (s : State) → days_left s ≤ m → days_left s ≤ n → after choice p ps start stop m s ≡ after choice p ps start stop n s
  after_enough zero n s l h = after_over zero s (left_none s l) ∙ sym (after_over n s (left_none s l))
  after_enough (suc m) zero s l h = after_over (suc m) s (left_none s h) ∙ sym (after_over zero s (left_none s h))
  after_enough (suc m) (suc n) s l h =
      ⊎_elim
      (λ (e : days_at s ≡ 0). after_over (suc m) s e ∙ sym (after_over (suc n) s e))
      (λ (z : 0 < days_at s).
      after_more m s z ∙ after_enough m n (stepped s) (left_less m s z l) (left_less n s z h) ∙ sym (after_more n s z))
      (eq-zero-or-pos (days_at s))

  -- one step, and then all that are left
  pub after_step : (s : State) → 0 < days_at s →
      after choice p ps start stop (days_left s) s ≡ after choice p ps start stop (days_left (stepped s)) (stepped s)
  after_step s z =
      after_enough (days_left s) (suc (days_left s)) s (omega arith) (omega arith)
      ∙ after_more (days_left s) s z
      ∙ after_enough (days_left s) (days_left (stepped s)) (stepped s) (omega arith) (omega arith)

  -- what holds of a state and is kept by each step holds of the last
  pub after_keeps : (P : State → Type 0) → ((s : State) → 0 < days_at s → P s → P (stepped s)) → (n : ℕ) (s : State) → P s → P (after choice p ps start stop n s)
  after_keeps P kept zero s h = rw (after_zero s) h
  after_keeps P kept (suc n) s h =
      ⊎_elim
      (λ (e : days_at s ≡ 0). rw (after_over (suc n) s e) h)
      (λ (z : 0 < days_at s). rw (after_more n s z) (after_keeps P kept n (stepped s) (kept s z h)))
      (eq-zero-or-pos (days_at s))

  -- behind the last there is no step more
  pub after_ends : (n : ℕ) (s : State) → days_left s ≤ n → days_at (after choice p ps start stop n s) ≡ 0
  after_ends zero s l = rw (after_zero s) (left_none s l)
  after_ends (suc n) s l =
      ⊎_elim
      (λ (e : days_at s ≡ 0). rw (after_over (suc n) s e) e)
      (λ (z : 0 < days_at s). rw (after_more n s z) (after_ends n (stepped s) (left_less n s z l)))
      (eq-zero-or-pos (days_at s))
