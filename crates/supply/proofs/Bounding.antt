-- How many steps there are inside one iterated period each of whose rounds needs the same: no more than a round has days. Assumes nothing.
use Prim.Native.Nat.{ℕ, ◌+◌, ◌-◌, ◌*◌, ◌≤◌, ◌<◌}
use mathlib.Core.Bool.{true, false}
use mathlib.Core.List.{List}
use mathlib.Core.Logic.{◌⊎◌, inl, inr, ⊎_elim}
use mathlib.Core.Path.{◌≡◌, ◌∙◌}
use native.Mathlib.Nat.{one-mul, zero-mul, add-mul, mul-pos, mul-le-mul_right, le-mul_of_pos_right, eq-zero-or-pos}
use native.Mathlib.Omega.{arith}
use borrow.Author.Tests.{le-leb}
use Rattle.below.proofs.Search.{all_every}
use Rattle.below.proofs.Tests.{true_not_false, both_and, le_or_lt}
use Rattle.need.specs.Need.{need_on}
use Rattle.pause.specs.declared.Pause.{Pause}
use Rattle.plan.specs.Fields.{interval_of}
use Rattle.plan.specs.Periods.{block_at}
use Rattle.supply.specs.Covered.{summed}
use Rattle.supply.specs.Steps.{State, is_inside, iterated_on, is_taken, block_from, after, steps_of}
use Rattle.supply.proofs.Covering.{summed_plus, summed_le, walk_begins}
use Rattle.supply.proofs.Stepping.{
  Fits,
  taken_fits,
  rounds_from,
  rounds_taken,
  rounds_last,
  block_is,
  days_block,
  days_one,
  days_fit,
  days_at,
  stepped,
  days_left,
  after_enough,
  after_step,
  after_keeps,
}
use Rattle.supply.proofs.Counting.{WalkedTo, step_walks}

-- ---- where each round of the period at block b needs R
module _ (choice : ℕ) (p : List ℕ) (ps : List Pause) (b R start stop : ℕ) (some : 0 < interval_of (block_at p b))
    (inside : (d : ℕ) → start ≤ d → d ≤ stop → is_inside choice p ps b d ≡ true)
    (iterated : (d : ℕ) → start ≤ d → d ≤ stop → iterated_on choice p ps d ≡ b)
    (rounds : (d m : ℕ) → start ≤ d → d + m * interval_of (block_at p b) ≤ stop + 1 →
    summed (need_on choice p ps) d (m * interval_of (block_at p b)) ≡ m * R) where
  -- the days of a round, and what a day needs
  abbrev k : ℕ
  k = interval_of (block_at p b)

  abbrev need : ℕ → ℕ
  need = need_on choice p ps

  -- one round needs R
  round : (d : ℕ) → start ≤ d → d + k ≤ stop + 1 → summed need d k ≡ R
  round d a l = rw (one-mul k, one-mul R) at (rounds d 1 a (omega (arith, one-mul k)))

  -- m rounds may be taken if they end by the stop day and the rest has what they need
  may_take : (d rest m : ℕ) → start ≤ d → d + m * k ≤ stop + 1 → m * R ≤ rest → is_taken choice p ps b stop d rest (m * k) ≡ true
  unfolding is_taken
  may_take d rest m a l h =
      both_and (le-leb (d + m * k) (stop + 1) l)
      (both_and
      (all_every (λ i. is_inside choice p ps b (d + i)) (m * k) (λ i q. inside (d + i) (omega arith) (omega arith)))
      (le-leb (summed need d (m * k)) rest (omega (arith, rounds d m a l))))

  -- the tail: a whole round would end past the stop day, or need more than the rest
  abbrev Tail : ℕ → ℕ → Type 0
  Tail d rest = (stop + 1 < d + k) ⊎ (rest < R)

  module _ (d rest : ℕ) (a : start ≤ d) (z : d ≤ stop) where
    -- the rounds of a block from day d on
    abbrev n : ℕ
    n = rounds_from choice p ps stop d rest b

    -- they are the block
    block_here : block_from choice p ps stop d rest ≡ n * k
    block_here = rw (iterated d a z) at (block_is choice p ps stop d rest)

    -- and fit
    fits_here : 0 < n → Fits need stop d rest (n * k)
    fits_here q = taken_fits choice p ps stop d rest b (n * k) (rounds_taken choice p ps stop d rest b q)

    -- in the tail there is no block
    tail_days : Tail d rest → block_from choice p ps stop d rest ≡ 0
    tail_days t =
        ⊎_elim
        (λ (e : n ≡ 0). block_here ∙ rw (e, zero-mul k))
        (λ (q : 0 < n).
        let f = fits_here q in
        let x : 1 * k ≤ n * k = mul-le-mul_right k q in
        let y : 1 * R ≤ n * R = mul-le-mul_right R q in
        absurd
        (⊎_elim
        (λ (l : stop + 1 < d + k). omega (arith, f.within, one-mul k))
        (λ (l : rest < R). omega (arith, f.enough, rounds d n a f.within, one-mul R))
        t))
        (eq-zero-or-pos n)

    -- and behind a block is the tail
    tail_behind : 0 < n → Tail (d + n * k) (rest - summed need d (n * k))
    tail_behind q =
        let f = fits_here q in
        let e : (n + 1) * k ≡ n * k + k = add-mul n 1 k ∙ rw (one-mul k) in
        let g : (n + 1) * R ≡ n * R + R = add-mul n 1 R ∙ rw (one-mul R) in
        ⊎_elim
        (λ (l : d + n * k + k ≤ stop + 1).
        inr
        (⊎_elim
        (λ (h : n * R + R ≤ rest).
        let few : n < stop + 1 - d = omega (arith, le-mul_of_pos_right n some) in
        absurd (true_not_false (may_take d rest (n + 1) a (omega arith) (omega arith)) (rounds_last choice p ps stop d rest b few)))
        (λ (h : rest < n * R + R). omega (arith, f.enough, rounds d n a f.within))
        (le_or_lt (n * R + R) rest)))
        (λ (l : stop + 1 < d + n * k + k). inl l)
        (le_or_lt (d + n * k + k) (stop + 1))

    -- ahead of it there is one
    block_some : d + k ≤ stop + 1 → R ≤ rest → 0 < n
    block_some l h =
        ⊎_elim
        (λ (e : n ≡ 0).
        let g : is_taken choice p ps b stop d rest ((0 + 1) * k) ≡ false = rw e at (rounds_last choice p ps stop d rest b (omega arith)) in
        absurd (true_not_false (may_take d rest 1 a (omega (arith, one-mul k)) (omega (arith, one-mul R))) g))
        (λ (q : 0 < n). q)
        (eq-zero-or-pos n)

  -- s is reached from t by steps of one day each
  record Daily (pack : ℕ) (t s : State) : Type 0 where
    walked : WalkedTo choice p ps start stop pack s
    behind : t.days ≤ s.days
    each : s.count + t.days ≡ t.count + s.days

  module _ (pack : ℕ) (t : State) (w : WalkedTo choice p ps start stop pack t) (tail : Tail (start + t.days) t.rest) where
    -- the rest gets no larger, so the tail goes on
    tail_on : (s : State) → Daily pack t s → Tail (start + s.days) s.rest
    tail_on s r =
        ⊎_elim
        (λ (l : stop + 1 < start + t.days + k). inl (omega (arith, r.behind)))
        (λ (l : t.rest < R). inr (omega (arith, w.sum, r.walked.sum, summed_le need start r.behind)))
        tail

    -- in which each step is one day
    tail_step : (s : State) → 0 < days_at choice p ps start stop s → Daily pack t s → Daily pack t (stepped choice p ps start stop s)
    tail_step s z r =
        let d = start + s.days in
        let f = days_fit choice p ps stop d s.rest z in
        let none = tail_days d s.rest (omega arith) (omega (arith, f.within)) (tail_on s r) in
        let e : days_at choice p ps start stop s ≡ 1 = (days_one choice p ps stop d s.rest none z).0 in
        record {
          walked = step_walks choice p ps start stop pack s z r.walked;
          behind = omega (arith, r.behind);
          each = omega (arith, r.each, e);
        }

    -- and they are fewer than a round has
    tail_short : (s : State) → Daily pack t s → s.days < t.days + k
    tail_short s r =
        ⊎_elim
        (λ (l : t.days + k ≤ s.days).
        let q : start + t.days + k ≤ stop + 1 = omega (arith, r.walked.within) in
        absurd
        (⊎_elim
        (λ (h : stop + 1 < start + t.days + k). omega arith)
        (λ (h : t.rest < R).
        omega (arith, w.sum, r.walked.sum, summed_le need start l, summed_plus need start t.days k, round (start + t.days) (omega arith) q))
        tail))
        (λ (l : s.days < t.days + k). l)
        (le_or_lt (t.days + k) s.days)

    -- so few steps are to come
    tail_few : (n : ℕ) → (after choice p ps start stop n t).count < t.count + k
    tail_few n =
        let r = after_keeps choice p ps start stop (Daily pack t) tail_step n t (record { walked = w; behind = omega arith; each = omega arith }) in
        omega (arith, r.each, r.behind, tail_short (after choice p ps start stop n t) r)

  -- ahead of the tail a block is taken, and then the tail has come
  whole_few : (pack : ℕ) (s : State) → WalkedTo choice p ps start stop pack s → start + s.days + k ≤ stop + 1 → R ≤ s.rest →
      (after choice p ps start stop (days_left choice p ps start stop s) s).count ≤ s.count + k
  whole_few pack s w l h =
      let d = start + s.days in
      let a : start ≤ d = omega arith in
      let z : d ≤ stop = omega arith in
      let m = n d s.rest a z in
      let q : 0 < m = block_some d s.rest a z l h in
      let g : 0 < m * k = mul-pos q some in
      let e : block_from choice p ps stop d s.rest ≡ m * k = block_here d s.rest a z in
      let o : 0 < block_from choice p ps stop d s.rest = omega arith in
      let t : days_at choice p ps start stop s ≡ m * k = days_block choice p ps stop d s.rest o ∙ e in
      let y : 0 < days_at choice p ps start stop s = omega arith in
      let r = stepped choice p ps start stop s in
      let there : start + (s.days + m * k) ≡ d + m * k = omega arith in
      let tail : Tail (start + r.days) r.rest = rw (t, there) (tail_behind d s.rest a z q) in
      rw (after_step choice p ps start stop s y)
      (let x = tail_few pack r (step_walks choice p ps start stop pack s y w) tail (days_left choice p ps start stop r) in omega arith)

  -- so there are no more steps than a round has days
  pub steps_few : (pack : ℕ) → (steps_of choice p ps start stop pack).count ≤ interval_of (block_at p b)
  steps_few pack =
      let s : State = record { rest = pack; days = 0; count = 0 } in
      let left = days_left choice p ps start stop s in
      let w : WalkedTo choice p ps start stop pack s = walk_begins need start (stop + 1 - start) pack in
      let tail : Tail (start + s.days) s.rest → (after choice p ps start stop left s).count ≤ k =
      λ t. let x = tail_few pack s w t left in omega arith in
      rw (after_enough choice p ps start stop (stop + 1 - start) left s (omega arith) (omega arith))
      (⊎_elim
      (λ (l : start + s.days + k ≤ stop + 1).
      ⊎_elim
      (λ (h : R ≤ pack). omega (arith, whole_few pack s w l h))
      (λ (h : pack < R). tail (inr h))
      (le_or_lt R pack))
      (λ (l : stop + 1 < start + s.days + k). tail (inl l))
      (le_or_lt (start + s.days + k) (stop + 1)))
