-- What one walk over the blocks says of a day: which periods have it, and up to which day the days are one period's alone. Assumes nothing.
use Prim.Native.Nat.{ℕ, ◌+◌, ◌≤◌, ◌<◌, min}
use mathlib.Core.Bool.{Bool, true, false, cond, not}
use mathlib.Core.List.{List}
use mathlib.Core.Logic.{⊎_elim}
use mathlib.Core.Path.{◌≡◌, refl, sym, ap, ◌∙◌}
use native.Mathlib.Omega.{arith}
use lib.Dec.{eqb, ltb}
use borrow.Author.Count.{below_more}
use borrow.Author.Tests.{ne_eqb, lt-ltb, le-ltb, le-leb, not-true}
use Rattle.below.proofs.Search.{any_not, any_none, any_hit}
use Rattle.below.proofs.Tests.{and_both, and_false, not_true_false, true_not_false, le_or_lt}
use Rattle.day.specs.Days.{open_mark}
use Rattle.doses.specs.Doses.{covers}
use Rattle.plan.specs.Fields.{first_of, last_of}
use Rattle.plan.specs.Periods.{blocks_of, block_at, is_period}
use Rattle.supply.specs.Steps.{is_chosen, has_other, is_alone}
use Rattle.supply.specs.Code.Standing.{Orderly, Next, Reach, Rounded, rounds_on, Steady}
use Rattle.supply.specs.Code.Surveying.{Flag, FirstTwo, Clear, Surveyed, with_period}
use Rattle.supply.specs.declared.place.Period.{Period}
use Rattle.std.specs.Prelude.{Option, Some, None}
use Rattle.supply.specs.declared.survey.Survey.{Survey}
use Rattle.supply.proofs.Accepted.{covers_period}
use Rattle.supply.proofs.Clearing.{FreeOn, is_in, covers_span, covers_all, covers_past}

-- ---- the first two that pass a test
module _ {test : ℕ → Bool} {end : ℕ} where
  module _ {n a b : ℕ} (w : FirstTwo test end n a b) (l : n < end) where
    first_not : (a ≡ n → ⊥)
    first_not e = omega (arith, w.first_past (omega arith))

    second_not : (b ≡ n → ⊥)
    second_not e = omega (arith, w.second_past (omega arith))

    -- the next number fails
    two_skip : test n ≡ false → FirstTwo test end (n + 1) a b
    two_skip f =
        record {
          before = below_more (λ k. k < a → test k ≡ false) n w.before (λ h. f);
          here = λ h. w.here (omega (arith, first_not));
          between = below_more (λ k. a < k → k < b → test k ≡ false) n w.between (λ g h. f);
          there = λ h. w.there (omega (arith, second_not));
          apart = w.apart;
          first_past = λ h. w.first_past (omega arith);
          second_past = λ h. w.second_past (omega arith);
          first_low = w.first_low;
          second_low = w.second_low;
        }

    -- or it is the first that passes, or another
    two_first : test n ≡ true → n < a → FirstTwo test end (n + 1) n a
    two_first t h =
        record {
          before = λ k g m. w.before k m (omega arith);
          here = λ g. t;
          between = λ k g m. absurd (omega arith);
          there = λ g. absurd (omega arith);
          apart = h;
          first_past = λ g. absurd (omega arith);
          second_past = λ g. w.first_past (omega arith);
          first_low = omega arith;
          second_low = omega (arith, w.first_low);
        }

    two_second : test n ≡ true → a ≤ n → n < b → FirstTwo test end (n + 1) a n
    two_second t h g =
        record {
          before = λ k m i. w.before k (omega (arith, first_not)) i;
          here = λ m. w.here (omega (arith, first_not));
          between = λ k m i j. w.between k j i (omega arith);
          there = λ m. t;
          apart = omega (arith, first_not);
          first_past = λ m. absurd (omega (arith, first_not));
          second_past = λ m. absurd (omega arith);
          first_low = w.first_low;
          second_low = omega arith;
        }

    two_third : b ≤ n → FirstTwo test end (n + 1) a b
    two_third h =
        record {
          before = λ k m i. w.before k (omega (arith, w.apart)) i;
          here = λ m. w.here (omega (arith, w.apart));
          between = λ k m i j. w.between k (omega arith) i j;
          there = λ m. w.there (omega (arith, second_not));
          apart = w.apart;
          first_past = λ m. absurd (omega (arith, w.apart));
          second_past = λ m. absurd (omega (arith, second_not));
          first_low = w.first_low;
          second_low = w.second_low;
        }

    two_more : test n ≡ true → FirstTwo test end (n + 1) (cond (ltb n a) n a) (cond (ltb n a) a (cond (ltb n b) n b))
    two_more t =
        ⊎_elim
        (λ (h : a ≤ n).
        ⊎_elim
        (λ (g : b ≤ n). rw (le-ltb n a h, le-ltb n b g) (two_third g))
        (λ (g : n < b). rw (le-ltb n a h, lt-ltb n b g) (two_second t h g))
        (le_or_lt b n))
        (λ (h : n < a). rw (lt-ltb n a h) (two_first t h))
        (le_or_lt a n)

-- ---- whether these have doses of the choice
module _ {choice : ℕ} {p : List ℕ} {n : ℕ} where
  -- block n is another
  flag_skip : {b : ℕ} {t : Bool} → Flag choice p n b t → (b ≡ n → ⊥) → Flag choice p (n + 1) b t
  flag_skip f m = record { is = λ l. f.is (omega (arith, m)); none = λ l. f.none (omega arith) }

  flag_new : {t : Bool} → t ≡ is_chosen choice p n → Flag choice p (n + 1) n t
  flag_new e = record { is = λ l. e; none = λ l. absurd (omega arith) }

  module _ {test : ℕ → Bool} {end a b : ℕ} {t u : Bool} (w : FirstTwo test end n a b) (l : n < end) (f : Flag choice p n a t) (g : Flag choice p n b u) {v : Bool} (e : v ≡ is_chosen choice p n) where
    flag_first : Flag choice p (n + 1) (cond (ltb n a) n a) (cond (ltb n a) v t)
    flag_first =
        ⊎_elim
        (λ (h : a ≤ n). rw (le-ltb n a h) (flag_skip f (first_not w l)))
        (λ (h : n < a). rw (lt-ltb n a h) (flag_new e))
        (le_or_lt a n)

    flag_second : Flag choice p (n + 1) (cond (ltb n a) a (cond (ltb n b) n b)) (cond (ltb n a) u (cond (ltb n b) v u))
    flag_second =
        ⊎_elim
        (λ (h : a ≤ n).
        ⊎_elim
        (λ (k : b ≤ n). rw (le-ltb n a h, le-ltb n b k) (flag_skip g (second_not w l)))
        (λ (k : n < b). rw (le-ltb n a h, lt-ltb n b k) (flag_new e))
        (le_or_lt b n))
        (λ (h : n < a). rw (lt-ltb n a h) (record { is = λ k. absurd (omega arith); none = λ k. g.none (omega (arith, w.apart)) }))
        (le_or_lt a n)

-- ---- the other periods with doses of the choice
module _ {choice : ℕ} {p : List ℕ} {d n u : ℕ} (w : Clear choice p d n u) where
  -- a period of which nothing need be said
  clear_skip : (is_period p n ≡ true → is_chosen choice p n ≡ true → d < first_of (block_at p n) → ⊥) → Clear choice p d (n + 1) u
  clear_skip f =
      record {
        reached = w.reached;
        ahead = below_more (λ k. is_period p k ≡ true → is_chosen choice p k ≡ true → d < first_of (block_at p k) → u < first_of (block_at p k)) n w.ahead (λ x y z. absurd (f x y z));
        next = λ l. let k = w.next l in (k.0, omega (arith, k.1), k.2, k.3, k.4);
      }

module _ {choice : ℕ} {p : List ℕ} {d n : ℕ} {s : Survey} (w : Surveyed choice p d n s) (l : n < blocks_of p) where
  -- what is the same on each day stays the same up to an earlier one
  steady_more : {v : ℕ} → v ≤ s.until → Steady (λ e. covers p e n) d v → (k : ℕ) → k < n + 1 → Steady (λ e. covers p e k) d v
  steady_more {v} h f = below_more (λ k. Steady (λ e. covers p e k) d v) n (λ k m e i j. w.steady k m e i (omega arith)) f

  pub survey_past : first_of (block_at p n) ≤ d → last_of (block_at p n) < d → Surveyed choice p d (n + 1) s
  survey_past g h =
      record {
        reached = w.reached;
        steady = steady_more (omega arith) (λ e i j. covers_past p e n (omega arith) ∙ sym (covers_past p d n h));
        two = two_skip w.two l (covers_past p d n h);
        one = flag_skip w.one (first_not w.two l);
        other = flag_skip w.other (second_not w.two l);
        clear = clear_skip w.clear (λ x y z. omega arith);
      }

  -- it has the day
  pub survey_period : {chosen : Bool} {last : ℕ} → is_period p n ≡ true → chosen ≡ is_chosen choice p n → first_of (block_at p n) ≤ d → last ≡ last_of (block_at p n) → d ≤ last → Surveyed choice p d (n + 1) (with_period s chosen n last)
  survey_period {last = last} t c g e h =
      let has : covers p d n ≡ true = rw (t, le-leb (first_of (block_at p n)) d g, le-leb d (last_of (block_at p n)) (omega arith)) in
      record {
        reached = omega (arith, w.reached);
        steady = steady_more (omega arith) (λ x i j. covers_all p d n has x i (omega arith) ∙ sym has);
        two = two_more w.two l has;
        one = flag_first w.two l w.one w.other c;
        other = flag_second w.two l w.one w.other c;
        clear = clear_skip w.clear (λ x y z. omega arith);
      }

module _ {choice : ℕ} {p : List ℕ} {d : ℕ} {s : Survey} (w : Surveyed choice p d (blocks_of p) s) where
  pub survey_first : Next p d 0 s.first
  survey_first =
      record { behind = omega arith; before = λ k l h. w.two.before k (omega (arith, w.two.first_low)) h; here = w.two.here }

  pub survey_second : Next p d (s.first + 1) s.second
  survey_second =
      record {
        behind = omega (arith, w.two.apart);
        before = λ k l h. w.two.between k (omega (arith, w.two.second_low)) (omega arith) h;
        here = w.two.there;
      }

-- up to which day the days are alone in a period, as day d is
module _ {choice : ℕ} {p : List ℕ} {d : ℕ} {s : Survey} (o : Orderly choice p) (w : Surveyed choice p d (blocks_of p) s) (b : ℕ) (l : b < blocks_of p) (alone : is_alone choice p b d ≡ true) where
  has : covers p d b ≡ true
  has = (and_both (covers p d b) _ alone).0

  -- no other with doses of the choice has a day that is clear
  no_other : (e : ℕ) → d ≤ e → e ≤ s.clear → has_other choice p b e ≡ false
  unfolding has_other
  no_other e i j =
      any_none (is_in choice p b e)
      (λ k h.
      not_true_false (is_in choice p b e k)
      (λ t.
      let x = and_both (not (eqb k b)) _ t in
      let y = and_both (covers p e k) _ x.1 in
      let z = covers_span p e k y.0 in
      let q = covers_period p e k y.0 in
      ⊎_elim
      (λ (m : first_of (block_at p k) ≤ d).
      let v : is_in choice p b d k ≡ true = rw (x.0, q, le-leb (first_of (block_at p k)) d m, le-leb d (last_of (block_at p k)) (omega (arith, z.1)), y.1) in
      true_not_false v (any_not (is_in choice p b d) (not-true _ (and_both (covers p d b) _ alone).1) k h))
      (λ (m : d < first_of (block_at p k)). omega (arith, w.clear.ahead k h q y.1 m, z.0))
      (le_or_lt (first_of (block_at p k)) d)))

  -- one has the day behind them
  other_next : s.clear < open_mark → has_other choice p b (s.clear + 1) ≡ true
  unfolding has_other
  other_next h =
      let k = w.clear.next h in
      let f : first_of (block_at p k.0) ≡ s.clear + 1 = k.4 in
      let n : (k.0 ≡ b → ⊥) = λ (e : k.0 ≡ b). omega (arith, rw e at f, (covers_span p d b has).0, w.clear.reached) in
      any_hit (is_in choice p b (s.clear + 1)) k.1
      (rw (ne_eqb k.0 b n, k.2, k.3, le-leb (first_of (block_at p k.0)) (s.clear + 1) (omega arith), le-leb (s.clear + 1) (last_of (block_at p k.0)) (omega (arith, (o.dated k.0 k.1 k.2).0))))

  pub clear_reach : {u : ℕ} → u ≡ min (last_of (block_at p b)) s.clear → Reach (is_alone choice p b) d u
  clear_reach {u} q =
      record {
        reached = omega (arith, (covers_span p d b has).1, w.clear.reached);
        all = λ e i j. rw (covers_all p d b has e i (omega arith), no_other e i (omega arith));
        next =
            ⊎_elim
            (λ (h : last_of (block_at p b) ≤ s.clear). rw (covers_past p (u + 1) b (omega arith)))
            (λ (h : s.clear < last_of (block_at p b)).
            let e : u ≡ s.clear = omega arith in
            rw (e, other_next (omega (arith, (o.dated b l (covers_period p d b has)).1)), and_false (covers p (s.clear + 1) b)))
            (le_or_lt (last_of (block_at p b)) s.clear);
      }

-- ---- the rounds that may be taken on a day
pub rounded_on : (choice : ℕ) (p : List ℕ) → Orderly choice p → (d : ℕ) (t : Option Period) → FreeOn choice p d t → {s : Survey} → Surveyed choice p d (blocks_of p) s → Rounded choice p d (rounds_on choice p s.clear t)
rounded_on choice p o d None f w = record { interval_is = rw f (sym o.ends); need_is = λ i. absurd (omega arith); reach = λ i. absurd (omega arith) }
rounded_on choice p o d (Some t) f w =
    record {
      interval_is = rw f.on (ap (λ (x : Period). x.interval) f.is);
      need_is = λ i. rw f.on;
      reach = λ i. rw f.on (clear_reach o w t.b f.within f.alone refl);
    }
