-- What the step that is due takes is what the definition says: a block of as many whole rounds as may be taken, or a day. Assumes nothing.
use Prim.Native.Nat.{ℕ, ◌+◌, ◌-◌, ◌*◌, ◌≤◌, ◌<◌}
use mathlib.Core.Bool.{Bool, true, false, cond, not}
use mathlib.Core.List.{List}
use mathlib.Core.Logic.{◌⊎◌, inl, inr, ⊎_elim}
use mathlib.Core.Path.{◌≡◌, refl, sym, ap, ◌∙◌}
use native.Mathlib.Nat.{eq-or-lt_of_le, mul-zero, mul-pos, mul-le-mul_right, le-mul_of_pos_right}
use native.Mathlib.Omega.{arith}
use lib.Dec.{leb, ltb}
use borrow.Author.Tests.{ltb-true, le-leb, lt-leb}
use Rattle.below.proofs.Search.{first_is, first_end, first_none, all_every, all_at}
use Rattle.below.proofs.Tests.{bool_cases, and_false, true_not_false, not_true_false, le_or_lt}
use Rattle.below.specs.Below.{all_below}
use Rattle.need.specs.Need.{need_on}
use Rattle.pause.specs.Pauses.{is_paused}
use Rattle.pause.specs.declared.Pause.{Pause}
use Rattle.pause.specs.declared.Sight.{Sight}
use Rattle.plan.specs.Fields.{interval_of}
use Rattle.plan.specs.Periods.{blocks_of, block_at}
use Rattle.supply.specs.Covered.{summed}
use Rattle.supply.specs.Steps.{is_alone, is_inside, iterated_on, is_taken, block_from, days_from}
use Rattle.supply.specs.Code.Standing.{Reach, Rounded, alone_on}
use Rattle.supply.specs.Code.Walking.{Able, Seen, Most, room_of, TakesRounds, TakesDay, Takes, Stays}
use Rattle.supply.specs.declared.rounds.Round.{Round}
use Rattle.supply.specs.declared.taking.Stride.{Stride}
use Rattle.supply.specs.declared.walk.Walk.{Walk}
use Rattle.supply.proofs.Clearing.{on_within, alone_period}
use Rattle.supply.proofs.Covering.{summed_one}
use Rattle.supply.proofs.Standing.{known_due, known_stays, known_rounds}
use Rattle.supply.proofs.Stepping.{is_last, block_is, days_block, days_day}
use Rattle.supply.proofs.WholeRounds.{block_need}

-- of n whole things m are no more
fewer : {m n : ℕ} (k : ℕ) → m ≤ n → m * k ≤ n * k
fewer k l = mul-le-mul_right k l

module _ (choice : ℕ) (p : List ℕ) (w : Walk) (g : Able choice p w) (s : Sight) (reached : w.day ≤ s.until) where
  -- the rounds of the day
  abbrev round : Round
  round = w.today.rounds

  rounded : Rounded choice p w.day round
  rounded = g.known.rounded w.day (omega arith) g.known.reached

  -- the step's days are some, and end by the stop day; whole rounds, and days of periods that are still, leave the places as they are
  pub takes_stays : {x : Stride} → Takes w s x → Stays choice p w x
  takes_stays {x} =
      ⊎_elim
      (λ (t : (n : ℕ) × TakesRounds w s x n).
      let n = t.0 in
      let y = t.1 in
      rw y.stride_is
      (record {
        some = mul-pos {m = n} {n = round.interval} y.some y.iterated;
        within = omega (arith, y.most.fits, g.looks.within);
        still = λ e l. known_rounds g.known n y.iterated l;
        one = λ e. absurd (true_not_false refl e);
      }))
      (λ (t : TakesDay w s x).
      rw t.stride_is
      (record { some = omega arith; within = omega (arith, g.looks.within); still = λ e l. known_stays g.known (ltb-true _ _ e) l; one = λ e. refl }))

  module _ (ps : List Pause) (seen : Seen ps w.day s) where
    -- the period of the rounds
    abbrev b : ℕ
    b = alone_on choice p w.day

    here : is_paused ps w.day ≡ s.paused
    here = seen.steady w.day (omega arith) reached

    abbrev block : ℕ
    block = block_from choice p ps w.stop w.day w.rest

    abbrev taken : ℕ → Bool
    taken n = is_taken choice p ps b w.stop w.day w.rest n

    -- no rounds are taken from a paused day on
    block_paused : s.paused ≡ true → block ≡ 0
    unfolding iterated_on
    block_paused t =
        let e : iterated_on choice p ps w.day ≡ blocks_of p = first_none _ (blocks_of p) (λ a l. rw (here, t) (and_false (ltb 0 (interval_of (block_at p a))))) in
        block_is choice p ps w.stop w.day w.rest ∙ rw (e, g.looks.orderly.ends) (mul-zero _)

    module _ (free : s.paused ≡ false) where
      on : iterated_on choice p ps w.day ≡ b
      unfolding iterated_on
      on = rw (here, free)

      -- and none where there are none
      block_none : round.interval ≡ 0 → block ≡ 0
      block_none e =
          let z : interval_of (block_at p b) ≡ 0 = sym rounded.interval_is ∙ e in
          block_is choice p ps w.stop w.day w.rest ∙ rw (on, z) (mul-zero _)

      module _ (i : 0 < round.interval) where
        some : 0 < interval_of (block_at p b)
        some = rw (← rounded.interval_is) i

        alone : Reach (is_alone choice p b) w.day round.until
        alone = rounded.reach i

        abbrev room : ℕ
        room = room_of w s

        inside : (j : ℕ) → j < room → is_inside choice p ps b (w.day + j) ≡ true
        inside j l =
            let e = seen.steady (w.day + j) (omega arith) (omega arith) in
            rw (e, free) (alone.all (w.day + j) (omega arith) (omega arith))

        -- the day behind the room is not inside, if it comes by the stop day
        not_inside : w.day + room ≤ w.stop → is_inside choice p ps b (w.day + room) ≡ false
        not_inside l =
            ⊎_elim
            (λ (h : round.until ≤ s.until).
            let e : w.day + room_of w s ≡ round.until + 1 = omega (arith, alone.reached) in
            rw (e, alone.next) (and_false (not (is_paused ps (round.until + 1)))))
            (λ (h : s.until < round.until).
            let e : w.day + room_of w s ≡ s.until + 1 = omega arith in
            rw (e, seen.ends free (omega (arith, g.looks.dated))))
            (le_or_lt round.until s.until)

        -- what m rounds need
        rounds_need : (m : ℕ) → m * round.interval ≤ room → summed (need_on choice p ps) w.day (m * round.interval) ≡ m * round.need
        rounds_need m l =
            let a = on_within choice p g.looks.orderly rounded i in
            let q = block_need choice p b some (g.looks.orderly.rounds b a (alone_period choice p b w.day (alone.all w.day (omega arith) alone.reached)) some) ps g.looks.orderly.few a w.day m in
            rw (rounded.need_is i) (rw (← rounded.interval_is) at q (λ j h. inside j (omega arith)))

        taken_yes : (m : ℕ) → m * round.interval ≤ room → m * round.need ≤ w.rest → taken (m * round.interval) ≡ true
        unfolding is_taken
        taken_yes m l h =
            rw (
              le-leb (w.day + m * round.interval) (w.stop + 1) (omega (arith, g.looks.within)),
              all_every (λ j. is_inside choice p ps b (w.day + j)) (m * round.interval) (λ j z. inside j (omega arith)),
              rounds_need m l,
              le-leb (m * round.need) w.rest h,
            )

        taken_room : (n : ℕ) → room < n → taken n ≡ false
        unfolding is_taken
        taken_room n l =
            ⊎_elim
            (λ (h : w.day + n ≤ w.stop + 1).
            let z : all_below n (λ j. is_inside choice p ps b (w.day + j)) ≡ false =
            not_true_false _ (λ t. true_not_false (all_at (λ j. is_inside choice p ps b (w.day + j)) n t room l) (not_inside (omega arith))) in
            rw (z, and_false (leb (w.day + n) (w.stop + 1))))
            (λ (h : w.stop + 1 < w.day + n). rw (lt-leb (w.day + n) (w.stop + 1) h))
            (le_or_lt (w.day + n) (w.stop + 1))

        taken_rest : (m : ℕ) → m * round.interval ≤ room → w.rest < m * round.need → taken (m * round.interval) ≡ false
        unfolding is_taken
        taken_rest m l h =
            rw (rounds_need m l, lt-leb (m * round.need) w.rest h, and_false (all_below (m * round.interval) (λ j. is_inside choice p ps b (w.day + j))), and_false (leb (w.day + m * round.interval) (w.stop + 1)))

        -- the most rounds are those of the definition
        module _ (n : ℕ) (most : Most round.interval round.need (room_of w s) w.rest n) where
          abbrev last : ℕ → Bool
          last = is_last choice p ps w.stop w.day w.rest b

          last_is : (m : ℕ) → last m ≡ not (taken ((m + 1) * round.interval))
          last_is m = rw rounded.interval_is

          before : (m : ℕ) → m < n → last m ≡ false
          before m l =
              last_is m ∙ rw (taken_yes (m + 1) (omega (arith, fewer {m = m + 1} {n = n} round.interval (omega arith), most.fits)) (omega (arith, fewer {m = m + 1} {n = n} round.need (omega arith), most.paid)))

          at_last : last n ≡ true
          at_last =
              last_is n ∙
              ⊎_elim
              (λ (l : (n + 1) * round.interval ≤ room). rw (taken_rest (n + 1) l (most.more l)))
              (λ (l : room < (n + 1) * round.interval). rw (taken_room ((n + 1) * round.interval) l))
              (le_or_lt ((n + 1) * round.interval) room)

          block_most : block ≡ n * round.interval
          block_most =
              block_is choice p ps w.stop w.day w.rest ∙
              rw (on, ← rounded.interval_is)
              (ap (λ (m : ℕ). m * round.interval)
              (⊎_elim
              (λ (e : n ≡ w.stop + 1 - w.day). first_end last (omega arith) before ∙ sym e)
              (λ (l : n < w.stop + 1 - w.day). first_is last l before at_last)
              (eq-or-lt_of_le (let z : n ≤ n * round.interval = le-mul_of_pos_right n i in omega (arith, most.fits)))))

    -- a day
    one_need : summed (need_on choice p ps) w.day 1 ≡ cond s.paused 0 (w.today.in_first.due + w.today.in_second.due)
    unfolding need_on
    one_need = summed_one (need_on choice p ps) w.day ∙ rw (here, known_due g.known)

    need_one : summed (need_on choice p ps) w.day 1 ≡ need_on choice p ps w.day
    need_one = summed_one (need_on choice p ps) w.day

    block_day : {x : Stride} → TakesDay w s x → block ≡ 0
    block_day t =
        ⊎_elim
        block_paused
        (λ (free : s.paused ≡ false).
        ⊎_elim
        (λ (e : round.interval ≡ 0). block_none free e)
        (λ (i : 0 < round.interval). block_most free i 0 (t.none free i) ∙ omega arith)
        (none_or_some round.interval))
        (bool_cases s.paused)
      where
        none_or_some : (n : ℕ) → (n ≡ 0) ⊎ (0 < n)
        none_or_some n = ⊎_elim (λ (l : n ≤ 0). inl (omega arith)) (λ (l : 0 < n). inr l) (le_or_lt n 0)

    -- so the step's need is that of its days
    pub takes_need : {x : Stride} → Takes w s x → x.need ≡ summed (need_on choice p ps) w.day x.days
    takes_need {x} =
        ⊎_elim
        (λ (t : (n : ℕ) × TakesRounds w s x n). let y = t.1 in rw y.stride_is (sym (rounds_need y.clear y.iterated t.0 y.most.fits)))
        (λ (t : TakesDay w s x). rw t.stride_is (sym one_need))

    -- and its days are those of the definition's step, if the rest has the need
    pub takes_days : {x : Stride} → Takes w s x → x.need ≤ w.rest → days_from choice p ps w.stop w.day w.rest ≡ x.days
    takes_days {x} t h =
        ⊎_elim
        (λ (t : (n : ℕ) × TakesRounds w s x n).
        let y = t.1 in
        let e = block_most y.clear y.iterated t.0 y.most in
        let z = mul-pos {m = t.0} {n = round.interval} y.some y.iterated in
        rw y.stride_is (days_block choice p ps w.stop w.day w.rest (rw e z) ∙ e))
        (λ (y : TakesDay w s x).
        let l : need_on choice p ps w.day ≤ w.rest = omega (arith, need_one, one_need, ap (λ (x : Stride). x.need) y.stride_is) in
        rw y.stride_is (days_day choice p ps w.stop w.day w.rest (block_day y) ∙ rw (le-leb w.day w.stop g.looks.within, le-leb (need_on choice p ps w.day) w.rest l)))
        t

    -- there is no step where it has not
    pub takes_none : {x : Stride} → Takes w s x → w.rest < x.need → days_from choice p ps w.stop w.day w.rest ≡ 0
    takes_none {x} t h =
        ⊎_elim
        (λ (t : (n : ℕ) × TakesRounds w s x n). let y = t.1 in absurd (let z = ap (λ (x : Stride). x.need) y.stride_is in omega (arith, y.most.paid)))
        (λ (y : TakesDay w s x).
        let z = ap (λ (x : Stride). x.need) y.stride_is in
        let l : w.rest < need_on choice p ps w.day = omega (arith, one_need, need_one) in
        days_day choice p ps w.stop w.day w.rest (block_day y) ∙ rw (lt-leb (need_on choice p ps w.day) w.rest l, and_false (leb w.day w.stop)))
        t
