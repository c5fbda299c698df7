-- Where the stretch lies that shows a day: inside the part, as whole blocks. Assumes nothing.
use Rattle.std.specs.Prelude.{Err, Ok, is_err}
use Prim.Native.Nat.{ℕ, ◌+◌, ◌*◌, ◌≤◌, ◌<◌}
use mathlib.Core.Bool.{true, false, not}
use mathlib.Core.List.{List, []}
use mathlib.Core.Logic.{◌⊎◌, inl, inr, ⊎_elim}
use mathlib.Core.Path.{◌≡◌, refl}
use native.Mathlib.Nat.{le_refl}
use native.Mathlib.Omega.{arith}
use lib.Dec.{leb}
use lib.ListN.{length}
use borrow.Author.Tests.{lt-ltb, le-ltb, leb-true, not-true}
use Rattle.below.proofs.Search.{first_facts, first_none}
use Rattle.below.proofs.Tests.{and_both, true_not_false, not_true_false, le_or_lt}
use Rattle.refusal.specs.declared.Refusal.{Refusal}
use Rattle.plan.specs.Fields.{first_of, last_of}
use Rattle.plan.specs.Periods.{blocks_of, block_at, is_period, is_continuation, more_of}
use Rattle.form.specs.Form.{form_of}
use Rattle.form.specs.Code.Whole.{Whole}
use Rattle.form.specs.Answers.{Form}
use Rattle.form.proofs.Formed.{formed, head_no_period, dated}
use Rattle.form.proofs.Laws.{whole, short}
use Rattle.form.proofs.Ranged.{goes, inside}
use Rattle.doses.specs.Doses.{covers}
use Rattle.showing.specs.Showing.{part_limit, nothing, first_covering, blocks_shown, shown_in}

form_cases : (f : Form) → (f ≡ Ok tt) ⊎ ((r : Refusal) × (f ≡ Err r))
form_cases (Ok tt) = inl refl
form_cases (Err r) = inr (r, refl)

-- what `is_err` says of it
pub no_err : (f : Form) → is_err f ≡ false → f ≡ Ok tt
no_err (Ok tt) e = refl
no_err (Err r) e = absurd (true_not_false refl e)

pub some_err : (f : Form) → is_err f ≡ true → (r : Refusal) × (f ≡ Err r)
some_err (Ok tt) e = absurd (true_not_false e refl)
some_err (Err r) e = (r, refl)

-- the stretch is the n blocks from block b: a period that has the day, the first such, then its continuations, and the block
-- behind them is none
pub record IsShown (part : List ℕ) (day b n : ℕ) : Type 0 where
  pub right : form_of part_limit part ≡ Ok tt
  pub begins : (shown_in part day).at ≡ b * 512
  pub long : (shown_in part day).length ≡ n * 512
  pub there : b + n ≤ blocks_of part
  pub covering : covers part day b ≡ true
  pub first : (k : ℕ) → k < b → covers part day k ≡ false
  pub counted : n ≡ 1 + more_of part b
  pub continued : (i : ℕ) → i + 1 < n → is_continuation part (b + 1 + i) ≡ true
  pub behind : is_continuation part (b + n) ≡ false

-- a part that breaks none of rules 1 to 4
module _ (part : List ℕ) (e : form_of part_limit part ≡ Ok tt) where
  pub whole_right : Whole part
  whole_right = whole part_limit part (omega arith) (formed part_limit part e).long

  pub few_right : blocks_of part ≤ 64
  few_right = omega (arith, short part_limit part (formed part_limit part e).long)

module _ (part : List ℕ) (day : ℕ) where
  -- "An empty stretch comes .. if the wanted part breaks rules 1 to 4"
  pub shown_broken : {r : Refusal} → form_of part_limit part ≡ Err r → shown_in part day ≡ nothing
  unfolding shown_in
  shown_broken {r} e = rw e

  module _ (e : form_of part_limit part ≡ Ok tt) where
    pub shown_first : first_covering part day < blocks_of part → shown_in part day ≡ blocks_shown part (first_covering part day)
    unfolding shown_in
    shown_first l = rw (e, lt-ltb _ _ l)

    pub shown_none : blocks_of part ≤ first_covering part day → shown_in part day ≡ nothing
    unfolding shown_in
    shown_none l = rw (e, le-ltb _ _ l)

    module _ (l : first_covering part day < blocks_of part) where
      covering_first : covers part day (first_covering part day) ≡ true
      covering_first = (first_facts (covers part day) (blocks_of part)).here l

      is_period_lem : is_period part (first_covering part day) ≡ true
      is_period_lem = (and_both (is_period part (first_covering part day)) _ covering_first).0

      -- the head is no period
      behind_head : 0 < first_covering part day
      behind_head =
          ⊎_elim
          (λ (h : first_covering part day ≤ 0).
          let z : first_covering part day ≡ 0 = omega arith in
          absurd (true_not_false (rw z at is_period_lem) (head_no_period (formed part_limit part e) (whole_right part e).some)))
          (λ h. h)
          (le_or_lt (first_covering part day) 0)

      -- the period's last block is in the part
      last_inside : first_covering part day + more_of part (first_covering part day) < blocks_of part
      last_inside =
          let m = more_of part (first_covering part day) in
          inside (omega arith) (formed part_limit part e) (first_covering part day) l is_period_lem m (le_refl m)

      ends : is_continuation part (first_covering part day + 1 + more_of part (first_covering part day)) ≡ false
      unfolding more_of
      ends =
          not-true _
          ((first_facts (λ i. not (is_continuation part (first_covering part day + 1 + i))) 63).here
          (omega (arith, behind_head, last_inside, few_right part e)))

      pub is_shown : IsShown part day (first_covering part day) (1 + more_of part (first_covering part day))
      is_shown =
          let b = first_covering part day in
          let q : b + (1 + more_of part b) ≡ b + 1 + more_of part b = omega arith in
          record {
            right = e;
            begins = rw (shown_first l);
            long = rw (shown_first l);
            there = omega (arith, last_inside);
            covering = covering_first;
            first = (first_facts (covers part day) (blocks_of part)).before;
            counted = refl;
            continued = λ i h. goes (omega arith) (formed part_limit part e) b l is_period_lem i (omega arith);
            behind = rw q ends;
          }

    -- "the blocks of the first period covering it": a day that a period of the part has is shown
    pub shown_some : (b : ℕ) → b < blocks_of part → covers part day b ≡ true → (c : ℕ) × (n : ℕ) × IsShown part day c n
    shown_some b l t =
        ⊎_elim
        (λ (h : blocks_of part ≤ first_covering part day).
        absurd (true_not_false t ((first_facts (covers part day) (blocks_of part)).before b (omega arith))))
        (λ h. (first_covering part day, 1 + more_of part (first_covering part day), is_shown h))
        (le_or_lt (blocks_of part) (first_covering part day))

    -- ".., or if no period covers the day"
    pub shown_uncovered : ((b : ℕ) → b < blocks_of part → covers part day b ≡ false) → shown_in part day ≡ nothing
    shown_uncovered none = shown_none (rw (first_none (covers part day) (blocks_of part) none) (le_refl (blocks_of part)))

  -- "An open last day counts as 73,048": no day above it is shown
  pub shown_past : 73048 < day → shown_in part day ≡ nothing
  shown_past past =
      ⊎_elim
      (λ (e : form_of part_limit part ≡ Ok tt).
      shown_uncovered e
      (λ b l.
      not_true_false (covers part day b)
      (λ t.
      let x = and_both (is_period part b) _ t in
      let y = and_both (leb (first_of (block_at part b)) day) (leb day (last_of (block_at part b))) x.1 in
      let z : day ≤ last_of (block_at part b) = leb-true _ _ y.1 in
      omega (arith, z, (dated (formed part_limit part e) b l x.0).1))))
      (λ r. shown_broken {r = r.0} r.1)
      (form_cases (form_of part_limit part))

  -- an empty stretch, or whole blocks
  pub shown_cases : (shown_in part day ≡ nothing) ⊎ ((b : ℕ) × (n : ℕ) × IsShown part day b n)
  shown_cases =
      ⊎_elim
      (λ (e : form_of part_limit part ≡ Ok tt).
      ⊎_elim
      (λ (h : blocks_of part ≤ first_covering part day). inl (shown_none e h))
      (λ h. inr (first_covering part day, 1 + more_of part (first_covering part day), is_shown e h))
      (le_or_lt (blocks_of part) (first_covering part day)))
      (λ r. inl (shown_broken {r = r.0} r.1))
      (form_cases (form_of part_limit part))

  -- the stretch lies inside the part
  pub shown_inside : (shown_in part day).at + (shown_in part day).length ≤ length part
  shown_inside =
      ⊎_elim
      (λ (e : shown_in part day ≡ nothing). rw e (omega arith))
      (λ s. let i = s.2 in omega (arith, i.begins, i.long, i.there, (whole_right part i.right).whole))
      shown_cases

-- no bytes are no part, so they show nothing
pub shown_empty : (day : ℕ) → shown_in [] day ≡ nothing
unfolding shown_in form_of
shown_empty day = refl
