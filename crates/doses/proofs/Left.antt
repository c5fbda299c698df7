-- What an iterator over a day's doses has still to give: a dose, or a period, less. Assumes nothing.
use Rattle.std.proofs.Common.{◌≡◌, ℕ, zero, suc, ◌+◌, ◌-◌, ◌<◌, ◌≤◌, min, Bool, false, cond, List, [], ◌∷◌, ◌++◌, refl, sym, ap, ◌∙◌, arith}
use Rattle.std.specs.Prelude.{Option, Some, None}
use Rattle.std.specs.Option.{MatchOption, is_some}
use Rattle.std.specs.Iterator.{YieldsFirst}
use Rattle.below.proofs.Tests.{true_not_false}
use Rattle.below.specs.Lists.{pick_below, join_below}
use Rattle.below.proofs.Lists.{join_zero, join_more, join_same, join_split}
use Rattle.plan.specs.declared.Dose.{Dose}
use Rattle.plan.specs.Fields.{header_of}
use Rattle.plan.specs.Periods.{blocks_of, block_at, doses_of, dose_in}
use Rattle.doses.specs.Doses.{position_of, applies, doses_of_period, doses_on}
use Rattle.doses.specs.Code.Left.{join_from, had_on, left_in, doses_left}
use Rattle.doses.specs.declared.iter.Rest.{Rest}
use Rattle.doses.specs.declared.iter.DosesOn.TheInside.{Inside}

pick_joins : {A : Type 0} (n : ℕ) (p : ℕ → Bool) (f : ℕ → A) → pick_below n p f ≡ join_below n (λ j. cond (p j) (f j ∷ []) [])
unfolding pick_below join_below
pick_joins zero p f = refl
pick_joins (suc n) p f = rw (pick_joins n p f)

-- nothing, the first list and then the others, and all of them
module _ {A : Type 0} (n : ℕ) (f : ℕ → List A) where
  pub join_end : (i : ℕ) → n ≤ i → join_from n i f ≡ []
  join_end i l = let e : n - i ≡ 0 = omega arith in rw (e, join_zero)

  pub join_next : (i : ℕ) → i < n → join_from n i f ≡ f i ++ join_from n (i + 1) f
  join_next i l =
      let e : n - i ≡ 1 + (n - (i + 1)) = omega arith in
      let z : i + 0 ≡ i = omega arith in
      let one : join_below 1 (λ k. f (i + k)) ≡ f i = join_more 0 (λ k. f (i + k)) ∙ rw (join_zero, z) refl in
      rw (e, join_split 1 (n - (i + 1)) (λ k. f (i + k)), one)
      (ap (λ (xs : List A). f i ++ xs) (join_same (n - (i + 1)) _ _ (λ k h. let w : i + (1 + k) ≡ i + 1 + k = omega arith in rw w)))

  pub join_all : join_from n 0 f ≡ join_below n f
  join_all = let e : n - 0 ≡ n = omega arith in rw e (join_same n _ _ (λ k l. let z : 0 + k ≡ k = omega arith in rw z))

-- a period's doses on a day, before any is given
pub left_all : (p : List ℕ) (d b : ℕ) →
    left_in p (record { block = b; next = 0; end = doses_of p b; position = position_of (header_of (block_at p b)) d }) ≡ doses_of_period p d b
unfolding doses_of_period
left_all p d b =
    let at = position_of (header_of (block_at p b)) d in
    rw (join_all (doses_of p b) (λ j. cond (applies at (dose_in p b j)) (dose_in p b j ∷ []) []))
    (sym (pick_joins (doses_of p b) (λ j. applies at (dose_in p b j)) (dose_in p b)))

pub day_all : (p : List ℕ) (d : ℕ) → join_from (min (blocks_of p) 64) 0 (had_on p d) ≡ doses_on p d
unfolding doses_on
day_all p d = join_all (min (blocks_of p) 64) (had_on p d)

-- A dose that was found is the first of all that was left. Where none was, nothing is left of the period, and what is left is all.
abbrev pub Found : List Dose → Inside → Option Dose → Type 0
Found all s found = MatchOption found ((all ≡ doses_left s) × (left_in s.plan.now s.rest ≡ [])) (λ d. all ≡ d ∷ doses_left s)

abbrev with_left : Inside → ℕ → Rest → Inside
with_left s b r = record { plan = s.plan; day = s.day; block = b; rest = r }

-- the period r gave its next dose or had none, and those from block b on stand behind it
pub finds : {all : List Dose} (s : Inside) (b : ℕ) (r t : Rest) → all ≡ left_in s.plan.now r ++ join_from (min (blocks_of s.plan.now) 64) b (had_on s.plan.now s.day) →
    (found : Option Dose) → YieldsFirst (left_in s.plan.now) r found t → Found all (with_left s b t) found
finds s b r t e None y = (e ∙ rw (y.0, y.1) refl, y.1)
finds s b r t e (Some d) y = e ∙ rw y refl

pub none_left : {all : List Dose} (s : Inside) (found : Option Dose) → is_some found ≡ false → Found all s found →
    (all ≡ doses_left s) × (left_in s.plan.now s.rest ≡ [])
none_left s None e f = f
none_left s (Some d) e f = absurd (true_not_false refl e)

module _ (s : Inside) (none : left_in s.plan.now s.rest ≡ []) where
  -- with nothing left of one period, the next is opened
  pub opened : (r : Rest) → s.block < min (blocks_of s.plan.now) 64 → left_in s.plan.now r ≡ had_on s.plan.now s.day s.block →
      doses_left s ≡ left_in s.plan.now r ++ join_from (min (blocks_of s.plan.now) 64) (s.block + 1) (had_on s.plan.now s.day)
  opened r l e = rw (none, e) (join_next (min (blocks_of s.plan.now) 64) (had_on s.plan.now s.day) s.block l)

  -- behind the last period nothing is left
  pub over : min (blocks_of s.plan.now) 64 ≤ s.block → doses_left s ≡ []
  over l = rw (none, join_end (min (blocks_of s.plan.now) 64) (had_on s.plan.now s.day) s.block l) refl

-- nothing was found, and nothing is left
pub at_end : {all rest : List Dose} (found : Option Dose) → is_some found ≡ false → all ≡ rest → rest ≡ [] → YieldsFirst (λ ds. ds) all found rest
at_end None e same z = (same ∙ z, z)
at_end (Some d) e same z = absurd (true_not_false refl e)
