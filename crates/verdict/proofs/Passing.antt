-- The pass over the periods, a block more; and rules 15 to 17 behind it. Assumes nothing.
use Rattle.std.specs.Prelude.{Option, Some, None, Err, Ok}
use Prim.Native.Nat.{ℕ, ◌+◌, ◌*◌, ◌≤◌, ◌<◌}
use mathlib.Core.Bool.{Bool, true, false, ◌&&◌}
use mathlib.Core.List.{List}
use mathlib.Core.Logic.{◌≢◌, ⊎_elim}
use mathlib.Core.Path.{◌≡◌, refl, sym, ◌∙◌}
use native.Mathlib.Omega.{arith}
use lib.Dec.{eqb}
use lib.ListN.{length, get_or, drop, set, get_or-eq_default, replicate, length-set, length-replicate, get_or-replicate}
use lib.Seq.{get_or-take, get_or-drop, get_or-set_same, get_or-set_other, ext_get_or}
use borrow.Author.Count.{below_more}
use Rattle.below.proofs.Search.{NoneBelow, none_more, any_none, first_facts}
use Rattle.below.proofs.Lists.{length_list, get_d_list}
use Rattle.below.proofs.Tests.{true_not_false, le_or_lt}
use Rattle.below.specs.Lists.{list_below}
use Rattle.form.proofs.Formed.{Formed}
use Rattle.form.specs.Code.Found.{found_below}
use Rattle.form.proofs.Ranges.{some_found, none_found}
use Rattle.form.proofs.Laws.{short, whole}
use Rattle.period.specs.Period.{rule_of}
use Rattle.block.specs.Bytes.{byte_at}
use Rattle.plan.specs.Periods.{blocks_of, block_at, is_period, class_of}
use Rattle.plan.specs.declared.Class.{Class}
use Rattle.plan.specs.declared.Class.TheVariants.{Empty}
use Rattle.refusal.specs.Refusals.{rule_at}
use Rattle.refusal.specs.declared.Refusal.{Refusal}
use Rattle.verdict.specs.Coverage.{bare, shares, holes}
use Rattle.verdict.specs.Classes.{class_at, classes_by}
use Rattle.verdict.specs.Code.Judging.{rule_in, Judged, Unbroken, HasClasses}
use Rattle.verdict.specs.Code.Ready.{Classed}
use Rattle.verdict.specs.Verdict.{plan_limit, breaks, verdict_of}
use Rattle.verdict.specs.Answers.{Answer}
use Rattle.verdict.specs.declared.order.Found.{Found}
use Rattle.verdict.proofs.Lowest.{lowest_zero, row_15, row_16, row_17, lowest_same, lowest_new, lowest_clear, lowest_broken, broken_is, accepted_is, formed_clear}

-- the pass begins
pub judged_zero : (p : List ℕ) (cs : List Class) → cs ≡ replicate 32 Empty → Judged p 0 None cs
judged_zero p cs e =
    record {
      lowest = lowest_zero p 0;
      broken = tt;
      long = rw e (length-replicate {A = Class} 32 Empty);
      classed = λ c l. absurd (omega arith);
      rest = λ c l m. rw e (get_or-replicate {A = Class} 32 c Empty Empty m);
    }

module _ {p : List ℕ} {b : ℕ} {s : Option Found} {cs : List Class} (few : b < 32) (w : Judged p b s cs) where
  -- block b begins no period
  pub judged_past : is_period p b ≡ false → Judged p (b + 1) s cs
  judged_past e =
      record {
        lowest = lowest_same p w.lowest (λ t. absurd (true_not_false t e));
        broken = w.broken;
        long = w.long;
        classed = below_more (λ (c : ℕ). get_or cs c Empty ≡ class_at p c) b w.classed (w.rest b (omega arith) few ∙ rw e);
        rest = λ c l m. w.rest c (omega arith) m;
      }

  module _ (t : is_period p b ≡ true) {class : Class} (k : class ≡ class_of p b) where
    other : (c : ℕ) → c ≢ b → get_or (set cs b class) c Empty ≡ get_or cs c Empty
    other c n = get_or-set_other cs b c class Empty n

    class_set : (c : ℕ) → c < b + 1 → get_or (set cs b class) c Empty ≡ class_at p c
    class_set =
        below_more (λ (c : ℕ). get_or (set cs b class) c Empty ≡ class_at p c) b
        (λ c l. other c (λ e. omega arith) ∙ w.classed c l)
        (get_or-set_same cs b class Empty (omega (arith, w.long)) ∙ rw (t, k))

    rest_set : (c : ℕ) → b + 1 ≤ c → c < 32 → get_or (set cs b class) c Empty ≡ Empty
    rest_set c l m = other c (λ e. omega arith) ∙ w.rest c (omega arith) m

    -- it begins one that breaks nothing lower, or one that does
    pub judged_same : {rule : ℕ} → rule ≡ rule_of p b → rule_in s ≤ rule → Judged p (b + 1) s (set cs b class)
    judged_same e l =
        record {
          lowest = lowest_same p w.lowest (λ t. omega (arith, e));
          broken = w.broken;
          long = length-set cs b class ∙ w.long;
          classed = class_set;
          rest = rest_set;
        }

    pub judged_new : {rule : ℕ} → rule ≡ rule_of p b → rule < rule_in s → Judged p (b + 1) (Some (record { rule = rule; place = b })) (set cs b class)
    judged_new e l =
        record {
          lowest = rw e (lowest_new p w.lowest t (omega (arith, e)));
          broken = omega (arith, w.lowest.high);
          long = length-set cs b class ∙ w.long;
          classed = class_set;
          rest = rest_set;
        }

-- rules without a place stand at block 0
at_zero : (t : Bool) (b : ℕ) → t ≡ false → (eqb b 0 && t) ≡ false
at_zero t b e = rw (e, Rattle.below.proofs.Tests.and_false)

module _ (p : List ℕ) where
  -- the next rule is not broken either
  pub unbroken_more : {k : ℕ} → Unbroken p k → ((b : ℕ) → b < blocks_of p → breaks p k b ≡ false) → Unbroken p (k + 1)
  unbroken_more u h =
      record {
        long = u.long;
        some = u.some;
        clear = none_more _ u.clear (any_none _ h);
      }

  -- .. or it is
  pub unbroken_broken : {k b : ℕ} → Unbroken p k → k < 18 → b < blocks_of p → NoneBelow (breaks p k) b → breaks p k b ≡ true → Err (rule_at k b) ≡ verdict_of p
  unbroken_broken u l q none hit = broken_is p u.long l u.clear q none hit

  module _ (u : Unbroken p 15) where
    pub broken_15 : bare p ≡ true → Err (rule_at 15 0) ≡ verdict_of p
    broken_15 e = unbroken_broken u (omega arith) u.some (λ b l. absurd (omega arith)) (row_15 p 0 ∙ rw e)

    pub passed_15 : bare p ≡ false → Unbroken p 16
    passed_15 e = unbroken_more u (λ b l. row_15 p b ∙ at_zero (bare p) b e)

  module _ (u : Unbroken p 16) where
    pub broken_16 : {b : ℕ} → found_below (blocks_of p) (shares p) ≡ Some b → Err (rule_at 16 b) ≡ verdict_of p
    broken_16 {b} found =
        let some = some_found (blocks_of p) (shares p) found in
        let e = some.0 in
        let l = some.1 in
        let f = first_facts (shares p) (blocks_of p) in
        unbroken_broken u (omega arith) l
        (λ c h. row_16 p c ∙ f.before c (omega (arith, e)))
        (row_16 p b ∙ rw e (f.here (omega (arith, e))))

    pub passed_16 : found_below (blocks_of p) (shares p) ≡ None → Unbroken p 17
    passed_16 e =
        let f = first_facts (shares p) (blocks_of p) in
        unbroken_more u (λ c h. row_16 p c ∙ f.before c (omega (arith, none_found (blocks_of p) (shares p) e)))

  module _ (u : Unbroken p 17) where
    pub broken_17 : holes p ≡ true → Err (rule_at 17 0) ≡ verdict_of p
    broken_17 e = unbroken_broken u (omega arith) u.some (λ b l. absurd (omega arith)) (row_17 p 0 ∙ rw e)

    pub accepted_17 : holes p ≡ false → Ok (length p) ≡ verdict_of p
    accepted_17 e =
        let v = unbroken_more u (λ b l. row_17 p b ∙ at_zero (holes p) b e) in
        accepted_is p v.long v.clear

-- what the form gives the rules behind it
module _ {p : List ℕ} (f : Formed plan_limit p) where
  pub formed_few : blocks_of p ≤ 32
  formed_few = omega (arith, short plan_limit p f.long)

  pub formed_some : 0 < blocks_of p
  formed_some = (whole plan_limit p (omega arith) f.long).some

  -- and the pass over the periods, which has found a broken rule
  pub judged_broken : {x : Found} {cs : List Class} → Judged p (blocks_of p) (Some x) cs → Err (rule_at x.rule x.place) ≡ verdict_of p
  judged_broken w = lowest_broken p w.lowest f.long (formed_clear p f) w.broken

  -- .. or none
  pub judged_clear : {cs : List Class} → Judged p (blocks_of p) None cs → Unbroken p 15
  judged_clear w =
      record { long = f.long; some = formed_some; clear = lowest_clear p w.lowest (formed_clear p f) }

  module _ {s : Option Found} {cs : List Class} (w : Judged p (blocks_of p) s cs) where
    pub judged_classed : Classed p cs
    judged_classed = record { few = formed_few; entry = λ b l t. w.classed b l ∙ rw t }

    -- behind the last block no period begins
    past_none : (c : ℕ) → blocks_of p ≤ c → class_at p c ≡ Empty
    unfolding block_at
    past_none c l =
        let full = (whole plan_limit p (omega arith) f.long).whole in
        let kind : byte_at (block_at p c) 0 ≡ 0 = get_or-take 512 (drop (c * 512) p) 0 0 (omega arith) ∙ get_or-drop (c * 512) p 0 0 ∙ get_or-eq_default p 0 (omega (arith, full)) in
        rw kind

    pub judged_classes : cs ≡ list_below 32 (class_at p)
    judged_classes =
        ext_get_or Empty cs (list_below 32 (class_at p)) (w.long ∙ sym (length_list 32 (class_at p)))
        (λ i l.
        let m : i < 32 = omega (arith, w.long) in
        ⊎_elim
        (λ (h : blocks_of p ≤ i). w.rest i h m ∙ sym (past_none i h) ∙ sym (get_d_list 32 (class_at p) Empty i m))
        (λ h. w.classed i h ∙ sym (get_d_list 32 (class_at p) Empty i m))
        (le_or_lt (blocks_of p) i))

-- whatever the answer is
pub has_classes : (a : Answer) (p : List ℕ) (cs : List Class) → cs ≡ list_below 32 (class_at p) → HasClasses a p cs
unfolding classes_by
has_classes (Ok n) p cs e = e
has_classes (Err r) p cs e = refl

-- what comes with a verdict, the other way round
pub classes_given : (a : Answer) (p : List ℕ) (cs : List Class) → classes_by a p ≡ Ok cs → (n : ℕ) × (a ≡ Ok n) × (cs ≡ list_below 32 (class_at p))
unfolding classes_by
classes_given (Ok n) p cs e = (n, refl, cc)
classes_given (Err r) p cs e = cc

pub classes_refused : (a : Answer) (p : List ℕ) (r : Refusal) → classes_by a p ≡ Err r → a ≡ Err r
unfolding classes_by
classes_refused (Ok n) p r e = cc
classes_refused (Err q) p r e = cc

-- the classes that an accepted plan's verdict comes with serve whoever goes on with them
pub accepted_classed : (p : List ℕ) (cs : List Class) → blocks_of p ≤ 32 → cs ≡ list_below 32 (class_at p) → Classed p cs
accepted_classed p cs few e =
    record {
      few = few;
      entry = λ b l t. rw e (get_d_list 32 (class_at p) Empty b (omega arith) ∙ rw t);
    }
