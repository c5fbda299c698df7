-- The bits that tell which periods count by a choice. Assumes nothing.
use Rattle.std.proofs.Common.{◌≡◌, ℕ, zero, suc, ◌+◌, ◌-◌, ◌*◌, ◌/◌, ◌%◌, ◌^◌, ◌<◌, ◌≤◌, min, Bool, true, false, cond, not, ◌&&◌, ◌||◌, eqb, List, get_or, sym, refl, ap, ◌∙◌, ⊎_elim, pow-suc, add-one, arith, pow_mono, eqb-true}
use Rattle.below.proofs.Search.{any_same}
use Rattle.below.proofs.Tests.{bool_cases}
use Rattle.plan.specs.Fields.{last_of}
use Rattle.plan.specs.Periods.{blocks_of, block_at, is_period, class_of}
use Rattle.plan.specs.declared.Class.{Class}
use Rattle.plan.specs.declared.Class.TheVariants.{Empty, Fixed, Need, Mixed}
use Rattle.verdict.specs.Code.Ready.{Classed}
use Rattle.need.specs.Need.{fixed_or_mixed, with_doses, need_or_mixed, choice_of, stops_at, stop_day_by, has_stop_by, stop_day, has_stop}
use Rattle.need.specs.Telling.{is_set, bits_from, bits_by, told_of, number_of, number_stops, bits_by_number, told_by, bits_in, is_told, told_day, any_told, Tells}
use Rattle.need.specs.declared.Told.{Told}
use Rattle.need.proofs.Found.{largest_same}
use Rattle.need.proofs.Rows.{stops_fixed, stops_four, stops_other}

-- ---- one bit
set_behind : (bits b : ℕ) → is_set bits (b + 1) ≡ is_set (bits / 2) b
unfolding is_set
set_behind bits b = ap (is_set bits) (add-one b)

half_past : (bits n : ℕ) → bits < 2 ^ n → bits / 2 < 2 ^ (n - 1)
half_past bits zero s = omega arith
half_past bits (suc n) s =
    let e : suc n - 1 ≡ n = omega arith in
    let l = rw (pow-suc 2 n) at s in
    rw e (omega arith)

-- a small number has none further on
pub set_past : (n bits b : ℕ) → bits < 2 ^ n → n ≤ b → is_set bits b ≡ false
unfolding is_set
set_past n bits zero s l = let z : bits ≡ 0 = omega (arith, pow_mono {i = n} {j = 0} l) in rw z
set_past n bits (suc b) s l = set_past (n - 1) (bits / 2) b (half_past bits n s) (omega arith)

-- the bits of a number from bit b on, as a loop halves it
pub record Behind (bits b half : ℕ) : Type 0 where
  pub from : (k : ℕ) → is_set bits (b + k) ≡ is_set half k

pub behind_none : (bits : ℕ) → Behind bits 0 bits
behind_none bits = record { from = λ k. let z : 0 + k ≡ k = omega arith in rw z }

module _ {bits b half : ℕ} (h : Behind bits b half) where
  pub behind_half : Behind bits (b + 1) (half / 2)
  behind_half = record { from = λ k. let e : b + 1 + k ≡ b + (k + 1) = omega arith in rw e (h.from (k + 1) ∙ set_behind half k) }

  pub behind_first : is_set bits b ≡ is_set half 0
  behind_first = let e : b ≡ b + 0 = omega arith in ap (is_set bits) e ∙ h.from 0

-- ---- the bits of some blocks
module _ (f : ℕ → Bool) where
  bits_none : (b : ℕ) → bits_from f b 0 ≡ 0
  unfolding bits_from
  bits_none b = refl

  -- one block more, ahead of the others
  bits_more : (b n : ℕ) → bits_from f b (n + 1) ≡ cond (f b) 1 0 + 2 * bits_from f (b + 1) n
  unfolding bits_from
  bits_more b n = ap (bits_from f b) (add-one n)

  -- the lowest bit is the first block's, and the others are those of the blocks behind it
  bits_odd : (b n : ℕ) → eqb (bits_from f b (n + 1) % 2) 1 ≡ f b
  bits_odd b n =
      ⊎_elim
      (λ (t : f b ≡ true). let e : bits_from f b (n + 1) % 2 ≡ 1 = rw (bits_more b n, t) (omega arith) in rw (e, t))
      (λ (t : f b ≡ false). let e : bits_from f b (n + 1) % 2 ≡ 0 = rw (bits_more b n, t) (omega arith) in rw (e, t))
      (bool_cases (f b))

  bits_half : (b n : ℕ) → bits_from f b (n + 1) / 2 ≡ bits_from f (b + 1) n
  bits_half b n =
      ⊎_elim
      (λ (t : f b ≡ true). rw (bits_more b n, t) (omega arith))
      (λ (t : f b ≡ false). rw (bits_more b n, t) (omega arith))
      (bool_cases (f b))

  -- each block has its own
  bits_each : (i b n : ℕ) → i < n → is_set (bits_from f b n) i ≡ f (b + i)
  unfolding is_set
  bits_each zero b n l =
      let e : n ≡ n - 1 + 1 = omega arith in
      let z : b + 0 ≡ b = omega arith in
      rw (e, z) (bits_odd b (n - 1))
  bits_each (suc i) b n l =
      let e : n ≡ n - 1 + 1 = omega arith in
      let z : b + suc i ≡ b + 1 + i = omega arith in
      rw (e, bits_half b (n - 1), z) (bits_each i (b + 1) (n - 1) (omega arith))

  -- they fit
  bits_small : (b n : ℕ) → bits_from f b n < 2 ^ n
  unfolding bits_from
  bits_small b zero = omega arith
  bits_small b (suc n) =
      let l = bits_small (b + 1) n in
      ⊎_elim
      (λ (t : f b ≡ true). rw (t, pow-suc 2 n) (omega arith))
      (λ (t : f b ≡ false). rw (t, pow-suc 2 n) (omega arith))
      (bool_cases (f b))

  -- those of the blocks from b on, of n, as a loop makes them from the last block down
  pub down_none : (n : ℕ) → 0 ≡ bits_from f n (n - n)
  down_none n = let z : n - n ≡ 0 = omega arith in rw z (sym (bits_none n))

  module _ (n b : ℕ) {x : ℕ} (e : x ≡ bits_from f b (n - b)) where
    pub down_fits : n ≤ 32 → 0 < b → x < 2147483648
    down_fits l z = omega (arith, e, bits_small b (n - b), pow_mono {i = n - b} {j = 31} (omega arith))

    pub down_more : {y : ℕ} → 0 < b → b ≤ n → y ≡ cond (f (b - 1)) 1 0 + 2 * x → y ≡ bits_from f (b - 1) (n - (b - 1))
    down_more z l h =
        let k : n - (b - 1) ≡ n - b + 1 = omega arith in
        let m : b - 1 + 1 ≡ b = omega arith in
        h ∙ rw (k, bits_more (b - 1) (n - b), m, ← e)

    pub down_all : b ≡ 0 → x ≡ bits_from f 0 n
    down_all z = let k : n - b ≡ n = omega arith in rw (k, z) at e

-- where the same blocks count, the bits are the same
bits_same : {f g : ℕ → Bool} (b n : ℕ) → ((k : ℕ) → k < b + n → f k ≡ g k) → bits_from f b n ≡ bits_from g b n
unfolding bits_from
bits_same b zero h = refl
bits_same b (suc n) h = rw (h b (omega arith), bits_same (b + 1) n (λ k l. h k (omega arith)))

-- ---- those of a plan
-- by each choice a class counts as its number does
class_stops : (choice : ℕ) (class : Class) → number_stops choice (number_of class) ≡ (choice_of choice).stops class
class_stops choice class =
    ⊎_elim
    (λ (h : (eqb choice 1 || eqb choice 2) ≡ true). rw (h, stops_fixed choice h class) (fixed class))
    (λ (h : (eqb choice 1 || eqb choice 2) ≡ false).
    ⊎_elim
    (λ (v : eqb choice 4 ≡ true). rw (stops_four choice class v, eqb-true choice 4 v) (needed class))
    (λ (v : eqb choice 4 ≡ false). rw (h, stops_other choice h v class, v) (dosed (eqb choice 3) class))
    (bool_cases (eqb choice 4)))
    (bool_cases (eqb choice 1 || eqb choice 2))
  where
    fixed : (class : Class) → (eqb (number_of class) 1 || eqb (number_of class) 3) ≡ fixed_or_mixed class
    fixed Empty = refl
    fixed Fixed = refl
    fixed Need = refl
    fixed Mixed = refl

    needed : (class : Class) → (eqb (number_of class) 2 || eqb (number_of class) 3) ≡ need_or_mixed class
    needed Empty = refl
    needed Fixed = refl
    needed Need = refl
    needed Mixed = refl

    dosed : (three : Bool) (class : Class) → cond three (not (eqb (number_of class) 0)) false ≡ (three && with_doses class)
    dosed false class = refl
    dosed true Empty = refl
    dosed true Fixed = refl
    dosed true Need = refl
    dosed true Mixed = refl

-- the bits by the numbers of classes are those by the classes
module _ (p : List ℕ) (cs : List Class) (ns : List ℕ) (same : (b : ℕ) → b < 32 → get_or ns b 0 ≡ number_of (get_or cs b Empty)) where
  numbers_same : (choice : ℕ) → bits_by_number choice ns p ≡ bits_by choice cs p
  numbers_same choice = bits_same 0 (min (blocks_of p) 32) (λ b l. rw (same b (omega arith)) (class_stops choice (get_or cs b Empty)))

  pub told_numbers : told_by ns p ≡ told_of cs p
  told_numbers =
      let fixed = numbers_same 1 in
      let dosed = numbers_same 3 in
      let needed = numbers_same 4 in
      λ i. record { fixed = fixed i; dosed = dosed i; needed = needed i }

-- three numbers, each of which has the bits of its choice, have those of every choice
module _ (p : List ℕ) (bits : ℕ → ℕ) {x : Told} (e : x ≡ record { fixed = bits 1; dosed = bits 3; needed = bits 4 })
    (own : (choice b : ℕ) → b < blocks_of p → is_period p b ≡ true → is_set (bits choice) b ≡ (choice_of choice).stops (class_of p b)) where
  told : (choice b : ℕ) → b < blocks_of p → is_period p b ≡ true → is_set (bits_in x choice) b ≡ (choice_of choice).stops (class_of p b)
  told choice b l t =
      ⊎_elim
      (λ (h : (eqb choice 1 || eqb choice 2) ≡ true). rw (h, stops_fixed choice h (class_of p b), ap (λ (x : Told). x.fixed) e) (own 1 b l t ∙ stops_fixed 1 refl (class_of p b)))
      (λ (h : (eqb choice 1 || eqb choice 2) ≡ false).
      ⊎_elim
      (λ (u : eqb choice 3 ≡ true). rw (eqb-true choice 3 u, ap (λ (x : Told). x.dosed) e) (own 3 b l t))
      (λ (u : eqb choice 3 ≡ false).
      ⊎_elim
      (λ (v : eqb choice 4 ≡ true). rw (eqb-true choice 4 v, ap (λ (x : Told). x.needed) e) (own 4 b l t))
      (λ (v : eqb choice 4 ≡ false). rw (h, stops_other choice h v (class_of p b), u, v) (set_past 0 0 b (omega arith) (omega arith)))
      (bool_cases (eqb choice 4)))
      (bool_cases (eqb choice 3)))
      (bool_cases (eqb choice 1 || eqb choice 2))

  all_told : (choice : ℕ) → Tells choice p (bits_in x choice)
  all_told choice = record { each = told choice }

-- the bits by the classes that come with the verdict
module _ {p : List ℕ} {cs : List Class} (k : Classed p cs) {x : Told} (e : x ≡ told_of cs p) where
  by_class : (choice b : ℕ) → b < blocks_of p → is_period p b ≡ true → is_set (bits_by choice cs p) b ≡ (choice_of choice).stops (class_of p b)
  by_class choice b l t =
      let z : 0 + b ≡ b = omega arith in
      let h = bits_each (λ b. (choice_of choice).stops (get_or cs b Empty)) b 0 (min (blocks_of p) 32) (omega (arith, k.few)) in
      rw (z, k.entry b l t) at h

  pub tells : (choice : ℕ) → Tells choice p (bits_in x choice)
  tells = all_told p (λ choice. bits_by choice cs p) e by_class

-- and those by any numbers, if each period's block has the number of its class; the other entries say nothing
module _ (p ns : List ℕ) (few : blocks_of p ≤ 32) (entry : (b : ℕ) → b < blocks_of p → is_period p b ≡ true → get_or ns b 0 ≡ number_of (class_of p b))
    {x : Told} (e : x ≡ told_by ns p) where
  by_number : (choice b : ℕ) → b < blocks_of p → is_period p b ≡ true → is_set (bits_by_number choice ns p) b ≡ (choice_of choice).stops (class_of p b)
  by_number choice b l t =
      let z : 0 + b ≡ b = omega arith in
      let h = bits_each (λ b. number_stops choice (get_or ns b 0)) b 0 (min (blocks_of p) 32) (omega (arith, few)) in
      rw (z, entry b l t) at h ∙ class_stops choice (class_of p b)

  pub numbers_tell : (choice : ℕ) → Tells choice p (bits_in x choice)
  numbers_tell = all_told p (λ choice. bits_by_number choice ns p) e by_number

-- where the choice stops
module _ {choice : ℕ} {p : List ℕ} {bits : ℕ} (t : Tells choice p bits) where
  told_stops : (b : ℕ) → b < blocks_of p → is_told bits p b ≡ stops_at choice (class_of p) p b
  told_stops b l =
      ⊎_elim
      (λ (h : is_period p b ≡ true). rw (h, t.each b l h))
      (λ (h : is_period p b ≡ false). rw h)
      (bool_cases (is_period p b))

  pub told_any : any_told bits p ≡ has_stop choice p
  unfolding has_stop_by
  told_any = any_same _ _ (blocks_of p) told_stops

  pub told_day_lem : told_day bits p ≡ stop_day choice p
  unfolding stop_day_by
  told_day_lem = largest_same (blocks_of p) (λ b l. ap (λ (t : Bool). cond t (last_of (block_at p b)) 0) (told_stops b l))

-- which blocks count by a choice, and the bits of those from b on
abbrev pub counts : List ℕ → ℕ → ℕ → Bool
counts classes choice b = number_stops choice (get_or classes b 0)

abbrev pub behind : List ℕ → List ℕ → ℕ → ℕ → ℕ
behind plan classes choice b = bits_from (counts classes choice) b (min (blocks_of plan) 32 - b)
