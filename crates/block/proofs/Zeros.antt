-- Zero bytes in the middle of a list: run behind run, and as numbers. Assumes nothing.
use Rattle.std.proofs.Common.{◌≡◌, ℕ, zero, suc, ◌+◌, ◌-◌, ◌<◌, ◌≤◌, true, false, ◌&&◌, eqb, List, length, take, drop, sym, refl, ◌∙◌, ⊎_elim, not-suc-le-zero, suc-mul, ◌*◌, ◌/◌, Bool, take_all, arith, length-drop, length-take-le, get_or-drop, get_or-take, eq-eqb, eqb-true}
use Rattle.std.proofs.Math.Nat.{div-mul-le_self, lt-div-mul-add}
use Rattle.below.proofs.Search.{all_at, all_every}
use Rattle.below.proofs.Tests.{bool_iff, and_both, both_and, le_or_lt, not_true_false, true_not_false}
use Rattle.block.specs.Bytes.{byte_at, number_at, is_zero}
use Rattle.std.specs.List.{list_all}
use Rattle.std.specs.Simd.{first_chunks}
use Rattle.block.specs.Code.Zeros.{zero_in}
use Rattle.block.proofs.Zero.{zero_at, at_zero}

-- the n bytes from a on are zero, one by one
abbrev pub EachZero : List ℕ → ℕ → ℕ → Type 0
EachZero s a n = (k : ℕ) → k < n → byte_at s (a + k) ≡ 0

module _ (s : List ℕ) where
  pub zero_each : (a n : ℕ) → zero_in s a n ≡ true → EachZero s a n
  unfolding zero_in
  zero_each a n e k l = eqb-true _ _ (all_at (λ (k : ℕ). eqb (byte_at s (a + k)) 0) n e k l)

  pub each_zero : (a n : ℕ) → EachZero s a n → zero_in s a n ≡ true
  unfolding zero_in
  each_zero a n h = all_every (λ (k : ℕ). eqb (byte_at s (a + k)) 0) n (λ k l. eq-eqb _ _ (h k l))

  -- a part of zero bytes is zero
  pub zero_part : (a n b m : ℕ) → a ≤ b → b + m ≤ a + n → zero_in s a n ≡ true → zero_in s b m ≡ true
  zero_part a n b m l h e =
      each_zero b m
      (λ k q.
      let f : a + (b - a + k) ≡ b + k = omega arith in
      rw (← f) (zero_each a n e (b - a + k) (omega arith)))

  -- and where a part is not, the whole is not
  pub part_not : (a n b m : ℕ) → a ≤ b → b + m ≤ a + n → zero_in s b m ≡ false → zero_in s a n ≡ false
  part_not a n b m l h e = not_true_false _ (λ t. true_not_false (zero_part a n b m l h t) e)

  -- two runs, one behind the other
  pub zero_join : (a m n : ℕ) → zero_in s a m ≡ true → zero_in s (a + m) n ≡ true → zero_in s a (m + n) ≡ true
  zero_join a m n e f =
      each_zero a (m + n)
      (λ k l.
      ⊎_elim
      (λ (q : m ≤ k).
      let g : a + m + (k - m) ≡ a + k = omega arith in
      rw (← g) (zero_each (a + m) n f (k - m) (omega arith)))
      (λ q. zero_each a m e k q)
      (le_or_lt m k))

  pub zero_split : (a m n : ℕ) → zero_in s a (m + n) ≡ (zero_in s a m && zero_in s (a + m) n)
  zero_split a m n =
      bool_iff _ _
      (λ t. both_and (zero_part a (m + n) a m (omega arith) (omega arith) t) (zero_part a (m + n) (a + m) n (omega arith) (omega arith) t))
      (λ t. let h = and_both (zero_in s a m) (zero_in s (a + m) n) t in zero_join a m n h.0 h.1)

  -- the whole list
  pub zero_all : zero_in s 0 (length s) ≡ is_zero s
  zero_all =
      bool_iff _ _
      (λ t. at_zero s (λ i l. let e : 0 + i ≡ i = omega arith in rw e at (zero_each 0 (length s) t i l)))
      (λ t. each_zero 0 (length s) (λ k l. let e : 0 + k ≡ k = omega arith in rw e (zero_at s t k l)))

  -- one run more
  pub zero_next : (a m b n l : ℕ) → a + m ≡ b → m + n ≡ l → zero_in s a m ≡ true → zero_in s b n ≡ true → zero_in s a l ≡ true
  zero_next a m b n l e f p q = rw (← f) (zero_join a m n p (rw e q))

  -- what is left of the list, where all ahead is zero
  pub zero_rest : (m : ℕ) → m ≤ length s → zero_in s 0 m ≡ true → zero_in s m (length s - m) ≡ is_zero s
  zero_rest m l p =
      bool_iff _ _
      (λ t. sym zero_all ∙ zero_next 0 m m (length s - m) (length s) (omega arith) (omega arith) p t)
      (λ t. zero_part 0 (length s) m (length s - m) (omega arith) (omega arith) (zero_all ∙ t))

  -- what is left may be looked at with some of what is ahead
  pub zero_last : (m n : ℕ) → m ≤ length s → n ≤ length s → length s ≤ m + n → zero_in s 0 m ≡ true → zero_in s (length s - n) n ≡ is_zero s
  zero_last m n l h q p =
      bool_iff _ _
      (λ t. sym (zero_rest m l p) ∙ zero_part (length s - n) n m (length s - m) (omega arith) (omega arith) t)
      (λ t. zero_part 0 (length s) (length s - n) n (omega arith) (omega arith) (zero_all ∙ t))

  pub part_lost : (a n : ℕ) → a + n ≤ length s → zero_in s a n ≡ false → is_zero s ≡ false
  part_lost a n l e = sym zero_all ∙ part_not 0 (length s) a n (omega arith) (omega arith) e

-- a number is zero exactly where its bytes are
number_each : (w : ℕ) (s : List ℕ) (i : ℕ) → number_at w s i ≡ 0 → EachZero s i w
unfolding number_at
number_each zero s i e k l = absurd (not-suc-le-zero l)
number_each (suc w) s i e zero l = let f : i + 0 ≡ i = omega arith in rw f (omega arith)
number_each (suc w) s i e (suc k) l =
    let f : i + suc k ≡ i + 1 + k = omega arith in
    rw f (number_each w s (i + 1) (omega arith) k (omega arith))

each_number : (w : ℕ) (s : List ℕ) (i : ℕ) → EachZero s i w → number_at w s i ≡ 0
unfolding number_at
each_number zero s i h = refl
each_number (suc w) s i h =
    let here : byte_at s i ≡ 0 = let f : i + 0 ≡ i = omega arith in rw f at (h 0 (omega arith)) in
    let later = each_number w s (i + 1) (λ k l. let f : i + 1 + k ≡ i + suc k = omega arith in rw f (h (suc k) (omega arith))) in
    omega arith

pub number_zero : (w : ℕ) (s : List ℕ) (i : ℕ) → eqb (number_at w s i) 0 ≡ zero_in s i w
number_zero w s i =
    bool_iff _ _
    (λ t. each_zero s i w (number_each w s i (eqb-true _ _ t)))
    (λ t. eq-eqb _ _ (each_number w s i (zero_each s i w t)))

-- a part is zero where its bytes are, in their own places
pub part_zero : (r : List ℕ) (a n : ℕ) → a + n ≤ length r → is_zero (take n (drop a r)) ≡ zero_in r a n
part_zero r a n l =
    bool_iff _ _
    (λ t. each_zero r a n (λ k h. sym (same k h) ∙ zero_at part t k (omega (arith, long))))
    (λ t. at_zero part (λ k h. let q : k < n = omega (arith, long) in same k q ∙ zero_each r a n t k q))
  where
    part : List ℕ
    part = take n (drop a r)

    long : length part ≡ n
    long = length-take-le n (drop a r) (rw length-drop (omega arith))

    same : (k : ℕ) → k < n → byte_at part k ≡ byte_at r (a + k)
    same k h = get_or-take n (drop a r) k 0 h ∙ get_or-drop a r k 0

-- chunks of n bytes, each zero
module _ (n : ℕ) where
  behind : (s : List ℕ) (m : ℕ) → zero_in (drop n s) 0 m ≡ zero_in s n m
  behind s m =
      bool_iff _ _
      (λ t. each_zero s n m (λ k l. sym (same k) ∙ zero_each (drop n s) 0 m t k l))
      (λ t. each_zero (drop n s) 0 m (λ k l. same k ∙ zero_each s n m t k l))
    where
      same : (k : ℕ) → byte_at (drop n s) (0 + k) ≡ byte_at s (n + k)
      same k = let e : 0 + k ≡ k = omega arith in rw e (get_or-drop n s k 0)

  pub chunks_zero : (k : ℕ) (s : List ℕ) → k * n ≤ length s → list_all is_zero (first_chunks n k s) ≡ zero_in s 0 (k * n)
  chunks_zero zero s h = let e : 0 * n ≡ 0 = omega arith in rw e (sym (each_zero s 0 0 (λ k l. absurd (not-suc-le-zero l))))
  chunks_zero (suc k) s h =
      let e : suc k * n ≡ n + k * n = omega (arith, suc-mul k n) in
      let first : is_zero (take n s) ≡ zero_in s 0 n = part_zero s 0 n (omega arith) in
      let later : list_all is_zero (first_chunks n k (drop n s)) ≡ zero_in s n (k * n) = chunks_zero k (drop n s) (rw length-drop (omega arith)) ∙ behind s (k * n) in
      let f : 0 + n ≡ n = omega arith in
      rw (first, later, e, zero_split s 0 n (k * n), f) refl

  -- by n at a time, and then the last n
  last_part : (s : List ℕ) → n ≤ length s → is_zero (drop (length s - n) s) ≡ zero_in s (length s - n) n
  last_part s h =
      let e : take n (drop (length s - n) s) ≡ drop (length s - n) s = take_all n (drop (length s - n) s) (rw length-drop (omega arith)) in
      rw e at (part_zero s (length s - n) n (omega arith))

  module _ (s : List ℕ) (some : 0 < n) (h : n ≤ length s) {all : Bool} (e : all ≡ list_all is_zero (first_chunks n (length s / n) s)) where
    front : all ≡ zero_in s 0 (length s / n * n)
    front = e ∙ chunks_zero (length s / n) s (div-mul-le_self (length s) n)

    pub last_left : all ≡ true → is_zero (drop (length s - n) s) ≡ is_zero s
    last_left t = last_part s h ∙ zero_last s (length s / n * n) n (div-mul-le_self (length s) n) h (omega (arith, lt-div-mul-add {a = length s} {b = n} some)) (sym front ∙ t)

    pub chunk_lost : all ≡ false → all ≡ is_zero s
    chunk_lost f = f ∙ sym (part_lost s 0 (length s / n * n) (omega (arith, div-mul-le_self (length s) n)) (sym front ∙ f))
