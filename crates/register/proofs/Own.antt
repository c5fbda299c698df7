-- Reading an encoded slot gives back what it was encoded from; an encoded slot is right, and a right slot of bytes is the
-- encoding of what is read from it. Assumes nothing.
use Rattle.std.specs.Prelude.{Err, Ok}
use Prim.Native.Nat.{ℕ, zero, suc, ◌+◌, ◌-◌, ◌*◌, ◌/◌, ◌%◌, ◌≤◌, ◌<◌}
use mathlib.Core.Bool.{Bool, true, false, cond, not, ◌&&◌, ◌||◌}
use mathlib.Core.List.{List, [], ◌∷◌, ◌++◌}
use mathlib.Core.Logic.{⊎_elim}
use mathlib.Core.Path.{◌≡◌, refl, sym, ap, ◌∙◌}
use native.Mathlib.Omega.{arith}
use lib.Dec.{eqb, ltb}
use lib.ListN.{length, take, drop, replicate, length-drop, take-append-drop, get_or-append, get_or-eq_default}
use lib.Seq.{take_at, drop_at, drop-drop, length-take-le, get_or-take, get_or-drop}
use borrow.Author.Tests.{eq-eqb, eqb-true, eqb-false, ne_eqb, le-leb, leb-true, ltb-false, not-false}
use Rattle.below.proofs.Tests.{true_not_false, and_both, both_and, or_neither, le_or_lt}
use Rattle.block.proofs.Numbers.{AreBytes, number_same, number_bytes}
use Rattle.block.proofs.Pieces.{piece_byte, piece_number}
use Rattle.block.proofs.Sealing.{sealed_right, sealed_again}
use Rattle.block.proofs.Zero.{at_zero, zero_at, zeros, zeros_zero}
use Rattle.block.specs.Bytes.{byte_at, number_at, bytes_of, is_zero}
use Rattle.block.specs.Sums.{sealed, sums_right}
use Rattle.layout.proofs.Blocks.{length_filled, byte_filled, byte_sealed}
use Rattle.layout.proofs.Bytes.{part_bytes_lem}
use Rattle.layout.specs.Layout.{filled}
use Rattle.verdict.proofs.Exactly.{accepted_only}
use Rattle.verdict.specs.Answers.{Answer}
use Rattle.verdict.specs.Verdict.{verdict_of}
use Rattle.register.specs.Slots.{blocks_in, first_signer, second_signer, is_free, plan_in, rest_of, control_bytes, slot_bytes}
use Rattle.register.specs.Sound.{is_accepted, control_right, signers_right, slot_right}
use Rattle.register.specs.Steps.{free_slot}
use Rattle.register.proofs.Writing.{length_control, length_slot_bytes as slot_long}

-- a plan that a slot has room for: whole blocks, at most 32
pub record Whole (p : List ℕ) : Type 0 where
  pub multiple : length p % 512 ≡ 0
  pub most : length p ≤ 16384

-- the bytes of a control block that are named
module _ (k a b : ℕ) where
  unfoldable pub named : List ℕ
  named = 4 ∷ k ∷ 0 ∷ 0 ∷ bytes_of 4 a ++ bytes_of 4 b

  length_named : length named ≡ 12
  unfolding named bytes_of
  length_named = refl

  control_is : control_bytes k a b ≡ sealed (filled named)
  unfolding control_bytes named
  control_is = refl

  control_byte : (j : ℕ) → j < 504 → byte_at (control_bytes k a b) j ≡ byte_at named j
  control_byte j l = rw control_is (byte_sealed named (omega (arith, length_named)) j l)

  control_sums : sums_right (control_bytes k a b) ≡ true
  control_sums = rw control_is (sealed_right (filled named) (length_filled named (omega (arith, length_named))))

module _ (p : List ℕ) (a b : ℕ) where
  pub length_slot_bytes : Whole p → length (slot_bytes p a b) ≡ 16896
  length_slot_bytes w = slot_long p a b w.most

  -- its control block, and the room behind that
  pub control_back : take 512 (slot_bytes p a b) ≡ control_bytes (length p / 512) a b
  unfolding slot_bytes
  control_back = take_at (control_bytes (length p / 512) a b) _ 512 (length_control (length p / 512) a b)

  pub room_back : drop 512 (slot_bytes p a b) ≡ p ++ replicate (16384 - length p) 0
  unfolding slot_bytes
  room_back = drop_at (control_bytes (length p / 512) a b) _ 512 (length_control (length p / 512) a b)

  slot_byte : (j : ℕ) → j < 504 → byte_at (slot_bytes p a b) j ≡ byte_at (named (length p / 512) a b) j
  unfolding slot_bytes
  slot_byte j l =
      get_or-append (control_bytes (length p / 512) a b) (p ++ replicate (16384 - length p) 0) 0 j (omega (arith, length_control (length p / 512) a b)) ∙
      control_byte (length p / 512) a b j l

  slot_number : (w j : ℕ) → j + w ≤ 504 → number_at w (slot_bytes p a b) j ≡ number_at w (named (length p / 512) a b) j
  slot_number w j l = number_same w (slot_bytes p a b) (named (length p / 512) a b) j j (λ k m. slot_byte (j + k) (omega arith))

  pub kind_back : byte_at (slot_bytes p a b) 0 ≡ 4
  unfolding named
  kind_back = slot_byte 0 (omega arith)

  pub blocks_back : blocks_in (slot_bytes p a b) ≡ length p / 512
  unfolding named
  blocks_back = slot_byte 1 (omega arith)

  pub held_back : 0 < length p / 512 → is_free (slot_bytes p a b) ≡ false
  held_back l = rw blocks_back (ne_eqb (length p / 512) 0 (λ z. omega arith))

  pub first_back : a < 4294967296 → first_signer (slot_bytes p a b) ≡ a
  unfolding named bytes_of number_at
  first_back f = slot_number 4 4 (omega arith) ∙ number_bytes 4 a f

  pub second_back : b < 4294967296 → second_signer (slot_bytes p a b) ≡ b
  unfolding named bytes_of number_at
  second_back f = slot_number 4 8 (omega arith) ∙ number_bytes 4 b f

  pub plan_back : Whole p → plan_in (slot_bytes p a b) ≡ p
  unfolding plan_in
  plan_back w =
      rw (blocks_back, room_back)
      (take_at p (replicate (16384 - length p) 0) (length p / 512 * 512) (omega (arith, w.multiple)))

  pub rest_back : Whole p → rest_of (slot_bytes p a b) ≡ replicate (16384 - length p) 0
  unfolding rest_of
  rest_back w =
      rw (blocks_back, ← (drop-drop (length p / 512 * 512) 512 (slot_bytes p a b)), room_back)
      (drop_at p (replicate (16384 - length p) 0) (length p / 512 * 512) (omega (arith, w.multiple)))

-- what a right slot is like, test by test
pub record RightSlot (s : List ℕ) : Type 0 where
  pub kind : byte_at s 0 ≡ 4
  pub few : blocks_in s ≤ 32
  pub gap : is_zero (take 2 (drop 2 s)) ≡ true
  pub blank : is_zero (take 492 (drop 12 s)) ≡ true
  pub sums : sums_right (take 512 s) ≡ true
  pub signers : signers_right s ≡ true
  pub content : cond (is_free s) (eqb (first_signer s) 0 && eqb (second_signer s) 0) (is_accepted (verdict_of (plan_in s))) ≡ true
  pub rest : is_zero (rest_of s) ≡ true

module _ (s : List ℕ) where
  pub right_facts : slot_right s ≡ true → RightSlot s
  unfolding slot_right control_right
  right_facts e =
      let x = and_both _ _ e in
      let y = and_both _ _ x.0 in
      let z = and_both _ _ x.1 in
      let c5 = and_both _ _ y.0 in
      let c4 = and_both _ _ c5.0 in
      let c3 = and_both _ _ c4.0 in
      let c2 = and_both _ _ c3.0 in
      record {
        kind = eqb-true _ _ c2.0;
        few = leb-true _ _ c2.1;
        gap = c3.1;
        blank = c4.1;
        sums = c5.1;
        signers = y.1;
        content = z.0;
        rest = z.1;
      }

  pub facts_right : RightSlot s → slot_right s ≡ true
  unfolding slot_right control_right
  facts_right f =
      both_and
      (both_and
      (both_and (both_and (both_and (both_and (eq-eqb _ _ f.kind) (le-leb _ _ f.few)) f.gap) f.blank) f.sums)
      f.signers)
      (both_and f.content f.rest)

-- an accepted plan is 1 to 32 whole blocks: rule 1
accepted_some : (x : Answer) → is_accepted x ≡ true → (n : ℕ) × (x ≡ Ok n)
accepted_some (Ok n) e = (n, refl)
accepted_some (Err r) e = absurd (true_not_false e refl)

module _ (p : List ℕ) (e : is_accepted (verdict_of p) ≡ true) where
  long_right : (length p ≡ 0 → ⊥) × (length p % 512 ≡ 0) × (length p ≤ 16384)
  long_right =
      let some = accepted_some (verdict_of p) e in
      let x = or_neither _ (ltb 16384 (length p)) (accepted_only p some.1).long in
      let y = or_neither (eqb (length p) 0) (not (eqb (length p % 512) 0)) x.0 in
      (eqb-false _ _ y.0, eqb-true _ _ (not-false _ y.1), ltb-false _ _ x.1)

  pub accepted_whole : Whole p
  accepted_whole = record { multiple = long_right.1; most = long_right.2 }

  pub accepted_block : 0 < length p / 512
  accepted_block =
      ⊎_elim (λ (h : length p ≤ 0). absurd (long_right.0 (omega arith))) (λ (h : 0 < length p). omega (arith, accepted_whole.multiple)) (le_or_lt (length p) 0)

-- an encoded slot is right where its content is
module _ (p : List ℕ) (a b : ℕ) (w : Whole p) where
  zero_part : (o n : ℕ) → o + n ≤ 504 → ((i : ℕ) → i < n → byte_at (named (length p / 512) a b) (o + i) ≡ 0) → is_zero (take n (drop o (slot_bytes p a b))) ≡ true
  zero_part o n h z =
      let long : length (take n (drop o (slot_bytes p a b))) ≡ n = length-take-le n _ (rw (length-drop, length_slot_bytes p a b w) (omega arith)) in
      at_zero _
      (λ i l.
      let q : i < n = rw long at l in
      get_or-take n (drop o (slot_bytes p a b)) i 0 q ∙ get_or-drop o (slot_bytes p a b) i 0 ∙ slot_byte p a b (o + i) (omega arith) ∙ z i q)

  gap_named : (i : ℕ) → i < 2 → byte_at (named (length p / 512) a b) (2 + i) ≡ 0
  unfolding named
  gap_named zero l = refl
  gap_named (suc zero) l = refl
  gap_named (suc (suc i)) l = absurd (omega arith)

  pub encoded_facts : signers_right (slot_bytes p a b) ≡ true →
      cond (is_free (slot_bytes p a b)) (eqb (first_signer (slot_bytes p a b)) 0 && eqb (second_signer (slot_bytes p a b)) 0) (is_accepted (verdict_of (plan_in (slot_bytes p a b)))) ≡ true →
      RightSlot (slot_bytes p a b)
  encoded_facts signers content =
      record {
        kind = kind_back p a b;
        few = rw (blocks_back p a b) (omega (arith, w.most));
        gap = zero_part 2 2 (omega arith) gap_named;
        blank = zero_part 12 492 (omega arith) (λ i l. get_or-eq_default (named (length p / 512) a b) 0 (omega (arith, length_named (length p / 512) a b)));
        sums = rw (control_back p a b) (control_sums (length p / 512) a b);
        signers = signers;
        content = content;
        rest = rw (rest_back p a b w) (zeros_zero (16384 - length p));
      }

-- "second signer stands only beside a different first"
abbrev pub pair_right : ℕ → ℕ → Bool
pair_right a b = eqb b 0 || (not (eqb a 0) && not (eqb a b))

module _ (p : List ℕ) (a b : ℕ) (f : a < 4294967296) (g : b < 4294967296) where
  signers_back : pair_right a b ≡ true → signers_right (slot_bytes p a b) ≡ true
  signers_back e = rw (first_back p a b f, second_back p a b g) e

  -- a slot that holds an accepted plan
  pub encoded_right : is_accepted (verdict_of p) ≡ true → pair_right a b ≡ true → slot_right (slot_bytes p a b) ≡ true
  encoded_right e q =
      let w = accepted_whole p e in
      facts_right (slot_bytes p a b)
      (encoded_facts p a b w (signers_back q)
      (rw (held_back p a b (accepted_block p e), plan_back p a b w) e))

-- a free slot
pub empty_whole : Whole []
empty_whole = record { multiple = refl; most = omega arith }

pub free_is_free : is_free free_slot ≡ true
free_is_free = rw (blocks_back [] 0 0)

pub free_right : slot_right free_slot ≡ true
free_right =
    facts_right free_slot
    (encoded_facts [] 0 0 empty_whole (signers_back [] 0 0 (omega arith) (omega arith) refl)
    (rw (free_is_free, first_back [] 0 0 (omega arith), second_back [] 0 0 (omega arith))))

-- the plan in a right slot is whole blocks
module _ (s : List ℕ) (f : RightSlot s) (long : length s ≡ 16896) where
  pub length_plan : length (plan_in s) ≡ blocks_in s * 512
  unfolding plan_in
  length_plan = length-take-le (blocks_in s * 512) (drop 512 s) (rw (length-drop, long) (omega (arith, f.few)))

  pub whole_in : Whole (plan_in s)
  whole_in = record { multiple = omega (arith, length_plan); most = omega (arith, length_plan, f.few) }

-- a right slot of bytes is its own encoding
module _ (s : List ℕ) (f : RightSlot s) (bytes : AreBytes s) (long : length s ≡ 16896) where
  -- the twelve named bytes, and the zeros behind them
  front : s ≡ named (blocks_in s) (first_signer s) (second_signer s) ++ drop 12 s
  unfolding named bytes_of
  front =
      piece_byte s 0 (omega arith) f.kind
      (piece_byte s 1 (omega arith) refl
      (piece_byte s 2 (omega arith) (gap_at 0 (omega arith))
      (piece_byte s 3 (omega arith) (gap_at 1 (omega arith))
      (piece_number s bytes 4 4 (omega arith) (piece_number s bytes 8 4 (omega arith) refl)))))
    where
      gap_at : (i : ℕ) → i < 2 → byte_at s (2 + i) ≡ 0
      gap_at i l =
          let n : length (take 2 (drop 2 s)) ≡ 2 = length-take-le 2 (drop 2 s) (rw (length-drop, long) (omega arith)) in
          sym (get_or-take 2 (drop 2 s) i 0 l ∙ get_or-drop 2 s i 0) ∙ zero_at (take 2 (drop 2 s)) f.gap i (omega arith)

  blank_at : (j : ℕ) → 12 ≤ j → j < 504 → byte_at s j ≡ 0
  blank_at j l h =
      let n : length (take 492 (drop 12 s)) ≡ 492 = length-take-le 492 (drop 12 s) (rw (length-drop, long) (omega arith)) in
      let e : 12 + (j - 12) ≡ j = omega arith in
      let k : j - 12 < 492 = omega arith in
      ap (byte_at s) (sym e) ∙
      sym (get_or-take 492 (drop 12 s) (j - 12) 0 k ∙ get_or-drop 12 s (j - 12) 0) ∙
      zero_at (take 492 (drop 12 s)) f.blank (j - 12) (omega arith)

  abbrev names : List ℕ
  names = named (blocks_in s) (first_signer s) (second_signer s)

  names_agree : (j : ℕ) → j < 504 → byte_at (filled names) j ≡ byte_at (take 512 s) j
  names_agree j l =
      let n = length_named (blocks_in s) (first_signer s) (second_signer s) in
      let t : byte_at (take 512 s) j ≡ byte_at s j = get_or-take 512 s j 0 (omega arith) in
      byte_filled names j ∙
      ⊎_elim
      (λ (h : 12 ≤ j). get_or-eq_default names 0 (omega arith) ∙ sym (t ∙ blank_at j h l))
      (λ (h : j < 12). sym (t ∙ ap (λ (x : List ℕ). byte_at x j) front ∙ get_or-append names (drop 12 s) 0 j (omega arith)))
      (le_or_lt 12 j)

  control_own : control_bytes (blocks_in s) (first_signer s) (second_signer s) ≡ take 512 s
  control_own =
      let n : length (take 512 s) ≡ 512 = length-take-le 512 s (omega arith) in
      rw (control_is (blocks_in s) (first_signer s) (second_signer s))
      (sealed_again (filled names) (take 512 s)
      (length_filled names (omega (arith, length_named (blocks_in s) (first_signer s) (second_signer s)))) n
      (part_bytes_lem s 0 512 bytes) f.sums names_agree)

  room_own : drop 512 s ≡ plan_in s ++ replicate (16384 - length (plan_in s)) 0
  unfolding plan_in rest_of
  room_own =
      let m : length (rest_of s) ≡ 16384 - length (plan_in s) = rw length-drop (omega (arith, length_plan s f long, f.few)) in
      let z : rest_of s ≡ replicate (16384 - length (plan_in s)) 0 = zeros (rest_of s) f.rest ∙ ap (λ (n : ℕ). replicate n 0) m in
      sym (take-append-drop (blocks_in s * 512) (drop 512 s)) ∙
      ap (λ (t : List ℕ). plan_in s ++ t) (drop-drop (blocks_in s * 512) 512 s ∙ z)

  pub own_encoding : s ≡ slot_bytes (plan_in s) (first_signer s) (second_signer s)
  unfolding slot_bytes
  own_encoding =
      let k : length (plan_in s) / 512 ≡ blocks_in s = omega (arith, length_plan s f long) in
      rw (k, control_own, ← room_own) (sym (take-append-drop 512 s))

pub right_own : (s : List ℕ) → slot_right s ≡ true → AreBytes s → length s ≡ 16896 → s ≡ slot_bytes (plan_in s) (first_signer s) (second_signer s)
right_own s e bytes long = own_encoding s (right_facts s e) bytes long
