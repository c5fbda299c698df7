-- What each call on a register answers, and what bytes it leaves. A call is refused with a number and a place; 0 and 255 stand
-- for a call that is not.
use Rattle.std.specs.Prelude.{ℕ, ◌*◌, Bool, true, false, cond, not, ◌&&◌, List, [], ◌∷◌, ◌++◌, ◌≡◌, eqb, ltb, length, drop as from, Err, Ok, Result}
use Rattle.below.specs.Lists.{join_below}
use Rattle.plan.specs.Fields.{plan_number_of, revision_of}
use Rattle.refusal.specs.declared.Refusal.{Refusal}
use Rattle.refusal.specs.Refusals.{alone}
use Rattle.verdict.specs.Answers.{Answer}
use Rattle.verdict.specs.Verdict.{verdict_of}
use Rattle.register.specs.Slots.{slot_size, room_size, slots_of, first_signer, second_signer, slot_bytes, with_slot, held_at, is_held, free_at, has_free, slot_under, plan_under}
use Rattle.register.specs.Sound.{sound}

-- the calls; of release's output buffer, its bytes ahead of the call
pub data Call : Type 0 where
  clear : Call
  submit : List ℕ → Call
  sign : ℕ → List ℕ → Call
  release : ℕ → List ℕ → Call
  drop : ℕ → Call
  state : ℕ → Call

-- the answer of any call: what it does not give is 0
pub record Answered : Type 0 where
  pub refusal : Refusal
  -- release: "its length"
  pub length : ℕ
  -- state: "revision and count of signers"
  pub revision : ℕ
  pub signers : ℕ

abbrev pub done : Refusal
done = alone 0

abbrev pub is_done : Refusal → Bool
is_done x = eqb x.number 0

-- a refusal of the verdict is passed on
abbrev pub unless_broken : Answer → Refusal → Refusal
unless_broken (Ok n) x = x
unless_broken (Err r) x = r

-- "32 number held, revision not greater"
abbrev pub is_stale : List ℕ → List ℕ → Bool
is_stale r p =
    is_held r (plan_number_of p) && not (ltb (revision_of (plan_under r (plan_number_of p))) (revision_of p))

-- "31 number not held and no slot free"
abbrev pub is_full : List ℕ → List ℕ → Bool
is_full r p = not (is_held r (plan_number_of p)) && not (has_free r)

-- two lists of bytes are the same
unfoldable pub same : List ℕ → List ℕ → Bool
same [] [] = true
same [] (y ∷ ys) = false
same (x ∷ xs) [] = false
same (x ∷ xs) (y ∷ ys) = eqb x y && same xs ys

-- "Order: submit 30, 1-17, 32, 31; sign 30, 35, 1-17, 33, 34, 37, 36; release 30, 39, 33, 38; drop and state 30, 33."
-- "30 register not sound"; "33 number not held"; "34 bytes differ from those held"; "35 signer 0"; "36 signer is already the first";
-- "37 two signers stand"; "38 fewer than two"; "39 output under 16,384 bytes"
unfoldable pub refused_by : List ℕ → Call → Refusal
-- "only 30 if shorter than one slot"
refused_by r clear = cond (ltb 0 (slots_of r)) done (alone 30)
refused_by r (submit p) =
    cond (not (sound r)) (alone 30)
    (unless_broken (verdict_of p)
    (cond (is_stale r p) (alone 32)
    (cond (is_full r p) (alone 31)
    done)))
refused_by r (sign signer p) =
    let n = plan_number_of p in
    cond (not (sound r)) (alone 30)
    (cond (eqb signer 0) (alone 35)
    (unless_broken (verdict_of p)
    (cond (not (is_held r n)) (alone 33)
    (cond (not (same p (plan_under r n))) (alone 34)
    (cond (not (eqb (second_signer (slot_under r n)) 0)) (alone 37)
    (cond (eqb (first_signer (slot_under r n)) signer) (alone 36)
    done))))))
refused_by r (release n room) =
    cond (not (sound r)) (alone 30)
    (cond (ltb (length room) room_size) (alone 39)
    (cond (not (is_held r n)) (alone 33)
    (cond (eqb (second_signer (slot_under r n)) 0) (alone 38)
    done)))
refused_by r (drop n) = cond (not (sound r)) (alone 30) (cond (not (is_held r n)) (alone 33) done)
refused_by r (state n) = cond (not (sound r)) (alone 30) (cond (not (is_held r n)) (alone 33) done)

-- a free slot's bytes
abbrev pub free_slot : List ℕ
free_slot = slot_bytes [] 0 0

-- the slot with a signer more
abbrev pub signed_slot : List ℕ → ℕ → List ℕ → List ℕ
signed_slot s signer p =
    cond (eqb (first_signer s) 0) (slot_bytes p signer 0) (slot_bytes p (first_signer s) signer)

-- the register's bytes after a call that is not refused
unfoldable pub changed : List ℕ → Call → List ℕ
-- "Clear: frees every slot"
changed r clear = join_below (slots_of r) (λ i. free_slot) ++ from (slots_of r * slot_size) r
-- "Submit: new number, lowest free slot, no signers; held number, same slot, replaced and signers wiped."
changed r (submit p) =
    let n = plan_number_of p in
    with_slot r (cond (is_held r n) (held_at r n) (free_at r)) (slot_bytes p 0 0)
-- "Sign: signer and the whole plan as seen."
changed r (sign signer p) =
    let n = plan_number_of p in
    with_slot r (held_at r n) (signed_slot (slot_under r n) signer p)
-- "the slot stays"
changed r (release n room) = r
-- "Drop: frees the slot."
changed r (drop n) = with_slot r (held_at r n) free_slot
changed r (state n) = r

-- a refused call changes no byte
unfoldable pub after : List ℕ → Call → List ℕ
after r c = cond (is_done (refused_by r c)) (changed r c) r

-- how many signers stand in a slot
abbrev pub signers_in : List ℕ → ℕ
signers_in s = cond (eqb (first_signer s) 0) 0 (cond (eqb (second_signer s) 0) 1 2)

abbrev pub nothing_but : Refusal → Answered
nothing_but x = record { refusal = x; length = 0; revision = 0; signers = 0 }

-- what a call that is not refused gives
unfoldable pub given : List ℕ → Call → Answered
given r clear = nothing_but done
given r (submit p) = nothing_but done
given r (sign signer p) = nothing_but done
given r (release n room) = record { refusal = done; length = length (plan_under r n); revision = 0; signers = 0 }
given r (drop n) = nothing_but done
given r (state n) =
    record { refusal = done; length = 0; revision = revision_of (plan_under r n); signers = signers_in (slot_under r n) }

-- "A refused call gives the number, its place and otherwise zeros."
unfoldable pub answered : List ℕ → Call → Answered
answered r c = cond (is_done (refused_by r c)) (given r c) (nothing_but (refused_by r c))

-- release's output buffer afterwards: "The plan into an output buffer ..; bytes behind untouched"
unfoldable pub room_after : List ℕ → ℕ → List ℕ → List ℕ
room_after r n room =
    cond (is_done (refused_by r (release n room))) (plan_under r n ++ from (length (plan_under r n)) room) room

-- what a caller gets: what he asks of the answer, or why the call is refused
abbrev pub outcome : {X : Type 0} → (Answered → X) → Answered → Result X Refusal
outcome give a = cond (is_done a.refusal) (Ok (give a)) (Err a.refusal)

-- a call on a register, as one statement: what the caller gets, and each byte of the register afterwards
pub record Called {X : Type 0} (before : List ℕ) (c : Call) (give : Answered → X) (got : Result X Refusal) (left : List ℕ) : Type 0 where
  pub answer : got ≡ outcome give (answered before c)
  pub bytes : left ≡ after before c
