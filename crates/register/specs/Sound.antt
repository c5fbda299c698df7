-- "A register is sound if ..", as tests on its bytes.
use Rattle.std.specs.Prelude.{ℕ, Bool, cond, not, ◌&&◌, ◌||◌, List, eqb, leb, ltb, take, drop, is_ok}
use Rattle.below.specs.Below.{all_below, any_below}
use Rattle.block.specs.Bytes.{byte_at, is_zero}
use Rattle.block.specs.Sums.{sums_right}
use Rattle.plan.specs.Fields.{plan_number_of}
use Rattle.verdict.specs.Answers.{Answer}
use Rattle.verdict.specs.Verdict.{verdict_of}
use Rattle.register.specs.Slots.{slots_of, slot_at, control_of, blocks_in, first_signer, second_signer, is_free, plan_in, rest_of, holds_at}

abbrev pub is_accepted : Answer → Bool
is_accepted a = is_ok a

-- "every control block is right in form and sums"
unfoldable pub control_right : List ℕ → Bool
control_right s =
    eqb (byte_at s 0) 4
    && leb (blocks_in s) 32
    && is_zero (take 2 (drop 2 s))
    && is_zero (take 492 (drop 12 s))
    && sums_right (control_of s)

-- "second signer stands only beside a different first"
abbrev pub signers_right : List ℕ → Bool
signers_right s =
    eqb (second_signer s) 0 || (not (eqb (first_signer s) 0) && not (eqb (first_signer s) (second_signer s)))

-- "a free slot has no signers and zero room, each held plan is accepted with zero room behind it"
abbrev pub content_right : List ℕ → Bool
content_right s =
    cond (is_free s) (eqb (first_signer s) 0 && eqb (second_signer s) 0) (is_accepted (verdict_of (plan_in s)))
    && is_zero (rest_of s)

unfoldable pub slot_right : List ℕ → Bool
slot_right s = control_right s && signers_right s && content_right s

-- "and no two share a number": slot j holds the number of a slot ahead of it
unfoldable pub clashes : List ℕ → ℕ → Bool
clashes r j = not (is_free (slot_at r j)) && any_below j (holds_at r (plan_number_of (plan_in (slot_at r j))))

-- "if it has a slot, .."
unfoldable pub sound : List ℕ → Bool
sound r =
    ltb 0 (slots_of r)
    && all_below (slots_of r) (λ i. slot_right (slot_at r i))
    && not (any_below (slots_of r) (clashes r))
