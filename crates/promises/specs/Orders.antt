-- The numbers of refusals in the orders that document 01 sets, and when each is given.
use Rattle.std.specs.Prelude.{ℕ, Bool, false, cond, not, ◌||◌, List, [], ◌∷◌, ◌++◌, eqb, leb, ltb, length}
use Rattle.below.specs.Below.{any_below}
use Rattle.day.specs.Days.{is_day}
use Rattle.form.specs.Form.{bad_length}
use Rattle.plan.specs.Fields.{plan_number_of}
use Rattle.plan.specs.Periods.{blocks_of}
use Rattle.register.specs.Slots.{room_size, slots_of, first_signer, second_signer, is_held, slot_under, plan_under}
use Rattle.register.specs.Sound.{sound}
use Rattle.register.specs.Steps.{Call, Call.clear, Call.submit, Call.sign, Call.release, Call.drop, Call.state, is_stale, is_full, same}
use Rattle.screen.specs.Calls.{too_short}
use Rattle.split.specs.Split.{too_small}
use Rattle.need.specs.Need.{is_choice, stop_day, has_stop}
use Rattle.verdict.specs.Verdict.{plan_limit, breaks}

-- the first number of an order that is given, or 0 where none is
unfoldable pub first_given : (ℕ → Bool) → List ℕ → ℕ
first_given given [] = 0
first_given given (k ∷ ks) = cond (given k) k (first_given given ks)

-- "1-17"
abbrev pub rules : List ℕ
rules = 1 ∷ 2 ∷ 3 ∷ 4 ∷ 5 ∷ 6 ∷ 7 ∷ 8 ∷ 9 ∷ 10 ∷ 11 ∷ 12 ∷ 13 ∷ 14 ∷ 15 ∷ 16 ∷ 17 ∷ []

-- rule k of the table is broken: rule 1 by the length, any other at some block
abbrev pub is_broken : List ℕ → ℕ → Bool
is_broken p k = cond (eqb k 1) (bad_length plan_limit p) (any_below (blocks_of p) (breaks p k))

-- W1: "the set is refused by 1 to 17 and 20 to 22 only"
abbrev pub dates_order : List ℕ
dates_order = rules ++ (20 ∷ 21 ∷ 22 ∷ [])

abbrev pub given_by_dates : List ℕ → ℕ → ℕ → Bool → ℕ → Bool
given_by_dates p start pack pausesOut k =
    cond (eqb k 20) (ltb 1000000000000 pack)
    (cond (eqb k 21) pausesOut
    (cond (eqb k 22) (not (is_day start))
    (is_broken p k)))

-- supply: "After the verdict, in order: 20 ..; 21 ..; 22 ..; 23 ..; 24 .."; W1: "23 now means not 1 to 4; 24 reads the choice's own stop day"
abbrev pub supply_order : List ℕ
supply_order = rules ++ (20 ∷ 21 ∷ 22 ∷ 23 ∷ 24 ∷ [])

abbrev pub given_by_supply : List ℕ → ℕ → ℕ → ℕ → Bool → ℕ → Bool
given_by_supply p start pack choice pausesOut k =
    cond (eqb k 23) (not (is_choice choice))
    (cond (eqb k 24) (not (has_stop choice p) || ltb (stop_day choice p) start)
    (given_by_dates p start pack pausesOut k))

-- split: "else 25, after the verdict"
abbrev pub split_order : List ℕ
split_order = rules ++ (25 ∷ [])

abbrev pub given_by_split : List ℕ → List ℕ → List ℕ → ℕ → Bool
given_by_split p fixed need k = cond (eqb k 25) (too_small fixed need) (is_broken p k)

-- "Order: submit 30, 1-17, 32, 31; sign 30, 35, 1-17, 33, 34, 37, 36; release 30, 39, 33, 38; drop and state 30, 33."
abbrev pub order_of : Call → List ℕ
order_of clear = 30 ∷ []
order_of (submit p) = 30 ∷ rules ++ (32 ∷ 31 ∷ [])
order_of (sign signer p) = 30 ∷ 35 ∷ rules ++ (33 ∷ 34 ∷ 37 ∷ 36 ∷ [])
order_of (release n room) = 30 ∷ 39 ∷ 33 ∷ 38 ∷ []
order_of (drop n) = 30 ∷ 33 ∷ []
order_of (state n) = 30 ∷ 33 ∷ []

-- the table of the register: what is said of the held number n, a signer, and a plan p
abbrev pub given_under : List ℕ → ℕ → ℕ → Bool
given_under r n k =
    cond (eqb k 30) (not (sound r))
    (cond (eqb k 33) (not (is_held r n))
    (cond (eqb k 37) (not (eqb (second_signer (slot_under r n)) 0))
    (cond (eqb k 38) (eqb (second_signer (slot_under r n)) 0)
    false)))

abbrev pub given_by_call : List ℕ → Call → ℕ → Bool
-- "30 .. for clear only: no slot"
given_by_call r clear k = not (ltb 0 (slots_of r))
given_by_call r (submit p) k =
    cond (eqb k 31) (is_full r p)
    (cond (eqb k 32) (is_stale r p)
    (cond (leb k 17) (is_broken p k) (given_under r (plan_number_of p) k)))
given_by_call r (sign signer p) k =
    cond (eqb k 34) (not (same p (plan_under r (plan_number_of p))))
    (cond (eqb k 35) (eqb signer 0)
    (cond (eqb k 36) (eqb (first_signer (slot_under r (plan_number_of p))) signer)
    (cond (leb k 17) (is_broken p k) (given_under r (plan_number_of p) k))))
given_by_call r (release n room) k = cond (eqb k 39) (ltb (length room) room_size) (given_under r n k)
given_by_call r (drop n) k = given_under r n k
given_by_call r (state n) k = given_under r n k

-- the calls of the screen: "a buffer under 32 bytes is 26, ahead of all else", likewise for n bytes
abbrev pub given_by_screen : ℕ → List ℕ → (ℕ → Bool) → ℕ → Bool
given_by_screen n out given k = cond (eqb k 26) (too_short n out) (given k)
