-- Document 01, "Worked on paper": "The P cases are proved as a single statement over a list."
use Rattle.refusal.specs.Refusals.{refusal_in}
use Rattle.std.specs.Prelude.{ℕ, List, [], ◌∷◌, ◌++◌, ◌≡◌, replicate, Ok, Some}
use Rattle.block.specs.Bytes.{bytes_of, put}
use Rattle.block.specs.Sums.{sums_of}
use Rattle.day.specs.Days.{open_mark, named_by, Shows}
use Rattle.day.specs.declared.Date.{Date}
use Rattle.below.specs.Lists.{Every}
use Rattle.layout.specs.Layout.{Written}
use Rattle.pause.specs.declared.Pause.{Pause}
use Rattle.register.specs.Runs.{numbers_of}
use Rattle.register.specs.Steps.{Call, Call.clear, Call.submit, Call.sign, Call.release}
use Rattle.supply.specs.Supply.{supply_of, packed_supply_of}
use Rattle.supply.specs.declared.Lasting.{Lasting}
use Rattle.verdict.specs.Verdict.{verdict_of}
use Rattle.promises.specs.Plans.{unmarked, daily, fixed, need, mixed, empty, plan, revision}

-- what is asked, and the paper's answer
pub data Case : Type 0 where
  -- year, month and day of a date, and its number
  dated : ℕ → ℕ → ℕ → ℕ → Case
  -- words 0 and 1 of a block, the others being 0, and its two sums
  summed : ℕ → ℕ → ℕ → ℕ → Case
  -- the periods of a plan; number and place of its verdict
  judged : List Written → ℕ → ℕ → Case
  -- the periods of a plan, the start, the pack, the pauses, and the same in 8 bytes each; days, last covered day, rest and reason
  supplied : List Written → ℕ → ℕ → List Pause → List ℕ → Lasting → Case
  -- calls on a register of one slot, and the numbers that they answer
  called : List Call → List ℕ → Case

-- a block with these words 0 and 1
unfoldable pub two_words : ℕ → ℕ → List ℕ
two_words w0 w1 = put (put (replicate 512 0) 0 (bytes_of 4 w0)) 4 (bytes_of 4 w1)

-- a register of one slot, and an output buffer, both of zeros
unfoldable pub one_slot : List ℕ
one_slot = replicate 16896 0

unfoldable pub output : List ℕ
output = replicate 16384 0

-- the definitions give the paper's answer: dates both ways; supply by either choice, since the amounts are single, with a list of
-- pauses and in the call that the screen makes
abbrev pub Holds : Case → Type 0
Holds (dated y m d n) =
    let date : Date = record { year = y; month = m; day = d } in
    (named_by date ≡ Some (record { number = n })) × Shows n (Some date)
Holds (summed w0 w1 a b) = sums_of (two_words w0 w1) ≡ record { first = a; second = b }
Holds (judged ws k b) = refusal_in (verdict_of (plan ws)) ≡ record { number = k; place = b }
Holds (supplied ws start pack ps s x) =
    (supply_of (plan ws) start pack 1 ps ≡ Ok x)
    × (supply_of (plan ws) start pack 2 ps ≡ Ok x)
    × (packed_supply_of (plan ws) start pack 1 s ≡ Ok x)
    × (packed_supply_of (plan ws) start pack 2 s ≡ Ok x)
Holds (called cs ns) = numbers_of one_slot cs ≡ ns

-- "1.00 daily to 8105"; "2.00 daily, open"
unfoldable pub one_daily : List Written
one_daily = daily 8000 8105 (unmarked 100 ∷ []) ∷ []

unfoldable pub two_daily : List Written
two_daily = daily 8000 open_mark (unmarked 200 ∷ []) ∷ []

-- the plan of P14, in revision n; its two signers
unfoldable pub signed_plan : ℕ → List ℕ
signed_plan n = revision n (fixed 8000 open_mark ∷ [])

abbrev pub A : ℕ
A = 11

abbrev pub B : ℕ
B = 12

abbrev pub cases : List Case
cases =
    -- "P1 2000-03-01 is 60."
    dated 2000 3 1 60 ∷
    -- "P2 2100-02-28 is 36,583, 2100-03-01 is 36,584."
    dated 2100 2 28 36583 ∷
    dated 2100 3 1 36584 ∷
    -- "P3 2017-12-04 is 6,547."
    dated 2017 12 4 6547 ∷
    -- "P4 only word 0 is 1: sums 1, 126."
    summed 1 0 1 126 ∷
    -- "P5 word 0 all ones, word 1 is 1: sums 0, 4,294,967,295."
    summed 4294967295 1 0 4294967295 ∷
    -- "P6 fixed 6547-6550 and 6557-6560: 17."
    judged (fixed 6547 6550 ∷ fixed 6557 6560 ∷ []) 17 255 ∷
    -- "P7 with empty 6551-6556: 0."
    judged (fixed 6547 6550 ∷ empty 6551 6556 ∷ fixed 6557 6560 ∷ []) 0 255 ∷
    -- "P8 fixed 6547-6550, need 6551-6554, fixed 6555-6558: 17."
    judged (fixed 6547 6550 ∷ need 6551 6554 ∷ fixed 6555 6558 ∷ []) 17 255 ∷
    -- "P9 fixed 6547-6550, mixed 6548-6551: 16."
    judged (fixed 6547 6550 ∷ mixed 6548 6551 ∷ []) 16 2 ∷
    -- "P10 1.00 daily to 8105, start 8077, pack 500.00: 29 days, 8105, rest 471.00, reason 2."
    supplied one_daily 8077 50000 [] [] (record { days = 29; last = 8105; rest = 47100; reason = 2 }) ∷
    -- "P11 2.00 daily, open, start 8077, pack 5.00: 2 days, 8078, rest 1.00, reason 1."
    supplied two_daily 8077 500 [] [] (record { days = 2; last = 8078; rest = 100; reason = 1 }) ∷
    -- "P12 pack 1.99: 0 days, rest 1.99."
    supplied two_daily 8077 199 [] [] (record { days = 0; last = open_mark; rest = 199; reason = 1 }) ∷
    -- "P13 as P11, pause 8078-8080: 5 days, 8081, rest 1.00."
    supplied two_daily 8077 500 (record { first = 8078; last = 8080 } ∷ []) (bytes_of 4 8078 ++ bytes_of 4 8080)
    (record { days = 5; last = 8081; rest = 100; reason = 1 }) ∷
    -- "P14 submit revision 4, A signs, submit 5, B signs it, release: 38."
    called
    (clear ∷ submit (signed_plan 4) ∷ sign A (signed_plan 4) ∷ submit (signed_plan 5) ∷ sign B (signed_plan 5) ∷ release 1 output ∷ [])
    (0 ∷ 0 ∷ 0 ∷ 0 ∷ 0 ∷ 38 ∷ []) ∷ []

-- the single statement
abbrev pub Paper : Type 0
Paper = Every Holds cases
