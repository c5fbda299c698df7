-- "The block": the fields of a block r, and of a dose record.
use Rattle.std.specs.Prelude.{ℕ, ◌+◌, ◌*◌, Bool, cond, List, ◌∷◌, ◌++◌, eqb, take, drop}
use Rattle.block.specs.Bytes.{byte_at, half_at, word_at, long_at, bytes_of}
use Rattle.day.specs.Days.{closed_day}
use Rattle.plan.specs.declared.Dose.{Dose}
use Rattle.plan.specs.declared.Header.{Header}

-- "Head: byte 0 = 1"; "Period: byte 0 = 2"; "Continuation: byte 0 = 3"
abbrev pub kind_of : List ℕ → ℕ
kind_of r = byte_at r 0

-- "byte 1 = further blocks"; "byte 1 = doses here"
abbrev pub count_of : List ℕ → ℕ
count_of r = byte_at r 1

-- "2-3 iteration interval, 0 = not iterated"
abbrev pub interval_of : List ℕ → ℕ
interval_of r = half_at r 2

-- "4-7 treatment start"; "4-7 first day"
abbrev pub first_of : List ℕ → ℕ
first_of r = word_at r 4

-- "8-11 treatment end or open"; "8-11 last day or open"
abbrev pub end_of : List ℕ → ℕ
end_of r = word_at r 8

-- "An open last day counts as 73,048."
abbrev pub last_of : List ℕ → ℕ
last_of r = closed_day (end_of r)

-- "2-3 iteration interval ..; 4-7 first day; 8-11 last day or open", together
abbrev pub header_of : List ℕ → Header
header_of r = record { interval = interval_of r; first = first_of r; end = end_of r }

-- "2-3 unit number, unexamined"
abbrev pub unit_of : List ℕ → ℕ
unit_of r = half_at r 2

-- "12-15 plan number; 16-19 revision; 20 = 1 for a VKA plan, else 0"
abbrev pub plan_number_of : List ℕ → ℕ
plan_number_of r = word_at r 12

abbrev pub revision_of : List ℕ → ℕ
revision_of r = word_at r 16

abbrev pub vka_of : List ℕ → ℕ
vka_of r = byte_at r 20

-- "from 24, doses of 24 bytes each": where dose record i begins in its block
abbrev pub record_start : ℕ → ℕ
record_start i = 24 + i * 24

-- dose record i of the block
abbrev pub record_at : List ℕ → ℕ → List ℕ
record_at r i = take 24 (drop (record_start i) r)

-- "Dose: 0-1 day number (0 = AnyDay); 2 time kind; 3 need mark, ..; 4-5 minute; 8-15 low amount; 16-23 high amount."
unfoldable pub dose_of : List ℕ → Dose
dose_of d =
    record {
      day = half_at d 0;
      kind = byte_at d 2;
      mark = byte_at d 3;
      minute = half_at d 4;
      low = long_at d 8;
      high = long_at d 16;
    }

-- bytes 6 and 7 of a dose record, which that sentence does not name
abbrev pub spare_of : List ℕ → ℕ
spare_of d = half_at d 6

-- the same, written: the bytes of a dose record. "Bytes not named below are zero."
unfoldable pub dose_bytes : Dose → List ℕ
dose_bytes d =
    bytes_of 2 d.day ++ (d.kind ∷ d.mark ∷ bytes_of 2 d.minute ++ (0 ∷ 0 ∷ bytes_of 8 d.low ++ bytes_of 8 d.high))

-- "need mark, 1 = as needed (PN), else 0"
abbrev pub is_marked : Dose → Bool
is_marked d = eqb d.mark 1

-- "The upper amount is high, or low where high is 0."
abbrev pub upper_of : Dose → ℕ
upper_of d = cond (eqb d.high 0) d.low d.high
