-- What the calls that write a part add to it, wherever the writing stands. No rule is stated here.
use Rattle.std.specs.Prelude.{ℕ, ◌+◌, ◌-◌, ◌≤◌, Bool, List, [], ◌∷◌, ◌++◌, length}
use Rattle.below.specs.Lists.{list_below, keep, join_over}
use Rattle.block.specs.Bytes.{put}
use Rattle.plan.specs.declared.Dose.{Dose}
use Rattle.plan.specs.Fields.{record_at, dose_of, dose_bytes, record_start}
use Rattle.layout.specs.Layout.{Written, body_of}
use Rattle.plan.specs.declared.Head.{Head}
use Rattle.writer.specs.declared.Place.{Place}
use Rattle.writer.specs.Code.Holds.{Holds}
use Rattle.split.specs.Parts.{is_of_part}

-- a buffer that held `old` at first has room for these periods
abbrev pub HasRoom : List ℕ → List Written → Type 0
HasRoom old ws = (32768 ≤ length old) × (1 + length (body_of ws) ≤ 64)

-- the periods xs come behind those that are there
abbrev pub Adds : List Written → Place → List ℕ → Place → List ℕ → Type 0
Adds xs at out at2 out2 =
    (h : Head) (ws : List Written) (old : List ℕ) → HasRoom old (ws ++ xs) → Holds h ws old at out → Holds h (ws ++ xs) old at2 out2

-- the period w with the doses ds behind its own
abbrev pub with_doses : Written → List Dose → Written
with_doses w ds = record { header = w.header; doses = w.doses ++ ds }

-- the doses ds come into the last period, behind those that are there
abbrev pub AddsDoses : List Dose → Place → List ℕ → Place → List ℕ → Type 0
AddsDoses ds at out at2 out2 =
    (h : Head) (ws : List Written) (w : Written) (old : List ℕ) → HasRoom old (ws ++ (with_doses w ds ∷ [])) →
    Holds h (ws ++ (w ∷ [])) old at out → Holds h (ws ++ (with_doses w ds ∷ [])) old at2 out2

-- the doses of the part among those of block r from dose `from` to the nth
unfoldable pub kept_in : Bool → List ℕ → ℕ → ℕ → List Dose
kept_in marked r from n = keep (is_of_part marked) (list_below (n - from) (λ k. dose_of (record_at r (from + k))))

-- the records of ds, put behind m others into the block that begins at `block`
abbrev pub records_put : List ℕ → ℕ → ℕ → List Dose → List ℕ
records_put out block m ds = put out (block + record_start m) (join_over dose_bytes ds)
