-- Periods that stand in bytes as they are laid out, and what is read of one there. Assumes nothing.
use Prim.Native.Nat.{ℕ, suc, ◌+◌, ◌-◌, ◌*◌, ◌/◌, ◌%◌, ◌≤◌, ◌<◌}
use mathlib.Core.Bool.{false, not}
use mathlib.Core.List.{List, [], ◌∷◌}
use mathlib.Core.Logic.{⊎_elim}
use mathlib.Core.Path.{◌≡◌, refl, sym, ap, ◌∙◌}
use native.Mathlib.Omega.{arith}
use lib.ListN.{length, get_or, drop, length-append, length-take, length-drop, get_or-append}
use lib.Seq.{get_or-append-add, get_or-take, get_or-drop}
use borrow.Author.Tests.{eq-eqb}
use Rattle.below.proofs.Lists.{length_list, get_d_list, list_same, list_of}
use Rattle.below.proofs.Search.{first_is}
use Rattle.below.proofs.Tests.{le_or_lt}
use Rattle.below.specs.Lists.{list_below, join_over, Every, Every.none, Every.more}
use Rattle.block.specs.Sums.{sealed}
use Rattle.plan.specs.Fields.{kind_of, count_of}
use Rattle.plan.specs.Periods.{block_at, is_continuation, more_of, doses_of, dose_in}
use Rattle.plan.specs.declared.Dose.{Dose}
use Rattle.layout.specs.Code.Fits.{WrittenFits}
use Rattle.layout.specs.Layout.{Written, doses_here, period_block, blocks_for, body_of}
use Rattle.layout.specs.Reading.{header_at, doses_at, period_at}
use Rattle.layout.proofs.Content.{no_dose, dose_back, kind_first, kind_next, count_here, interval_back, first_back, end_back, period_record}
use Rattle.layout.proofs.Every.{every_at}

-- how many blocks a period has
abbrev pub size_of : Written → ℕ
size_of w = blocks_for (length w.doses)

pub size_some : (w : Written) → 0 < size_of w
size_some w = omega arith

-- the blocks of no period, of the first one, and of those behind
pub length_none : length (body_of []) ≡ 0
unfolding body_of join_over
length_none = refl

pub length_body : (w : Written) (ws : List Written) → length (body_of (w ∷ ws)) ≡ size_of w + length (body_of ws)
unfolding body_of join_over
length_body w ws =
    length-append (list_below (size_of w) (period_block w)) _ ∙
    rw (length_list (size_of w) (period_block w))

pub body_first : (w : Written) (ws : List Written) (i : ℕ) → i < size_of w → get_or (body_of (w ∷ ws)) i [] ≡ period_block w i
unfolding body_of join_over
body_first w ws i l =
    get_or-append (list_below (size_of w) (period_block w)) _ [] i (rw length_list l) ∙
    get_d_list (size_of w) (period_block w) [] i l

pub body_rest : (w : Written) (ws : List Written) (i : ℕ) → get_or (body_of (w ∷ ws)) (size_of w + i) [] ≡ get_or (body_of ws) i []
unfolding body_of join_over
body_rest w ws i =
    let b = list_below (size_of w) (period_block w) in
    ap (λ (m : ℕ). get_or (body_of (w ∷ ws)) (m + i) []) (sym (length_list (size_of w) (period_block w))) ∙
    get_or-append-add b (body_of ws) i []

-- how full the blocks are: block i of a period has doses up to the last one, and is full where another is behind it
pub here_full : (ds : List Dose) (i : ℕ) → suc i < blocks_for (length ds) → length (doses_here i ds) ≡ 20
here_full ds i l = omega (arith, length-take 20 (drop (i * 20) ds), length-drop (i * 20) ds)

pub here_last : (ds : List Dose) (i : ℕ) → suc i ≡ blocks_for (length ds) → i * 20 + length (doses_here i ds) ≡ length ds
here_last ds i e = omega (arith, length-take 20 (drop (i * 20) ds), length-drop (i * 20) ds)

pub here_some : (ds : List Dose) (i : ℕ) → suc i < blocks_for (length ds) → 0 < length (doses_here (suc i) ds)
here_some ds i l = omega (arith, length-take 20 (drop (suc i * 20) ds), length-drop (suc i * 20) ds)

-- w is laid out in p from block `at` on, and no continuation stands behind it
pub record Stands (p : List ℕ) (at : ℕ) (w : Written) : Type 0 where
  pub block : (i : ℕ) → i < size_of w → block_at p (at + i) ≡ sealed (period_block w i)
  pub behind : is_continuation p (at + size_of w) ≡ false

module _ {p : List ℕ} {at : ℕ} {w : Written} (s : Stands p at w) where
  pub kind_at : kind_of (block_at p at) ≡ 2
  kind_at =
      let e : at ≡ at + 0 = omega arith in
      ap (λ (b : ℕ). kind_of (block_at p b)) e ∙ ap kind_of (s.block 0 (size_some w)) ∙ kind_first w

  pub kind_later : (i : ℕ) → suc i < size_of w → kind_of (block_at p (at + suc i)) ≡ 3
  kind_later i l = ap kind_of (s.block (suc i) l) ∙ kind_next w i

  pub count_at : (i : ℕ) → i < size_of w → count_of (block_at p (at + i)) ≡ length (doses_here i w.doses)
  count_at i l = ap count_of (s.block i l) ∙ count_here w i

  module _ (few : size_of w ≤ 63) where
    pub more_is : more_of p at ≡ size_of w - 1
    unfolding more_of
    more_is =
        let some = size_some w in
        first_is (λ i. not (is_continuation p (at + 1 + i))) {n = 63} {i = size_of w - 1} (omega arith)
        (λ k l.
        let e : at + 1 + k ≡ at + suc k = omega arith in
        rw (e, eq-eqb _ 3 (kind_later k (omega arith))))
        (let e : at + 1 + (size_of w - 1) ≡ at + size_of w = omega arith in rw (e, s.behind))

    pub doses_is : doses_of p at ≡ length w.doses
    unfolding doses_of
    doses_is =
        let some = size_some w in
        rw (more_is, count_at (size_of w - 1) (omega arith)) (here_last w.doses (size_of w - 1) (omega arith))

  module _ (f : WrittenFits w) where
    pub dose_is : (x : Dose) (j : ℕ) → j < length w.doses → dose_in p at j ≡ get_or w.doses j x
    unfolding dose_in
    dose_is x j l =
        let ds = w.doses in
        let i = j / 20 in
        let n : length (doses_here i ds) ≡ _ = length-take 20 (drop (i * 20) ds) in
        let m = length-drop (i * 20) ds in
        let k : j % 20 < length (doses_here i ds) = omega (arith, n, m) in
        let e : i * 20 + j % 20 ≡ j = omega arith in
        let same : get_or (doses_here i ds) (j % 20) x ≡ get_or ds j x =
        get_or-take 20 (drop (i * 20) ds) (j % 20) x (omega arith) ∙ get_or-drop (i * 20) ds (j % 20) x ∙ ap (λ (m : ℕ). get_or ds m x) e in
        rw (s.block i (omega arith), period_record w i x (j % 20) k, same) (dose_back (get_or ds j x) (every_at f.doses x j l))

    pub header_is : header_at p at ≡ w.header
    unfolding header_at
    header_is =
        let e : at ≡ at + 0 = omega arith in
        let b : block_at p at ≡ sealed (period_block w 0) = ap (block_at p) e ∙ s.block 0 (size_some w) in
        rw b
        (λ i.
        record {
          interval = interval_back w f.header i;
          first = first_back w f.header i;
          end = end_back w f.header i;
        })

    pub period_back : size_of w ≤ 63 → period_at p at ≡ w
    unfolding doses_at
    period_back few =
        let ds : doses_at p at ≡ w.doses =
        rw (doses_is few) (list_same (length w.doses) (dose_in p at) (λ j. get_or w.doses j no_dose) (dose_is no_dose) ∙ list_of w.doses no_dose) in
        λ i. record { header = header_is i; doses = ds i }

-- the blocks of ws stand in p from block `at` on, and no continuation behind them
pub record AllStand (p : List ℕ) (at : ℕ) (ws : List Written) : Type 0 where
  pub block : (i : ℕ) → i < length (body_of ws) → block_at p (at + i) ≡ sealed (get_or (body_of ws) i [])
  pub behind : is_continuation p (at + length (body_of ws)) ≡ false

module _ {p : List ℕ} where
  -- the periods behind the first one
  pub stand_rest : {at : ℕ} {w : Written} {ws : List Written} → AllStand p at (w ∷ ws) → AllStand p (at + size_of w) ws
  stand_rest {at} {w} {ws} s =
      let n = length_body w ws in
      record {
        block = λ i l.
            let e : at + size_of w + i ≡ at + (size_of w + i) = omega arith in
            rw e (s.block (size_of w + i) (omega arith) ∙ ap sealed (body_rest w ws i));
        behind =
            let e : at + size_of w + length (body_of ws) ≡ at + length (body_of (w ∷ ws)) = omega arith in
            rw e s.behind;
      }

  -- where they begin stands no continuation: a period, or what stands behind them
  pub begins : {at : ℕ} (ws : List Written) → AllStand p at ws → is_continuation p at ≡ false
  begins {at} [] s = let e : at + length (body_of []) ≡ at = omega (arith, length_none) in rw e at s.behind
  begins {at} (w ∷ ws) s =
      let e : at + 0 ≡ at = omega arith in
      let b : block_at p at ≡ sealed (period_block w 0) =
      rw e at (s.block 0 (omega (arith, length_body w ws, size_some w)) ∙ ap sealed (body_first w ws 0 (size_some w))) in
      rw (b, kind_first w)

  -- the first of them
  pub stand_first : {at : ℕ} {w : Written} {ws : List Written} → AllStand p at (w ∷ ws) → Stands p at w
  stand_first {at} {w} {ws} s =
      let n = length_body w ws in
      record {
        block = λ i l. s.block i (omega arith) ∙ ap sealed (body_first w ws i l);
        behind = begins ws (stand_rest s);
      }

-- what holds of each block of each period that stands in p holds of all their blocks
module _ {p : List ℕ} (P : ℕ → Type 0) {Q : Written → Type 0}
    (each : (at : ℕ) (w : Written) → 0 < at → Q w → Stands p at w → (i : ℕ) → i < size_of w → P (at + i)) where
  pub all_blocks : {at : ℕ} {ws : List Written} → 0 < at → Every Q ws → AllStand p at ws → (b : ℕ) → b < length (body_of ws) → P (at + b)
  all_blocks pos none s b l = absurd (omega (arith, length_none))
  all_blocks {at} pos (more {x = w} {xs = ws} q qs) s b l =
      ⊎_elim
      (λ (h : size_of w ≤ b).
      let e : at + b ≡ at + size_of w + (b - size_of w) = omega arith in
      rw e (all_blocks {at = at + size_of w} (omega arith) qs (stand_rest s) (b - size_of w) (omega (arith, length_body w ws))))
      (λ (h : b < size_of w). each at w pos q (stand_first s) b h)
      (le_or_lt (size_of w) b)
