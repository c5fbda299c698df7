-- The writer's calls, one after the other, lay a plan out: what the buffer holds after each, and that in the end it is the plan
-- with this head and these periods, with the bytes behind it as they were. Assumes nothing.
use Prim.Native.Nat.{ℕ, ◌+◌, ◌-◌, ◌*◌, ◌/◌, ◌%◌, ◌≤◌, ◌<◌}
use mathlib.Core.Bool.{true}
use mathlib.Core.List.{List, [], ◌∷◌, ◌++◌, append_assoc}
use mathlib.Core.Logic.{⊎_elim}
use mathlib.Core.Path.{◌≡◌, refl, sym, ap, ◌∙◌}
use native.Mathlib.Omega.{arith}
use lib.ListN.{length, drop, length-append}
use borrow.Author.Tests.{le-leb, lt-ltb, le-ltb}
use Rattle.below.specs.Lists.{list_below, join_over}
use Rattle.below.proofs.Lists.{list_more, length_list}
use Rattle.below.proofs.Tests.{le_or_lt}
use Rattle.block.specs.Bytes.{bytes_of, put}
use Rattle.block.specs.Sums.{sealed}
use Rattle.block.proofs.Put.{length_put}
use Rattle.plan.specs.declared.Dose.{Dose}
use Rattle.plan.specs.Fields.{dose_bytes}
use Rattle.layout.specs.Layout.{Written, filled, head_bytes, period_start, continuation_start, period_block, blocks_for, body_of, laid_out}
use Rattle.plan.specs.declared.Head.{Head}
use Rattle.plan.specs.declared.Header.{Header}
use Rattle.writer.specs.declared.Place.{Place}
use Rattle.writer.specs.Steps.{has_room, has_begun, begun, begun_place, period_added, period_place, dose_put, dose_added, dose_place, finished, finished_length}
use Rattle.writer.specs.Code.Holds.{lying, in_last, last_doses, Holds}
use Rattle.layout.proofs.Blocks.{length_filled, length_head, length_period_start, length_continuation_start, length_period, length_laid}
use Rattle.plan.proofs.DoseRecord.{length_dose}
use Rattle.writer.proofs.Room.{is_room, is_begun}
use Rattle.writer.proofs.Lying.{Whole, Whole.none, Whole.more, whole_append, whole_list, length_lying, lying_more, lying_last, lying_first, lying_sealed}
use Rattle.writer.proofs.Laying.{period_of, whole_body, whole_plan, body_last, length_body_last, empty_block, blocks_are, one_dose_more, with_room, without_room, ahead_same, block_more, next_block}

-- the last period's last block is the last of all
pub last_doses_lem : (n : ℕ) (ws : List Written) (w : Written) → last_doses n (ws ++ (w ∷ [])) ≡ in_last (length w.doses)
unfolding last_doses
last_doses_lem n [] w = refl
last_doses_lem n (v ∷ ws) w = last_doses_lem (in_last (length v.doses)) ws w

-- a head's count of further blocks, put anew
count_head : (h : Head) (n : ℕ) → put (head_bytes h 0) 1 (n ∷ []) ≡ head_bytes h n
unfolding put head_bytes filled bytes_of
count_head h n = refl

laid_is : (h : Head) (ws : List Written) → laid_out h ws ≡ join_over sealed (head_bytes h (length (body_of ws)) ∷ body_of ws)
unfolding laid_out
laid_is h ws = refl

-- a buffer with room for a head holds it
pub holds_begin : (h : Head) (old : List ℕ) → 512 ≤ length old → Holds h [] old (begun_place old) (begun old h)
unfolding begun begun_place body_of join_over last_doses lying
holds_begin h old l =
    rw (le-leb _ _ l)
    record {
      bytes = lying_more old none (head_bytes h 0) (length_head h 0) (omega arith);
      blocks = omega arith;
      doses = refl;
      fits = omega arith;
    }

module _ (h : Head) (ws : List Written) (old : List ℕ) (at : Place) (out : List ℕ) (o : Holds h ws old at out) where
  -- it is as long as it was
  pub holds_length : length out ≡ length old
  holds_length = rw o.bytes (length_lying old (whole_plan h 0 ws) (omega (arith, o.blocks, o.fits)))

  -- with room for a block more, it holds a period more
  pub holds_period : (q : Header) → (at.blocks + 1) * 512 ≤ length old → at.blocks < 255 → Holds h (ws ++ (record { header = q; doses = [] } ∷ [])) old (period_place out at) (period_added out at q)
  unfolding period_added period_place list_below
  holds_period q r l =
      let bs = head_bytes h 0 ∷ body_of ws in
      let p = filled (period_start q 0) in
      let n : length bs ≡ at.blocks = omega (arith, o.blocks) in
      let room : has_room out at.blocks ≡ true = is_room out at.blocks l (omega (arith, holds_length)) in
      let body : body_of (ws ++ (period_of q [] ∷ [])) ≡ body_of ws ++ (p ∷ []) = body_last ws (period_of q []) ∙ rw (empty_block q) in
      let put-there : put (lying bs old) (length bs * 512) p ≡ lying (bs ++ (p ∷ [])) old =
      lying_more old (whole_plan h 0 ws) p (length_filled (period_start q 0) (omega (arith, length_period_start q 0))) (omega arith) in
      rw room
      record {
        bytes = rw (body, o.bytes) (rw n at put-there);
        blocks = rw (body, length-append) (omega (arith, o.blocks));
        doses = sym (last_doses_lem 0 ws (period_of q []));
        fits = r;
      }

  -- finished, it is the plan
  pub holds_finish : (finished out at ≡ laid_out h ws ++ drop (length (laid_out h ws)) old) × (finished_length out at ≡ length (laid_out h ws))
  unfolding finished finished_length
  holds_finish =
      let k = length (body_of ws) in
      let bs = head_bytes h k ∷ body_of ws in
      let ready : has_begun out at.blocks 1 ≡ true = is_begun out at.blocks 1 (omega (arith, o.blocks)) (omega (arith, o.fits, holds_length)) in
      let n : at.blocks ≡ length bs = omega (arith, o.blocks) in
      let m : length bs - 1 ≡ k = omega arith in
      let counted : put out 1 (k ∷ []) ≡ lying bs old =
      rw o.bytes
      (lying_first old (head_bytes h 0) (body_of ws) (k ∷ []) 1 (omega (arith, length_head h 0)) ∙
      ap (λ (b : List ℕ). lying (b ∷ body_of ws) old) (count_head h k)) in
      let size : length (laid_out h ws) ≡ length bs * 512 = omega (arith, length_laid h ws) in
      rw (ready, n, m, counted, size) (lying_sealed (whole_plan h k ws) old ∙ rw (laid_is h ws), refl)

-- a dose into the last of a list of blocks
dose_lying : {bs : List (List ℕ)} → Whole bs → (q : Header) (ds : List Dose) (d : Dose) (old : List ℕ) → dose_put (lying (bs ++ (period_block (period_of q ds) (length ds / 20) ∷ [])) old) (length bs) (length ds % 20) d ≡ lying (bs ++ (period_block (period_of q (ds ++ (d ∷ []))) (length ds / 20) ∷ [])) old
unfolding dose_put
dose_lying {bs} u q ds d old =
    let m = length ds % 20 in
    let b = period_block (period_of q ds) (length ds / 20) in
    let c = put b (24 + m * 24) (dose_bytes d) in
    let n : length b ≡ 512 = length_period (period_of q ds) (length ds / 20) in
    let k : length c ≡ length b = length_put b (24 + m * 24) (dose_bytes d) in
    rw (lying_last old u b (dose_bytes d) (24 + m * 24) (omega (arith, length_dose d)), lying_last old u c ((m + 1) ∷ []) 1 (omega arith), block_more q ds d)

-- the blocks ahead of the one that the next dose of the last period w goes into
module _ (h : Head) (ws : List Written) (w : Written) where
  abbrev ahead : List (List ℕ)
  ahead = head_bytes h 0 ∷ (body_of ws ++ list_below (length w.doses / 20) (period_block w))

  whole_ahead : Whole ahead
  whole_ahead = more (length_head h 0) (whole_append (whole_body ws) (whole_list (period_block w) (length_period w) (length w.doses / 20)))

  length_ahead : length ahead ≡ 1 + length (body_of ws) + length w.doses / 20
  length_ahead = omega (arith, length-append (body_of ws) (list_below (length w.doses / 20) (period_block w)), length_list (length w.doses / 20) (period_block w))

  -- the last block has room, or all are full
  body_open : blocks_for (length w.doses) ≡ length w.doses / 20 + 1 → head_bytes h 0 ∷ body_of (ws ++ (w ∷ [])) ≡ ahead ++ (period_block w (length w.doses / 20) ∷ [])
  body_open e = rw (body_last ws w, e, list_more, append_assoc)

  body_full : blocks_for (length w.doses) ≡ length w.doses / 20 → head_bytes h 0 ∷ body_of (ws ++ (w ∷ [])) ≡ ahead
  body_full e = rw (body_last ws w, e)

  -- with the dose
  body_more : (d : Dose) → head_bytes h 0 ∷ body_of (ws ++ (period_of w.header (w.doses ++ (d ∷ [])) ∷ [])) ≡ ahead ++ (period_block (period_of w.header (w.doses ++ (d ∷ []))) (length w.doses / 20) ∷ [])
  body_more d =
      let v = period_of w.header (w.doses ++ (d ∷ [])) in
      let n : length (w.doses ++ (d ∷ [])) ≡ length w.doses + 1 = length-append w.doses (d ∷ []) in
      rw (body_last ws v, n, (one_dose_more (length w.doses)).0, list_more, ahead_same w.header w.doses d, append_assoc)

  -- with room for a block more where the last is full, it holds a dose more
  pub holds_dose : (d : Dose) (old : List ℕ) (at : Place) (out : List ℕ) → Holds h (ws ++ (w ∷ [])) old at out → (20 ≤ at.doses → ((at.blocks + 1) * 512 ≤ length old) × (at.blocks < 255)) → Holds h (ws ++ (record { header = w.header; doses = w.doses ++ (d ∷ []) } ∷ [])) old (dose_place out at) (dose_added out at d)
  unfolding dose_added dose_place
  holds_dose d old at out o room =
      let n = length w.doses in
      let v = period_of w.header (w.doses ++ (d ∷ [])) in
      let long : length (w.doses ++ (d ∷ [])) ≡ n + 1 = length-append w.doses (d ∷ []) in
      let next = one_dose_more n in
      let here : at.doses ≡ in_last n = o.doses ∙ last_doses_lem 0 ws w in
      let there : last_doses 0 (ws ++ (v ∷ [])) ≡ n % 20 + 1 = last_doses_lem 0 ws v ∙ rw long next.1 in
      let blocks : at.blocks ≡ 1 + (length (body_of ws) + blocks_for n) = rw (← length_body_last ws w) o.blocks in
      let after : length (body_of (ws ++ (v ∷ []))) ≡ length (body_of ws) + (n / 20 + 1) = length_body_last ws v ∙ rw (long, next.0) in
      let same : length out ≡ length old = holds_length h (ws ++ (w ∷ [])) old at out o in
      let some : 1 ≤ blocks_for n = omega (arith, blocks_are n) in
      let ready : has_begun out at.blocks 2 ≡ true = is_begun out at.blocks 2 (omega arith) (omega (arith, o.fits)) in
      let a = length_ahead in
      let u = whole_ahead in
      ⊎_elim
      (λ (l : 20 ≤ at.doses).
      let full = without_room n (rw here at l) in
      let r = room l in
      let free : has_room out at.blocks ≡ true = is_room out at.blocks r.1 (omega arith) in
      let k : at.blocks ≡ length ahead = omega arith in
      let p = filled (continuation_start 0) in
      let begins : put out (at.blocks * 512) p ≡ lying (ahead ++ (period_block w (n / 20) ∷ [])) old =
      rw (o.bytes, body_full full.0, k, next_block w.header w.doses (omega arith) full.1)
      (lying_more old u p (length_filled (continuation_start 0) (omega (arith, length_continuation_start 0))) (omega arith)) in
      let goes : dose_put (put out (at.blocks * 512) p) at.blocks 0 d ≡ lying (head_bytes h 0 ∷ body_of (ws ++ (v ∷ []))) old =
      rw (begins, k, body_more d) (rw full.1 at (dose_lying u w.header w.doses d old)) in
      rw (ready, le-ltb _ _ l, free)
      record { bytes = goes; blocks = omega arith; doses = omega arith; fits = r.0 })
      (λ (l : at.doses < 20).
      let last = with_room n (rw here at l) in
      let k : at.blocks - 1 ≡ length ahead = omega arith in
      let m : at.doses ≡ n % 20 = here ∙ last.1 in
      let goes : dose_put out (at.blocks - 1) at.doses d ≡ lying (head_bytes h 0 ∷ body_of (ws ++ (v ∷ []))) old =
      rw (k, m, o.bytes, body_open last.0, body_more d) (dose_lying u w.header w.doses d old) in
      rw (ready, lt-ltb _ _ l)
      record { bytes = goes; blocks = omega arith; doses = omega arith; fits = o.fits })
      (le_or_lt 20 at.doses)
