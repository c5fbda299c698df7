-- What is read from bytes fits its bytes; and where they break none of rules 1 to 4, it is in its ranges. Assumes nothing.
use Rattle.std.specs.Prelude.{Ok}
use Prim.Native.Nat.{ℕ, ◌+◌, ◌*◌, ◌/◌, ◌%◌, ◌<◌}
use mathlib.Core.Bool.{true, false, cond}
use mathlib.Core.List.{List, [], ◌∷◌}
use mathlib.Core.Path.{◌≡◌}
use lib.Dec.{ltb}
use borrow.Author.Tests.{eqb-true, ltb-false}
use Rattle.below.proofs.Tests.{or_neither}
use Rattle.block.proofs.Numbers.{AreBytes, number_fits}
use Rattle.form.proofs.Formed.{Formed, formed, ranged, head}
use Rattle.form.proofs.Laws.{whole}
use Rattle.form.proofs.Ranged.{dose_ranged}
use Rattle.form.specs.Form.{days_out, not_zero, doses_out, head_out, period_out, block_out, form_of}
use Rattle.plan.specs.Fields.{kind_of, vka_of, record_at, dose_of}
use Rattle.plan.specs.Periods.{blocks_of, block_at, is_period, doses_of, dose_in}
use Rattle.below.specs.Lists.{Every, Every.none, Every.more}
use Rattle.layout.specs.Code.Fits.{HeadFits, HeaderFits, DoseFits, WrittenFits, AllFit, HeadRanged, WrittenRanged, Ranged}
use Rattle.layout.specs.Layout.{Written}
use Rattle.layout.specs.Reading.{head_of, header_at, doses_at, period_at, periods_of}
use Rattle.layout.proofs.Bytes.{part_bytes_lem}
use Rattle.layout.proofs.Every.{every_cond, every_list, every_join}

-- what each period has, all periods have
periods_all : {P : Written → Type 0} (p : List ℕ) → ((b : ℕ) → b < blocks_of p → is_period p b ≡ true → P (period_at p b)) → Every P (periods_of p)
unfolding periods_of
periods_all p h =
    every_join (blocks_of p) (λ b. cond (is_period p b) (period_at p b ∷ []) [])
    (λ b l. every_cond (is_period p b) (λ e. more (h b l e) none) (λ e. none))

module _ (p : List ℕ) (bytes : AreBytes p) where
  pub block_bytes : (b : ℕ) → AreBytes (block_at p b)
  unfolding block_at
  block_bytes b = part_bytes_lem p (b * 512) 512 bytes

  pub record_bytes : (b i : ℕ) → AreBytes (record_at (block_at p b) i)
  record_bytes b i = part_bytes_lem (block_at p b) (24 + i * 24) 24 (block_bytes b)

  pub head_fits : HeadFits (head_of p)
  unfolding head_of
  head_fits =
      let r = block_at p 0 in
      let s = block_bytes 0 in
      record {
        unit = number_fits 2 r 2 s;
        start = number_fits 4 r 4 s;
        end = number_fits 4 r 8 s;
        number = number_fits 4 r 12 s;
        revision = number_fits 4 r 16 s;
        vka = s 20;
      }

  pub header_fits : (b : ℕ) → HeaderFits (header_at p b)
  unfolding header_at
  header_fits b =
      let r = block_at p b in
      let s = block_bytes b in
      record { interval = number_fits 2 r 2 s; first = number_fits 4 r 4 s; end = number_fits 4 r 8 s }

  pub dose_fits : (b j : ℕ) → DoseFits (dose_in p b j)
  unfolding dose_in dose_of
  dose_fits b j =
      let d = record_at (block_at p (b + j / 20)) (j % 20) in
      let s = record_bytes (b + j / 20) (j % 20) in
      record {
        day = number_fits 2 d 0 s;
        kind = s 2;
        mark = s 3;
        minute = number_fits 2 d 4 s;
        low = number_fits 8 d 8 s;
        high = number_fits 8 d 16 s;
      }

  pub period_fits : (b : ℕ) → WrittenFits (period_at p b)
  unfolding doses_at
  period_fits b =
      record { header = header_fits b; doses = every_list (doses_of p b) (dose_in p b) (λ j l. dose_fits b j) }

  pub periods_fit : AllFit (periods_of p)
  periods_fit = periods_all p (λ b l e. period_fits b)

module _ (limit : ℕ) (p : List ℕ) (small : limit < 65536) (e : form_of limit p ≡ Ok tt) where
  f : Formed limit p
  f = formed limit p e

  some : 0 < blocks_of p
  some = (whole limit p small f.long).some

  pub head_ranged : HeadRanged (head_of p)
  unfolding head_of block_out head_out
  head_ranged =
      let r = block_at p 0 in
      let o : head_out r ≡ false = rw (head f some) at (ranged f 0 some) in
      let x = or_neither (days_out r) (ltb 1 (vka_of r)) (or_neither _ (not_zero r 21 504) o).0 in
      record { days = x.0; vka = ltb-false _ _ x.1 }

  pub period_ranged : (b : ℕ) → b < blocks_of p → is_period p b ≡ true → WrittenRanged (period_at p b)
  unfolding header_at doses_at block_out period_out
  period_ranged b l t =
      let r = block_at p b in
      let k : kind_of r ≡ 2 = eqb-true _ _ t in
      let o : period_out r ≡ false = rw k at (ranged f b l) in
      record {
        days = (or_neither (days_out r) _ (or_neither _ (doses_out r) o).0).0;
        doses = every_list (doses_of p b) (dose_in p b) (λ j h. dose_ranged small f b l t j h);
      }

  pub read_ranged : Ranged (head_of p) (periods_of p)
  read_ranged = record { head = head_ranged; periods = periods_all p period_ranged }
