-- The largest day number, by the cases of a period's header. Assumes nothing.
use Prim.Native.Nat.{ℕ, ◌+◌, ◌-◌}
use mathlib.Core.Bool.{true, false}
use mathlib.Core.List.{List}
use mathlib.Core.Path.{◌≡◌, sym, ◌∙◌}
use lib.Dec.{eqb}
use borrow.Author.Tests.{eq-eqb, ne_eqb, eqb-false}
use Rattle.day.specs.Days.{open_mark, closed_day}
use Rattle.plan.specs.declared.Header.{Header}
use Rattle.plan.specs.Fields.{interval_of, header_of}
use Rattle.period.specs.Period.{limit_of}

module _ {h : Header} (r : List ℕ) (e : h ≡ header_of r) where
  pub by_interval : (h.interval ≡ 0 → ⊥) → h.interval ≡ limit_of r
  unfolding limit_of
  by_interval = rw e (λ n. rw (ne_eqb (interval_of r) 0 n))

  pub unlimited : h.interval ≡ 0 → eqb h.end open_mark ≡ true → 0 ≡ limit_of r
  unfolding limit_of
  unlimited = rw e (λ z o. rw (eq-eqb (interval_of r) 0 z, o))

  pub by_length : h.interval ≡ 0 → eqb h.end open_mark ≡ false → closed_day h.end - h.first + 1 ≡ limit_of r
  unfolding limit_of
  by_length = rw e (λ z o. rw (eq-eqb (interval_of r) 0 z, o))

-- a last day that is not open leaves room for one more
pub not_open : (end : ℕ) → eqb end open_mark ≡ false → closed_day end ≡ 4294967295 → ⊥
not_open end o e = let f : closed_day end ≡ end = rw o in eqb-false end open_mark o (sym f ∙ e)
