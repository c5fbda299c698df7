-- The plans of the cases have the right form and are bytes, by the laws of `layout`: so no sum need be computed. Assumes nothing.
use Prim.Native.Nat.{ℕ, ◌≤◌, ◌<◌}
use mathlib.Core.Bool.{true, false}
use mathlib.Core.List.{List}
use mathlib.Core.Path.{◌≡◌, refl}
use native.Mathlib.Omega.{arith}
use lib.Dec.{leb}
use lib.ListN.{length}
use borrow.Author.Tests.{le-ltb, leb-true}
use Rattle.block.proofs.Numbers.{AreBytes}
use Rattle.day.specs.Days.{is_no_span}
use Rattle.form.proofs.Formed.{Formed, formed}
use Rattle.layout.proofs.Blocks.{length_laid}
use Rattle.layout.proofs.Bytes.{laid_bytes}
use Rattle.layout.proofs.Every.{every_map}
use Rattle.layout.proofs.Formed.{laid_right}
use Rattle.below.specs.Lists.{Every, Every.none, Every.more}
use Rattle.layout.specs.Code.Fits.{HeadFits, HeadRanged, DoseFits, DoseRanged, WrittenFits, WrittenRanged}
use Rattle.plan.specs.declared.Head.{Head}
use Rattle.layout.specs.Layout.{Written, body_of, laid_out}
use Rattle.plan.specs.declared.Dose.{Dose}
use Rattle.verdict.specs.Verdict.{plan_limit}
use Rattle.promises.specs.Plans.{head, unmarked, marked, ranging, iterated, daily, fixed, need, mixed, empty, revision}

pub record DoseRight (d : Dose) : Type 0 where
  pub fits : DoseFits d
  pub ranged : DoseRanged d

pub record PeriodRight (w : Written) : Type 0 where
  pub fits : WrittenFits w
  pub ranged : WrittenRanged w

pub unmarked_right : (x : ℕ) → x ≤ 9999999999 → DoseRight (unmarked x)
unfolding unmarked
unmarked_right x l =
    record {
      fits = record { day = omega arith; kind = omega arith; mark = omega arith; minute = omega arith; low = omega arith; high = omega arith };
      ranged = rw (le-ltb 9999999999 x l);
    }

pub marked_right : (x : ℕ) → x ≤ 9999999999 → DoseRight (marked x)
unfolding marked
marked_right x l =
    record {
      fits = record { day = omega arith; kind = omega arith; mark = omega arith; minute = omega arith; low = omega arith; high = omega arith };
      ranged = rw (le-ltb 9999999999 x l);
    }

pub ranging_right : (x y : ℕ) → x ≤ 9999999999 → y ≤ 9999999999 → DoseRight (ranging x y)
unfolding ranging
ranging_right x y l m =
    record {
      fits = record { day = omega arith; kind = omega arith; mark = omega arith; minute = omega arith; low = omega arith; high = omega arith };
      ranged = rw (le-ltb 9999999999 x l, le-ltb 9999999999 y m);
    }

-- a period from `first` to `last`
module _ (first last : ℕ) (f : first < 4294967296) (l : last < 4294967296) (s : is_no_span first last ≡ false) where
  pub iterated_right : (n : ℕ) → n < 65536 → {ds : List Dose} → Every DoseRight ds → PeriodRight (iterated n first last ds)
  iterated_right n i h =
      record {
        fits = record { header = record { interval = i; first = f; end = l }; doses = every_map (λ d (r : DoseRight d). r.fits) h };
        ranged = record { days = s; doses = every_map (λ d (r : DoseRight d). r.ranged) h };
      }

  pub daily_right : {ds : List Dose} → Every DoseRight ds → PeriodRight (daily first last ds)
  unfolding daily
  daily_right h = iterated_right 1 (omega arith) h

  pub fixed_right : PeriodRight (fixed first last)
  unfolding fixed
  fixed_right = daily_right (more (unmarked_right 100 (omega arith)) none)

  pub need_right : PeriodRight (need first last)
  unfolding need
  need_right = daily_right (more (marked_right 100 (omega arith)) none)

  pub mixed_right : PeriodRight (mixed first last)
  unfolding mixed
  mixed_right = daily_right (more (unmarked_right 100 (omega arith)) (more (marked_right 100 (omega arith)) none))

  pub empty_right : PeriodRight (empty first last)
  unfolding empty
  empty_right =
      record {
        fits = record { header = record { interval = omega arith; first = f; end = l }; doses = none };
        ranged = record { days = s; doses = none };
      }

-- a plan of such periods, behind any head of the right form
module _ (h : Head) (f : HeadFits h) (g : HeadRanged h) (ws : List Written) (rs : Every PeriodRight ws) (few : leb (length (body_of ws)) 31 ≡ true) where
  pub plan_formed : Formed plan_limit (laid_out h ws)
  plan_formed =
      formed plan_limit (laid_out h ws)
      (laid_right h ws f (every_map (λ w (r : PeriodRight w). r.fits) rs)
      (record { head = g; periods = every_map (λ w (r : PeriodRight w). r.ranged) rs })
      plan_limit (omega (arith, length_laid h ws, leb-true (length (body_of ws)) 31 few)))

  pub plan_are_bytes : AreBytes (laid_out h ws)
  plan_are_bytes =
      laid_bytes h ws f (every_map (λ w (r : PeriodRight w). r.fits) rs) (omega (arith, leb-true (length (body_of ws)) 31 few))

-- and behind that of the cases
module _ (n : ℕ) (l : n < 4294967296) (ws : List Written) (rs : Every PeriodRight ws) (few : leb (length (body_of ws)) 31 ≡ true) where
  head_fits : HeadFits (head n)
  unfolding head
  head_fits =
      record { unit = omega arith; start = omega arith; end = omega arith; number = omega arith; revision = l; vka = omega arith }

  head_ranged : HeadRanged (head n)
  unfolding head
  head_ranged = record { days = refl; vka = omega arith }

  pub laid_formed : Formed plan_limit (revision n ws)
  unfolding revision
  laid_formed = plan_formed (head n) head_fits head_ranged ws rs few

  pub laid_are_bytes : AreBytes (revision n ws)
  unfolding revision
  laid_are_bytes = plan_are_bytes (head n) head_fits head_ranged ws rs few
