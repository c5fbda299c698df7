use Prim.Native.Nat.{ℕ, ◌≤◌}
use mathlib.Core.Bool.{Bool, true, false, ◌&&◌}
use mathlib.Core.Logic.{⊎_elim}
use mathlib.Core.Path.{◌≡◌, sym, ap, ◌∙◌}
use native.Mathlib.Omega.{arith}
use lib.Dec.{eqb, leb}
use borrow.Author.Tests.{le-leb, leb-true, eqb-true}
use Rattle.below.proofs.Tests.{bool_cases}
use Rattle.day.specs.Days.{last_number, open_mark, closed_day}
use Rattle.pause.proofs.test.is_in.Goals as goal

-- for a day of the calendar an end may stay open
still_open : (day last : ℕ) → day ≤ last_number → leb day last ≡ leb day (closed_day last)
still_open day last l =
    ⊎_elim
    (λ (t : eqb last open_mark ≡ true).
    let e = eqb-true last open_mark t in
    let a : leb day last ≡ true = le-leb day last (omega arith) in
    let b : leb day last_number ≡ true = le-leb day last_number l in
    rw t (a ∙ sym b))
    (λ (t : eqb last open_mark ≡ false). rw t)
    (bool_cases (eqb last open_mark))

pub returns-then-is_day : goal.returns-then-is_day
returns-then-is_day c =
    let a = c.args in
    let d : leb a.day last_number ≡ true = cc in
    ap (λ (t : Bool). leb a.first a.day && t) (still_open a.day a.last (leb-true a.day last_number d))
