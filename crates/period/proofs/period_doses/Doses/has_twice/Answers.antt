use mathlib.Core.Bool.{true}
use mathlib.Core.Path.{◌≡◌, sym, ◌∙◌}
use lib.Dec.{eqb}
use borrow.Author.Rules.{rules}
use Rattle.below.proofs.Search.{none_zero, none_more, any_hit, any_end}
use Rattle.plan.specs.Periods.{dose_in}
use Rattle.period.specs.Code.Twice.{has_twice, slot_of}
use Rattle.period.proofs.Seen.{seen_none, seen_more, no_sign}
use Rattle.period.proofs.period_doses.Doses.has_twice.Goals as goal

pub loop-j-init : goal.loop-j-init
loop-j-init c = (search rules, seen_none _, none_zero _)

pub is_twice_by-requires : goal.is_twice_by-requires
is_twice_by-requires c =
    let l = c.loop-j in
    let D = dose_in c.args.self.plan.now c.args.self.b in
    let slot : c.slot_of-k.result ≡ slot_of (D l.j) =
    (rw c.dose_in-d.ensures at c.slot_of-k.ensures.0) in
    let same : eqb l.day (D l.j).day ≡ true → c.next_tag-own.result ≡ l.tag = rw c.dose_in-d.ensures at c.next_tag-own.ensures in
    record {
      j_lt_n = (c.loop-j-test.true, c.requires);
      j_value = λ none. no_sign D l.j l.last l.invariant.1 c.requires c.loop-j-test.true same (rw slot at none);
    }

pub returns-then-is_twice_by : goal.returns-then-is_twice_by
unfolding has_twice
returns-then-is_twice_by c =
    sym (any_hit _ c.loop-j-test.true (sym c.is_twice_by.ensures ∙ c.if-is_twice_by.true))

pub loop-j-preserved : goal.loop-j-preserved
loop-j-preserved c =
    let l = c.loop-j in
    let D = dose_in c.args.self.plan.now c.args.self.b in
    let slot : c.slot_of-k.result ≡ slot_of (D l.j) =
    (rw c.dose_in-d.ensures at c.slot_of-k.ensures.0) in
    let same : eqb l.day (D l.j).day ≡ true → c.next_tag-own.result ≡ l.tag = rw c.dose_in-d.ensures at c.next_tag-own.ensures in (
      search rules,
      rw (c.kept_of.ensures, slot, c.dose_in-d.ensures) (seen_more D l.j l.last l.invariant.1 c.requires c.loop-j-test.true same),
      none_more _ l.invariant.2 (sym c.is_twice_by.ensures ∙ c.if-is_twice_by.false),
    )

pub returns : goal.returns
unfolding has_twice
returns c = sym (any_end _ c.loop-j-test.false c.loop-j.invariant.2)
