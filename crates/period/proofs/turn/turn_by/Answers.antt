use native.Mathlib.Omega.{arith}
use Rattle.period.specs.Code.Turn.{turned}
use Rattle.period.proofs.Choice.{from_is}
use Rattle.period.proofs.turn.turn_by.Goals as goal

pub overflow_add-result-2 : goal.overflow_add-result-2
overflow_add-result-2 c =
    omega (arith, c.select_unpredictable-upper.type_inv, c.requires.room.big, c.requires.j_bound.0)

pub overflow_add-result-3 : goal.overflow_add-result-3
overflow_add-result-3 c =
    omega (arith, c.requires.room.small, c.requires.j_bound.0)

pub returns : goal.returns
unfolding turned
returns c =
    let r = c.requires.room in (
      rw (c.last_of.ensures, c.select_unpredictable-8.ensures, c.from.ensures, from_is c.args.marked)
          (rw (c.select_unpredictable-7.ensures, c.select_unpredictable-6.ensures, c.select_unpredictable-5.ensures)
          (rw (c.select_unpredictable-4.ensures, c.is_timed.ensures, c.select_unpredictable-3.ensures)
          (rw (c.select_unpredictable-2.ensures, c.select_unpredictable.ensures)
          (rw (c.select_unpredictable-upper.ensures, c.upper_of.ensures, c.rank_of-rank.ensures, c.from_of-from.ensures.0)
          (rw (c.requires.j_bound.1, c.requires.j_bound.2, c.requires.j_bound.3)))))),
      record {
        from = omega (arith, c.from_of-from.ensures.1);
        marked = grind (arith, c.from.ensures, r.marked);
        big = omega (arith, c.select_unpredictable-upper.type_inv, r.big);
        small = omega (arith, r.small);
      },
    )
