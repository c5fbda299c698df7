use native.Mathlib.Omega.{arith}
use Rattle.period.specs.Code.Quick.{quick_turned}
use lib.Dec.{eqb}
use Rattle.period.proofs.Choice.{from_is}
use Rattle.period.proofs.quick.quick_turn.Goals as goal

pub returns : goal.returns
unfolding quick_turned
returns c = let room = c.requires.1 in (
  rw (c.select_unpredictable.ensures, c.from-2.ensures, from_is c.is_marked-marked.result, c.from.ensures, from_is (eqb c.args.d.kind 0), c.is_marked-marked.ensures),
  record {
    untimed = grind (arith, c.from.ensures, room.untimed);
    marked = grind (arith, c.from-2.ensures, room.marked);
    total = grind (arith, c.select_unpredictable.ensures, c.requires.2, room.total);
  },
)
