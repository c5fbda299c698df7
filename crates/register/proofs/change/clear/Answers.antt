use mathlib.Core.Path.{refl, ap}
use native.Mathlib.Omega.{arith}
use borrow.Author.Rules.{rules}
use Rattle.std.specs.Prelude.{Err}
use Rattle.register.proofs.Answering.{call_refused, call_done}
use Rattle.register.proofs.Clearing.{clear_begin, clear_turn, clear_end, clear_none, clear_passed}
use Rattle.register.proofs.change.clear.Goals as goal

pub returns-then-n-eq0 : goal.returns-then-n-eq0
returns-then-n-eq0 c = call_refused (clear_none c.args.register.now (omega (arith, c.slots_of-n.ensures.0)) c.if-n-eq0.true) refl (ap Err c.alone.ensures)

pub loop-i-init : goal.loop-i-init
loop-i-init c = (search rules, (omega (arith, c.slots_of-n.ensures.0)), search rules, clear_begin c.args.register.now)

pub free_slot-requires : goal.free_slot-requires
free_slot-requires c = omega arith

pub loop-i-preserved : goal.loop-i-preserved
loop-i-preserved c = let l = c.loop-i in
    let turn = clear_turn c.args.register.now l.i (omega arith) l.invariant.3 l.invariant.2 c.free_slot.ensures in
    (search rules, l.invariant.1, turn.0, turn.1)

pub returns : goal.returns
returns c = let r = c.args.register.now in
    let l = c.loop-i in
    call_done (clear_passed r (omega (arith, c.slots_of-n.ensures.0)) c.if-n-eq0.false) refl (clear_end r l.invariant.1 c.loop-i-test.false l.invariant.0 l.invariant.3)
