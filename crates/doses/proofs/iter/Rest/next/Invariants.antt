-- No dose ahead of j applies, so that what is left from there on is all that is left.
use Rattle.std.proofs.Common.{◌≡◌}
use Rattle.doses.specs.Code.Left.{left_in}
use Rattle.doses.proofs.iter.Rest.next.Given as goal

abbrev pub invariant-loop-j : goal.invariant-loop-j
invariant-loop-j l =
    (left_in l.plan (record { block = l.self.block; next = l.j; end = l.self.end; position = l.self.position }) ≡ left_in l.plan l.fn.self)
    × (l.self ≡ l.fn.self)
