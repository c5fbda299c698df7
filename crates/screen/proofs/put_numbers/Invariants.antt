use Rattle.std.proofs.Common.{◌≡◌, ◌*◌, ◌≤◌, length, drop}
use Rattle.screen.specs.Calls.{written}
use Rattle.screen.proofs.put_numbers.Given as goal

abbrev pub invariant-loop-x : goal.invariant-loop-x
invariant-loop-x l = (l.at ≡ l.x-index * 8) × (length l.numbers ≤ 5) × (written l.fn.out 0 l.numbers ≡ written l.out l.at (drop l.x-index l.numbers))
