-- Each turn takes a plan, with its length ahead of it, off the front.
use Rattle.std.proofs.Common.{length}
use Rattle.cases.proofs.report_all.Given as goal

abbrev pub decreases-loop-length : goal.decreases-loop-length
decreases-loop-length g l = length l.rest
