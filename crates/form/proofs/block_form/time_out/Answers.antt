use Rattle.form.proofs.Zeroed.{time_plain, time_clock}
use Rattle.form.proofs.block_form.time_out.Goals as goal

pub returns-then-d-lt5 : goal.returns-then-d-lt5
returns-then-d-lt5 c = let a = c.args in time_plain a.d a.spare c.if-d-lt5.true

pub returns : goal.returns
returns c = let a = c.args in time_clock a.d a.spare c.if-d-lt5.false
