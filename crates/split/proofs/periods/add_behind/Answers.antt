use Rattle.split.specs.Code.Wanted.{is_need}
use Rattle.split.proofs.Adding.{adds_none}
use Rattle.split.proofs.Brought.{behind_run, behind_none}
use Rattle.split.proofs.periods.add_behind.Goals as goal

pub returns-in-Some : goal.returns-in-Some
returns-in-Some c = let a = c.args in
    let b = behind_run (is_need a.part) a.classed.plan.now a.b c.in-Some.run' c.in-Some.ensures in
    rw b c.add_shared.ensures

pub returns-in-None : goal.returns-in-None
returns-in-None c = let a = c.args in rw (behind_none (is_need a.part) a.classed.plan.now a.b c.in-None.ensures) adds_none
