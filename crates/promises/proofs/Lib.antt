-- Terms of what is promised. The cases: plans that are laid out (Laid), their verdicts (Judging, Verdicts), supplies, sets of
-- dates, steps and all of them (Supplies, Dates, Weekly, Paper). The demands: refusals (Orders, Demand1), the verdict, the lists and
-- the last covered day (Accepting, LastDays, Sets, Demand2), and demand 3; supply in steps (Rounds). Example is source 001's plan. A
-- register that releases (Releases), the witnesses, the stand-ins and contracts; Promises is all of it.
pub mod Laid
pub mod Judging
pub mod Verdicts
pub mod Supplies
pub mod Dates
pub mod Weekly
pub mod Paper
pub mod Orders
pub mod Demand1
pub mod Accepting
pub mod LastDays
pub mod Sets
pub mod Demand2
pub mod Demand3
pub mod Rounds
pub mod Example
pub mod Releases
pub mod Witnesses
pub mod ShutOut
pub mod Once
pub mod Promises
