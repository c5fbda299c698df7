-- What is promised: Promises names all of it. Demand1 to Demand3 are the demands, as types; Orders holds the orders of refusals that
-- document 01 sets; Sets is what W1 says of the set of dates, Rounds what W12 says of supply's steps; Witnesses has a case of each;
-- ShutOut says which stand-ins the definitions are not; Once is of contracts; Cases are those of "Worked on paper", made of the plans of
-- Plans, and Example is the plan there whose lists are printed.
pub mod Plans
pub mod Cases
pub mod Orders
pub mod Demand1
pub mod Sets
pub mod Demand2
pub mod Demand3
pub mod Rounds
pub mod Example
pub mod Witnesses
pub mod ShutOut
pub mod Once
pub mod Promises
