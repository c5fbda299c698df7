-- All that is promised, under one name.
use Rattle.promises.specs.Cases.{Paper}
use Rattle.promises.specs.Demand1.{Demand1}
use Rattle.promises.specs.Demand2.{Demand2}
use Rattle.promises.specs.Demand3.{Demand3}
use Rattle.promises.specs.Example.{Example}
use Rattle.promises.specs.Once.{Once}
use Rattle.promises.specs.Rounds.{Rounds}
use Rattle.promises.specs.ShutOut.{ShutOut}
use Rattle.promises.specs.Witnesses.{Witnesses}

pub record Promises : Type 0 where
  pub first : Demand1
  pub second : Demand2
  pub third : Demand3
  -- document 02, W12: "Whole rounds at a time."
  pub rounds : Rounds
  -- nothing is promised for want of a case
  pub witnesses : Witnesses
  -- "The P cases are proved as a single statement over a list."
  pub paper : Paper
  -- "For source 001's mixed plan"
  pub example : Example
  -- "These stand-ins must be shut out", and "Errors that look right"
  pub shut_out : ShutOut
  -- "Prove that two results allowed by it are equal"
  pub once : Once
