-- All promises are kept. Assumes nothing.
use Rattle.promises.specs.Promises.{Promises}
use Rattle.promises.proofs.Demand1.{demand1}
use Rattle.promises.proofs.Demand2.{demand2}
use Rattle.promises.proofs.Demand3.{demand3}
use Rattle.promises.proofs.Example.{example}
use Rattle.promises.proofs.Once.{once}
use Rattle.promises.proofs.Paper.{paper}
use Rattle.promises.proofs.Rounds.{rounds}
use Rattle.promises.proofs.ShutOut.{shut_out}
use Rattle.promises.proofs.Witnesses.{witnesses}

pub kept : Promises
kept =
    record {
      first = demand1;
      second = demand2;
      third = demand3;
      rounds = rounds;
      witnesses = witnesses;
      paper = paper;
      example = example;
      shut_out = shut_out;
      once = once;
    }
