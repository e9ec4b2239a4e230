use Rattle.std.proofs.Common.{arith}
use Rattle.neph_local.proofs.Carrying.{forking_none}
use Rattle.neph_local.proofs.forking.fork_begin.Goals as goal

pub returns-clause-fork : goal.returns-clause-fork
returns-clause-fork g c = record {
  forks = record {
    fits = c.requires.fits;
    names = c.requires.names;
    forking = forking_none _ _ _ _ c.requires.sole c.requires.once c.requires.only;
  };
  began = omega arith;
  apart = c.requires.apart;
  enough = c.requires.enough;
}
