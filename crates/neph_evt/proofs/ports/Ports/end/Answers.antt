use Rattle.std.proofs.Common.{sym, subst}
use Rattle.neph_evt.specs.Pairing.{IsPaired}
use Rattle.neph_evt.proofs.Pairs.{paired_end}
use Rattle.neph_evt.proofs.ports.Ports.end.Goals as goal

pub invariant_of-self : goal.invariant_of-self
invariant_of-self c = subst IsPaired (sym c.end.ensures.ports) (paired_end c.self.inside.table c.args.d c.self.invariant)
