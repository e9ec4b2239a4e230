use Rattle.std.proofs.Common.{sym, subst}
use Rattle.neph_evt.specs.Pairing.{IsPaired}
use Rattle.neph_evt.proofs.Keeping.{paired_signal}
use Rattle.neph_evt.proofs.ports.Ports.signal.Goals as goal

pub invariant_of-self : goal.invariant_of-self
invariant_of-self c = subst IsPaired (sym c.signal.ensures) (paired_signal c.self.inside.table c.args.d c.get-kind.result c.self.invariant)
