use Rattle.std.proofs.Common.{sym, subst}
use Rattle.neph_evt.specs.Pairing.{IsPaired}
use Rattle.neph_evt.proofs.Keeping.{paired_send}
use Rattle.neph_evt.proofs.ports.Ports.send.Goals as goal

pub invariant_of-self : goal.invariant_of-self
invariant_of-self c = subst IsPaired (sym c.send.ensures.ports) (paired_send c.self.inside.table c.args.d c.get-in-Some.result c.in-Some.found.channel c.self.invariant)
