use Rattle.std.proofs.Common.{sym, subst}
use Rattle.neph_evt.specs.Pairing.{IsPaired}
use Rattle.neph_evt.proofs.Keeping.{paired_take}
use Rattle.neph_evt.proofs.ports.Ports.take.Goals as goal

pub invariant_of-self : goal.invariant_of-self
invariant_of-self c = subst IsPaired (sym c.clear.ensures) (paired_take c.self.inside.table c.get.result _ c.self.invariant)
