use Rattle.std.proofs.Common.{sym, subst}
use Rattle.neph_evt.specs.Pairing.{IsPaired}
use Rattle.neph_evt.proofs.Pairs.{paired_empty}
use Rattle.neph_evt.proofs.ports.Ports.new.Goals as goal

pub invariant_of-result : goal.invariant_of-result
invariant_of-result c = subst IsPaired (sym c.in_ok-new.ensures) paired_empty
