use Rattle.neph_ring.proofs.Quiet.{children}
use Rattle.neph_ring.proofs.laws.child_network.Goals as goal

pub returns : goal.returns
returns c = children
