use Rattle.std.proofs.Common.{rules}
use Rattle.neph_ring.specs.Network.{head_of}
use Rattle.neph_ring.proofs.network.slot_head.Goals as goal

pub returns : goal.returns
unfolding head_of
returns c = search rules
