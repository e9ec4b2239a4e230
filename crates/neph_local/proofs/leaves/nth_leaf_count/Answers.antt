use Rattle.neph_memory.proofs.Leading.{named}
use Rattle.neph_local.proofs.leaves.nth_leaf_count.Goals as goal

pub nth_leaf-requires-clause-seat : goal.nth_leaf-requires-clause-seat
nth_leaf-requires-clause-seat g c = (c.requires.stands.fits, named _ _ c.requires.stands.names)
