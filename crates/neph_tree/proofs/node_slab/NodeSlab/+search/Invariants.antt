use Rattle.std.proofs.Common.{length}
use Rattle.neph_tree.proofs.node_slab.NodeSlab.+search.Given as goal

abbrev pub decreases-search : goal.decreases-search
decreases-search l = length l.path.now
