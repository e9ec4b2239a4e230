use Rattle.std.specs.FinMap.{len}
use Rattle.neph_tree.specs.Nodes.{subtree}
use Rattle.neph_tree.specs.NodeSlab.{nodes_of}
use Rattle.neph_tree.proofs.WriteLemmas.{path_at}
use Rattle.neph_tree.proofs.node_slab.NodeSlab.+leaf_at.Given as goal

abbrev pub decreases-leaf_at : goal.decreases-leaf_at
decreases-leaf_at l = len (subtree (nodes_of l.self.now) (path_at l.self.now l.key))
