use Rattle.std.proofs.Common.{◌≡◌, take}
use Rattle.neph_tree.specs.Entries.{lent}
use Rattle.neph_tree.proofs.node_slab.NodeSlab.subtree.Given as goal

abbrev pub invariant-loop-node : goal.invariant-loop-node
invariant-loop-node l = l.nodes.items ≡ lent (take l.node-index l.node-items)
