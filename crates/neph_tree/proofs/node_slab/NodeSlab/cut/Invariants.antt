use Rattle.std.proofs.Common.{◌≡◌}
use Rattle.slab.specs.Slab.{slab_len}
use Rattle.neph_tree.specs.Nodes.{without}
use Rattle.neph_tree.specs.NodeSlab.{nodes_of, IsLinked}
use Rattle.neph_tree.proofs.node_slab.NodeSlab.cut.Given as goal

abbrev pub invariant-loop-key : goal.invariant-loop-key
invariant-loop-key l = record {
  linked : IsLinked l.self;
  rest : without (nodes_of l.self) l.top ≡ without (nodes_of l.fn.self) l.top;
}

abbrev pub decreases-loop-key : goal.decreases-loop-key
decreases-loop-key l = slab_len l.self.nodes
