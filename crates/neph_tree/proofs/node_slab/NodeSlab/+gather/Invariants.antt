use Rattle.std.proofs.Common.{◌≡◌, Some}
use Rattle.std.specs.Prelude.{T}
use Rattle.std.specs.FinMap.Entries.{is_sorted}
use Rattle.std.specs.List.{All}
use Rattle.std.specs.Map.{values_of}
use Rattle.std.specs.FinMap.{len}
use Rattle.neph_tree.specs.declared.node.Node.{Node}
use Rattle.neph_tree.specs.Entries.{lent, nodes_in}
use Rattle.neph_tree.specs.Nodes.{subtree}
use Rattle.neph_tree.specs.Node.{child_of}
use Rattle.neph_tree.specs.NodeSlab.{nodes_of, node_at, Gathers}
use Rattle.neph_tree.proofs.EntryLemmas.{order}
use Rattle.neph_tree.proofs.WriteLemmas.{path_at}
use Rattle.neph_tree.proofs.node_slab.NodeSlab.+gather.Given as goal

abbrev pub decreases-gather : goal.decreases-gather
decreases-gather l = len (subtree (nodes_of l.self.now) (path_at l.self.now l.key))

abbrev pub invariant-loop-child : goal.invariant-loop-child
invariant-loop-child l = record {
  gathers : (node : Node) → node_at l.self l.key ≡ Some node → Gathers l.self node.path.items (nodes_in l.fn.found.items) (nodes_in l.found.items) (values_of l.child-iterator);
  listed : (node : Node) → node_at l.self l.key ≡ Some node → All (λ e. child_of node e.0.items ≡ Some e.1) l.child-iterator;
  sorted : T (is_sorted order (lent l.found.items));
}
