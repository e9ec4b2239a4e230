use Rattle.std.proofs.Common.{◌≡◌, Option, Some, None, ℕ, List, sym}
use Rattle.std.specs.Prelude.{IfSome}
use Rattle.neph_tree.specs.declared.node.Node.{Node}
use Rattle.neph_tree.specs.declared.node_slab.NodeSlab.{NodeSlab}
use Rattle.neph_tree.specs.Node.{child_of}
use Rattle.neph_tree.specs.NodeSlab.{node_at}
use Rattle.neph_tree.proofs.node_slab.NodeSlab.first_child.Goals as goal

with_node : (t : NodeSlab) (key : ℕ) (node : Node) (r : Option ℕ) → Some node ≡ node_at t key → IfSome r (λ k. (name : List ℕ) × (child_of node name ≡ Some k)) → IfSome r (λ k. (n : Node) × (name : List ℕ) × (node_at t key ≡ Some n) × (child_of n name ≡ Some k))
with_node t key node None at h = tt
with_node t key node (Some k) at h = (node, h.0, sym at, h.1)

pub returns-clause-some : goal.returns-clause-some
returns-clause-some c = with_node c.args.self.now c.args.key c.in_ok-get.field-0.now c.first_child.result c.in_ok-get.ensures c.first_child.ensures.some
