use Rattle.std.proofs.Common.{◌≡◌, Some, List, ℕ, is_some, refl, sym, ap, subst, ◌∙◌}
use Rattle.neph_base.specs.Path.{is_path}
use Rattle.neph_tree.specs.declared.node.Node.{Node}
use Rattle.neph_tree.specs.Nodes.{without}
use Rattle.neph_tree.specs.NodeSlab.{nodes_of, IsUp}
use Rattle.neph_tree.proofs.LinkLemmas.{alone_linked}
use Rattle.neph_tree.proofs.WalkLemmas.{alone_removed, up_removed, node_removed}
use Rattle.neph_tree.proofs.node_slab.NodeSlab.remove_leaf.Goals as goal

pub parent_at-up-requires-clause-there : goal.parent_at-up-requires-clause-there
parent_at-up-requires-clause-there c = ap is_some c.requires.leaf.1

pub remove-node-requires : goal.remove-node-requires
remove-node-requires c = ap is_some c.requires.leaf.1

pub unlink-requires-clause-alone : goal.unlink-requires-clause-alone
unlink-requires-clause-alone c = alone_removed c.args.self.now (record c.args.self.now { nodes = c.remove-node.new.self }) c.args.leaf (alone_linked c.args.self.now c.requires.linked) c.remove-node.ensures.updates

pub unlink-requires-clause-path : goal.unlink-requires-clause-path
unlink-requires-clause-path c = ap (λ p. is_path p) c.deref.ensures.value ∙ (alone_linked c.args.self.now c.requires.linked).paths c.args.leaf c.remove-node.result c.remove-node.ensures.value

pub unlink-requires-clause-up : goal.unlink-requires-clause-up
unlink-requires-clause-up c =
    let node = c.remove-node.result in
    let mid = record c.args.self.now { nodes = c.remove-node.new.self } in
    let P : List ℕ → Type 0 = λ p. IsUp mid p c.parent_at-up.result in
    subst P (sym c.deref.ensures.value) (up_removed c.args.self.now mid c.args.leaf node node.path.items c.parent_at-up.result c.remove-node.ensures.value refl c.remove-node.ensures.updates (c.parent_at-up.ensures node c.remove-node.ensures.value))

pub returns-clause-linked : goal.returns-clause-linked
returns-clause-linked c =
    (node_removed c.args.self.now c.remove-node.new.self c.unlink.new.self c.args.leaf c.remove-node.result c.requires.leaf.0 c.deref.result.now c.requires.linked c.remove-node.ensures.value c.requires.leaf.1 c.requires.leaf.2 c.deref.ensures.value c.remove-node.ensures.updates c.remove-node.ensures.len c.unlink.ensures).0

pub returns-clause-nodes : goal.returns-clause-nodes
returns-clause-nodes c = λ node at.
    let both : Some c.remove-node.result ≡ Some node = sym c.remove-node.ensures.value ∙ at in
    let one : c.remove-node.result ≡ node = cc in
    (node_removed c.args.self.now c.remove-node.new.self c.unlink.new.self c.args.leaf c.remove-node.result c.requires.leaf.0 c.deref.result.now c.requires.linked c.remove-node.ensures.value c.requires.leaf.1 c.requires.leaf.2 c.deref.ensures.value c.remove-node.ensures.updates c.remove-node.ensures.len c.unlink.ensures).1
    ∙ ap (λ (n : Node). without (nodes_of c.args.self.now) n.path.items) one
