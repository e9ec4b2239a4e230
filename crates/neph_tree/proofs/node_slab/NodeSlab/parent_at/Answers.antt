use Rattle.std.proofs.Common.{◌≡◌, ◌∙◌, Some, List, ℕ, sym, ap, subst}
use Rattle.neph_base.specs.Path.{is_path}
use Rattle.neph_tree.specs.declared.node.Node.{Node}
use Rattle.neph_tree.specs.NodeSlab.{IsUp}
use Rattle.neph_tree.proofs.LinkLemmas.{alone_linked}
use Rattle.neph_tree.proofs.WalkLemmas.{above_of_node}
use Rattle.neph_tree.proofs.node_slab.NodeSlab.parent_at.Goals as goal

pub parent_of-requires-clause-path : goal.parent_of-requires-clause-path
parent_of-requires-clause-path c =
    ap (λ p. is_path p) c.deref.ensures.value ∙ (alone_linked c.args.self.now c.requires.linked).paths c.args.key c.in_ok-node.node.now (sym c.in_ok-node.ensures)

pub parent_of-requires-clause-above : goal.parent_of-requires-clause-above
parent_of-requires-clause-above c = λ d name child.
    above_of_node c.args.self.now c.requires.linked c.args.key c.in_ok-node.node.now (sym c.in_ok-node.ensures) c.deref.result.now d name c.deref.ensures.value child

pub returns : goal.returns
returns c = λ node at.
    let both : Some c.in_ok-node.node.now ≡ Some node = c.in_ok-node.ensures ∙ at in
    let one : c.in_ok-node.node.now ≡ node = cc in
    let P : List ℕ → Type 0 = λ p. IsUp c.args.self.now p c.parent_of.result in
    subst P (c.deref.ensures.value ∙ ap (λ (n : Node). n.path.items) one) c.parent_of.ensures
