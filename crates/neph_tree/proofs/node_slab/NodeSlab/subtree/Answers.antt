use Rattle.std.proofs.Common.{ap, ◌∙◌}
use Rattle.std.proofs.lemmas.List.{take_all}
use Rattle.neph_tree.specs.Entries.{lent}
use Rattle.neph_tree.proofs.node_slab.NodeSlab.subtree.Goals as goal

pub returns : goal.returns
returns c = c.loop-node.invariant ∙ ap (λ es. lent es) (take_all c.loop-node.node-index c.deref-node-items.result.now c.loop-node-test.false ∙ c.deref-node-items.ensures.value) ∙ c.in_ok-found.ensures
