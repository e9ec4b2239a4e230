use Rattle.std.proofs.Common.{refl}
use Rattle.neph_tree.proofs.WriteLemmas.{linked_empty}
use Rattle.neph_tree.proofs.node_slab.NodeSlab.new.Goals as goal

pub returns-clause-linked : goal.returns-clause-linked
returns-clause-linked c = linked_empty _ c.new.ensures.empty refl
