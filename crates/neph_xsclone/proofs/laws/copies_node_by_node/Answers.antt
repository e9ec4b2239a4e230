use Rattle.neph_xsclone.proofs.NodeByNode as copying
use Rattle.neph_xsclone.proofs.laws.copies_node_by_node.Goals as goal

pub returns : goal.returns
returns c = copying.copies_node_by_node
