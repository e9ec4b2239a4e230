use Rattle.std.proofs.Common.{sym, subst}
use Rattle.neph_tree.specs.Nodes.{Nodes, IsTree}
use Rattle.neph_tree.proofs.TreeLemmas.{IsTree-empty}
use Rattle.neph_tree.proofs.tree.Tree.new.Goals as goal

pub invariant_of-result : goal.invariant_of-result
invariant_of-result c = let Keeps : Nodes → Type 0 = λ nodes. IsTree nodes in subst Keeps (sym (c.new.ensures)) (IsTree-empty)
