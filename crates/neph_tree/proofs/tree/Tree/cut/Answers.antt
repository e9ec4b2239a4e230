use Rattle.std.proofs.Common.{sym, subst}
use Rattle.neph_tree.specs.Nodes.{Nodes, IsTree}
use Rattle.neph_tree.proofs.TreeLemmas.{IsTree-without}
use Rattle.neph_tree.proofs.tree.Tree.cut.Goals as goal

pub invariant_of-self : goal.invariant_of-self
invariant_of-self c = let Keeps : Nodes → Type 0 = λ nodes. IsTree nodes in subst Keeps (sym (c.cut.ensures)) (IsTree-without _ _ c.self.invariant)
