use Rattle.std.proofs.Common.{◌≡◌, subst}
use Rattle.std.specs.Prelude.{IfOk}
use Rattle.std.specs.FinMap as map
use Rattle.neph_tree.specs.Entries.{lent}
use Rattle.neph_tree.specs.Nodes.{Nodes, subtree}
use Rattle.neph_tree.proofs.node_map.NodeMap.within.Goals as goal

pub returns : goal.returns
returns c =
    let P : Nodes → Type 0 = λ m. IfOk c.within.result (λ nodes. lent nodes.items ≡ map.entries (subtree m c.args.top.now)) in
    subst P c.self.view_is c.within.ensures
