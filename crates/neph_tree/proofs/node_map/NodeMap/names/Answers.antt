use Rattle.std.proofs.Common.{◌≡◌, Some, None, cond, subst}
use Rattle.std.specs.Prelude.{IfOk}
use Rattle.std.specs.FinMap as map
use Rattle.neph_tree.specs.Nodes.{Nodes, child_names}
use Rattle.neph_tree.proofs.node_map.NodeMap.names.Goals as goal

pub returns-clause-names : goal.returns-clause-names
returns-clause-names c =
    let P : Nodes → Type 0 = λ m. IfOk c.names.result (λ names. names ≡ cond (map.contains_key m c.args.directory.now) (Some (child_names m c.args.directory.now)) None) in
    subst P c.self.view_is c.names.ensures.names
