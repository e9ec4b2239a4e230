use Rattle.std.proofs.Common.{ap, ◌∙◌}
use Rattle.std.specs.FinMap as map
use Rattle.neph_tree.proofs.node_map.NodeMap.contains.Goals as goal

pub returns : goal.returns
returns c = c.contains.ensures ∙ ap (λ m. map.contains_key m c.args.path.now) c.self.view_is
