use Rattle.std.proofs.Common.{ap, ◌∙◌}
use Rattle.std.specs.FinMap as map
use Rattle.neph_tree.proofs.node_map.NodeMap.get.Goals as goal

pub returns : goal.returns
returns c = c.get.ensures ∙ ap (λ m. map.get m c.args.path.now) c.self.view_is
