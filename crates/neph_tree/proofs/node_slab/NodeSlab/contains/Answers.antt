use Rattle.std.proofs.Common.{is_some, sym, ap, ◌∙◌}
use Rattle.neph_tree.proofs.LinkLemmas.{same_paths}
use Rattle.neph_tree.proofs.node_slab.NodeSlab.contains.Goals as goal

pub returns : goal.returns
returns c = c.is_some.ensures ∙ ap is_some c.find.ensures ∙ sym (same_paths c.args.self.now c.requires c.args.path.now)
