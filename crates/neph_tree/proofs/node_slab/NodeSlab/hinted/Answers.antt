use Rattle.std.proofs.Common.{sym, ◌∙◌}
use Rattle.neph_tree.proofs.WriteLemmas.{found_there}
use Rattle.neph_tree.proofs.node_slab.NodeSlab.hinted.Goals as goal

pub returns-then-stands_at : goal.returns-then-stands_at
returns-then-stands_at c = sym (found_there c.args.self.now c.requires c.args.path.now c.in_ok-key.key (sym c.stands_at.ensures ∙ c.if-stands_at.true))
