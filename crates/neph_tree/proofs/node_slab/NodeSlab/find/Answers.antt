use Rattle.std.proofs.Common.{sym, ◌∙◌}
use Rattle.neph_tree.proofs.WriteLemmas.{found_none, found_there, found_other}
use Rattle.neph_tree.proofs.node_slab.NodeSlab.find.Goals as goal

pub returns-in_err-key : goal.returns-in_err-key
returns-in_err-key c = rw c.from_residual.ensures (found_none c.args.self.now c.requires c.args.path.now c.search.result c.search.ensures c.in_err-key.was)

pub returns-then-stands_at : goal.returns-then-stands_at
returns-then-stands_at c = found_there c.args.self.now c.requires c.args.path.now c.in_ok-key.key (sym c.stands_at.ensures ∙ c.if-stands_at.true)

pub returns-else-stands_at : goal.returns-else-stands_at
returns-else-stands_at c = found_other c.args.self.now c.requires c.args.path.now c.in_ok-key.key (λ k h. sym c.in_ok-key.was ∙ c.search.ensures k h) (sym c.stands_at.ensures ∙ c.if-stands_at.false)
